use Rattle.std.proofs.Common.{◌≡◌, map, string_bytes, ◌∙◌, sym, ap}
use Rattle.std.specs.Bool.{Decides}
use Rattle.lw_words.proofs.NumberLemmas.{same_names}
use Rattle.lw_words.proofs.names.Names.same.Goals as goal

pub returns : goal.returns
returns c =
    let h : Decides c.eq.result (map (λ s. string_bytes s) c.as_slice.result.now ≡ map (λ s. string_bytes s) c.as_slice-2.result.now) = same_names (λ s. string_bytes s) _ _ _ c.eq.ensures in
    let one : map (λ s. string_bytes s) c.as_slice.result.now ≡ c.args.self.now = ap (map (λ s. string_bytes s)) c.as_slice.ensures.value ∙ c.self.view_is in
    let two : map (λ s. string_bytes s) c.as_slice-2.result.now ≡ c.args.other.now = ap (map (λ s. string_bytes s)) c.as_slice-2.ensures.value ∙ c.other.view_is in
    (λ yes. sym one ∙ (h.0 yes ∙ two), λ same. h.1 (one ∙ (same ∙ sym two)))
