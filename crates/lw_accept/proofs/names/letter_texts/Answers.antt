use Rattle.std.proofs.Common.{◌≡◌, ◌∙◌, ◌<◌, ◌≤◌, ◌+◌, ◌++◌, ◌∷◌, [], List, ℕ, length, map, take, string_bytes, ap, arith, sym}
use Rattle.std.proofs.lemmas.List.{drop-append-le, length-take-le, map_push, take_more}
use Rattle.std.proofs.lemmas.Option.{slice_get_within, get_or_from_slice_get}
use Rattle.lw_accept.proofs.names.letter_texts.Goals as goal

pub loop-n-preserved : goal.loop-n-preserved
loop-n-preserved c =
    let names : List (List ℕ) = c.args.asked.now in
    let lt : c.loop-n.n < length names = slice_get_within names c.loop-n.n c.name.result.now c.name.ensures.value in
    let name : string_bytes c.in_ok-from_str.field-0 ≡ c.name.result.now = c.in_ok-from_str.ensures.ok in
    let more : take (c.loop-n.n + 1) names ≡ take c.loop-n.n names ++ c.name.result.now ∷ [] =
    take_more names c.loop-n.n c.name.result.now lt ∙ ap (λ (t : List ℕ). take c.loop-n.n names ++ t ∷ []) (get_or_from_slice_get names c.loop-n.n c.name.result.now c.name.result.now c.name.ensures.value) in
    let some : 1 ≤ length (take c.loop-n.n names) = omega (arith, c.loop-n.invariant.0, length-take-le c.loop-n.n names (omega (arith, lt))) in (
      omega (arith, c.loop-n.invariant.0),
      ap (map (λ s. string_bytes s)) c.in_ok-push.ensures.items ∙ (map_push (λ s. string_bytes s) c.loop-n.list.items c.in_ok-from_str.field-0
          ∙ rw (c.loop-n.invariant.1, name, more) (sym (drop-append-le 1 (take c.loop-n.n names) (c.name.result.now ∷ []) some))),
    )
