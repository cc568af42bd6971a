use Rattle.std.proofs.Common.{◌≡◌, ℕ, ◌+◌, ◌<◌, List, [], ◌∷◌, ◌++◌, length, take, sym, ap, ◌∙◌, append_assoc, arith}
use Rattle.std.proofs.lemmas.List.{take_more}
use Rattle.std.proofs.lemmas.Option.{get_or_from_slice_get}
use Rattle.lw_names.specs.Naming.{Naming, bring, own_names}
use Rattle.lw_names.proofs.Bringing.{bring_more}
use Rattle.lw_names.proofs.out_names.OutNames.bring.Goals as goal

pub loop-i-preserved : goal.loop-i-preserved
loop-i-preserved c =
    let names = c.args.names.now in
    let a : ℕ = c.args.actor in
    let i : ℕ = c.loop-i.i in
    let lt : i < length names = omega arith in
    let front : take i names ++ c.get.result.now ∷ [] ≡ take (i + 1) names =
    ap (λ (x : List ℕ). take i names ++ x ∷ []) (sym (get_or_from_slice_get names i c.get.result.now [] c.get.ensures)) ∙ sym (take_more names i [] lt) in
    record {
      brings = c.bring_one.ensures.brings
          ∙ (ap (λ (n : Naming). bring n a (c.get.result.now ∷ [])) c.loop-i.invariant.brings
          ∙ (bring_more c.args.self.now a (take i names) (c.get.result.now ∷ [])
          ∙ ap (bring c.args.self.now a) front));
      own = c.bring_one.ensures.own
          ∙ (ap (λ (l : List (List ℕ)). l ++ c.get.result.now ∷ []) c.loop-i.invariant.own
          ∙ (append_assoc (own_names c.args.self.now a) (take i names) (c.get.result.now ∷ [])
          ∙ ap (λ (l : List (List ℕ)). own_names c.args.self.now a ++ l) front));
    }
