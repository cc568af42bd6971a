use Rattle.std.proofs.Common.{◌≡◌, ℕ, ◌<◌, List, ◌++◌, ◌∷◌, [], length, take, get_or, ap, sym, ◌∙◌, arith}
use Rattle.std.proofs.lemmas.List.{take_more}
use Rattle.std.proofs.lemmas.Option.{get_or_from_slice_get}
use Rattle.lw_names.proofs.out_names.copy_names.Goals as goal

pub loop-n-preserved : goal.loop-n-preserved
loop-n-preserved c =
    let names = c.args.names.now in
    let n : ℕ = c.loop-n.n in
    let lt : n < length names = omega (arith, c.len-n-end.ensures.value, c.loop-n-test.true) in
    let here : c.in-Some.name ≡ get_or names n [] = c.in-Some.ensures.some ∙ sym (get_or_from_slice_get names n c.name.result.now [] c.name.ensures.value) in
    c.in_ok-push.ensures.items
    ∙ (ap (λ (l : List (List ℕ)). l ++ c.in-Some.name ∷ []) c.loop-n.invariant
    ∙ (ap (λ (x : List ℕ). take n names ++ x ∷ []) here ∙ sym (take_more names n [] lt)))
