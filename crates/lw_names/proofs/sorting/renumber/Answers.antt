use Rattle.std.proofs.Common.{ℕ, ◌<◌, length, get_or, set, ap, ◌∙◌, arith}
use Rattle.std.proofs.lemmas.List.{get_or_default}
use Rattle.std.proofs.lemmas.List.Edits.{map_over_more}
use Rattle.lw_names.proofs.sorting.renumber.Goals as goal

pub loop-y-preserved : goal.loop-y-preserved
loop-y-preserved c =
    let numbers = c.loop-y.numbers in
    let i : ℕ = c.loop-y.y-index in
    let x : ℕ = get_or numbers i 0 in
    let within : i < length numbers = omega arith in
    ap (λ (n : ℕ). set numbers i (get_or c.args.to.now n 0)) c.from.ensures
    ∙ map_over_more (λ y. get_or c.args.to.now y 0) c.args.numbers.now numbers i x (omega arith) c.loop-y.invariant (get_or_default numbers i 0 x within)
