use Rattle.std.proofs.Common.{ℕ, ◌<◌, length, get_or, set, ap, ◌∙◌, arith}
use Rattle.std.proofs.lemmas.List.{get_or_default}
use Rattle.std.proofs.lemmas.List.Edits.{map_over_more}
use Rattle.lw_mealy.proofs.mealy.renumber_row.Goals as goal

pub loop-cell-preserved : goal.loop-cell-preserved
loop-cell-preserved c =
    let row = c.loop-cell.row in
    let i : ℕ = c.loop-cell.cell-index in
    let x : ℕ × ℕ = get_or row i (0, 0) in
    let within : i < length row = omega arith in
    ap (λ (y : ℕ). set row i (x.0, get_or c.args.to.now y 0)) c.from.ensures
    ∙ map_over_more (λ c'. (c'.0, get_or c.args.to.now c'.1 0)) c.args.row.now row i x (omega arith) c.loop-cell.invariant (get_or_default row i (0, 0) x within)
