use Rattle.std.proofs.Common.{◌∙◌, ◌<◌, length, get_or, ap, sym, subst, arith}
use Rattle.std.specs.List.{All}
use Rattle.std.proofs.lemmas.List.{take_at}
use Rattle.std.specs.Vec.{with_items}
use Rattle.lw_mealy.specs.Machine.{Row}
use Rattle.lw_mealy.specs.Renumbering.{renumbered_cells}
use Rattle.lw_mealy.proofs.RenumberLemmas.{row_holds, row_put}
use Rattle.lw_mealy.proofs.mealy.renumber_rows.Goals as goal

pub renumber_row-requires : goal.renumber_row-requires
renumber_row-requires c =
    let P = λ (r : Row). All (λ c'. c'.1 < length c.args.to.now) r in
    subst P (sym (c.as_mut_slice.ensures.value ∙ ap (λ r. r.items) (sym c.row-item.is)))
    (row_holds (λ r. r.items) (renumbered_cells c.args.to.now) c.args.rows.now c.loop-row.rows c.loop-row.row-index c.row-item.result (omega arith) c.loop-row-test.true c.loop-row.invariant c.row-item.is P c.requires)

pub loop-row-preserved : goal.loop-row-preserved
loop-row-preserved c =
    row_put (λ r. r.items) (renumbered_cells c.args.to.now) c.args.rows.now c.loop-row.rows c.loop-row.row-index c.row-item.result (omega arith) c.loop-row-test.true c.loop-row.invariant c.row-item.is
    (with_items (get_or c.loop-row.rows c.loop-row.row-index c.row-item.result) c.renumber_row.new.row) (take_at c.renumber_row.new.row _ _ (omega arith) ∙ (c.renumber_row.ensures ∙ ap (renumbered_cells c.args.to.now) (c.as_mut_slice.ensures.value ∙ ap (λ r. r.items) (sym c.row-item.is))))
