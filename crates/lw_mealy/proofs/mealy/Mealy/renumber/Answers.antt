use Rattle.std.proofs.Common.{map, ap, subst, sym, ◌∙◌, arith}
use Rattle.std.proofs.lemmas.List.{take_at}
use Rattle.lw_mealy.specs.Machine.{MealyMachine, mealy_of, IsWithinLimits, Rows}
use Rattle.lw_mealy.specs.Renumbering.{renumbered_rows, AllRenumber}
use Rattle.lw_mealy.proofs.RenumberLemmas.{renumbered_within}
use Rattle.lw_mealy.proofs.mealy.Mealy.renumber.Goals as goal

pub invariant_of-self : goal.invariant_of-self
invariant_of-self c =
    let inside = c.self.inside in
    let to = c.args.to.now in
    let rows = map (λ r. r.items) inside.rows.items in
    let within = subst (λ (m : MealyMachine). AllRenumber c.args.outputs to m.rows) (sym c.self.view_is) c.requires.within in
    let put = take_at c.renumber_rows.new.rows _ _ (omega arith) in
    let new = ap (map (λ r. r.items)) put ∙ (c.renumber_rows.ensures ∙ ap (λ xs. renumbered_rows to (map (λ r. r.items) xs)) c.as_mut_slice.ensures.value) in
    subst (λ (rows : Rows). IsWithinLimits (mealy_of inside.inputs c.args.outputs rows)) (sym new)
    (renumbered_within (mealy_of inside.inputs inside.outputs rows) c.args.outputs to c.self.invariant c.requires.outputs within)
