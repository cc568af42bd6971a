use Rattle.std.proofs.Common.{ℕ, sym, subst, ap, ◌∙◌}
use Rattle.lw_plain.specs.Table.{first_table}
use Rattle.lw_plain.specs.Over.{IsOver}
use Rattle.lw_plain.proofs.OverLemmas.{over_first}
use Rattle.lw_plain_run.proofs.learning.closed_table.Goals as goal

pub close-requires-clause-over : goal.close-requires-clause-over
close-requires-clause-over c =
    let a = c.args.m.now.inputs in
    subst (IsOver a) (sym (c.in_ok-table.ensures ∙ ap (λ (n : ℕ). first_table n c.args.given.now) c.inputs.ensures.value)) (over_first a c.args.given.now c.requires.given)
