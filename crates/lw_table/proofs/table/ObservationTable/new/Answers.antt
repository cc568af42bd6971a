use Rattle.std.proofs.Common.{nat_eq, sym, subst}
use Rattle.std.specs.HashMap.{get}
use Rattle.lw_table.specs.Table.{TableState, IsTable}
use Rattle.lw_table.proofs.NewLemmas.{made_new, new_is_table, new_is_indexed}
use Rattle.lw_table.proofs.table.ObservationTable.new.Goals as goal

pub returns-clause-value : goal.returns-clause-value
returns-clause-value c =
    made_new c.args.inputs c.args.outputs c.args.max_states c.in_ok-access.access c.in_ok-access.suffixes c.new-classes.result c.in_ok-rows.rows.items c.in_ok-rows.homes.items
    c.in_ok-access.ensures.access c.in_ok-access.ensures.suffixes c.new-classes.ensures c.in_ok-rows.ensures.rows c.in_ok-rows.ensures.homes

pub returns-clause-table : goal.returns-clause-table
returns-clause-table c =
    subst (λ (t : TableState). IsTable t) (sym (returns-clause-value c)) (new_is_table c.args.inputs c.args.outputs c.args.max_states c.requires.inputs c.requires.outputs c.requires.max_states)

pub invariant_of-result : goal.invariant_of-result
invariant_of-result c =
    let made = returns-clause-value c in (
      subst (λ (t : TableState). IsTable t) (sym made) (new_is_table c.args.inputs c.args.outputs c.args.max_states c.requires.inputs c.requires.outputs c.requires.max_states),
      new_is_indexed c.new-classes.result c.in_ok-rows.rows.items c.in_ok-rows.homes.items (get nat_eq c.in_ok-states.states) c.args.inputs c.new-classes.ensures c.in_ok-rows.ensures.rows c.in_ok-rows.ensures.homes c.in_ok-states.ensures,
    )
