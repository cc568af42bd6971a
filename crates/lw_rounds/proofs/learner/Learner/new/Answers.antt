use Rattle.lw_rounds.proofs.LearnerLemmas.{new_table_is, new_tree_is}
use Rattle.lw_rounds.proofs.PlainLemmas.{table_made, no_table}
use Rattle.lw_rounds.specs.declared.learner.Kind.{Kind}
use Rattle.lw_rounds.specs.bodies.Rounds.{IsNew}
use Rattle.std.proofs.Common.{sym, subst}
use Rattle.lw_rounds.proofs.learner.Learner.new.Goals.{in-Table+in_ok-new-in-Table, in-Ttt+in_ok-new-in-Ttt}
use Rattle.lw_rounds.proofs.learner.Learner.new.Goals as goal

pub returns-clause-is_new : goal.returns-clause-is_new
returns-clause-is_new c = elim c.match-settings.branch [
  | in-Table+in_ok-new-in-Table w ↦ subst (λ (k : Kind). IsNew k c.args.inputs c.args.outputs c.args.settings.max_states c.match-settings.result) (sym w.in-Table.is)
      (new_table_is c.args.inputs c.args.outputs c.args.settings.max_states c.match-settings.result w.in_ok-new-in-Table.field-0 w.in_ok-new-in-Table.ensures.value w.result-is)
  | in-Ttt+in_ok-new-in-Ttt w ↦ subst (λ (k : Kind). IsNew k c.args.inputs c.args.outputs c.args.settings.max_states c.match-settings.result) (sym w.in-Ttt.is)
      (new_tree_is c.args.inputs c.args.outputs c.args.settings.max_states c.match-settings.result w.in_ok-new-in-Ttt.field-0 w.in_ok-new-in-Ttt.ensures.value w.result-is)
]

pub returns-clause-table : goal.returns-clause-table
returns-clause-table c = elim c.match-settings.branch [
  | in-Table+in_ok-new-in-Table w ↦ table_made c.args.settings.kind c.args.inputs c.args.outputs c.args.settings.max_states c.match-settings.result w.in_ok-new-in-Table.field-0 w.in_ok-new-in-Table.ensures.value w.result-is
  | in-Ttt+in_ok-new-in-Ttt w ↦ no_table c.args.settings.kind c.args.inputs c.args.outputs c.args.settings.max_states c.match-settings.result w.in-Ttt.is
]
