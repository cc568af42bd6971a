use Rattle.std.proofs.Common.{◌≡◌, map, take}
use Rattle.serde_json.specs.View.{view}
use Rattle.lw_accept.specs.AcceptorText.{targets_row_data}
use Rattle.lw_accept.proofs.writer.rows_value.Given as goal

abbrev pub invariant-loop-state : goal.invariant-loop-state
invariant-loop-state l = map view l.rows.items ≡ map targets_row_data (take l.state l.a.automaton.targets)
