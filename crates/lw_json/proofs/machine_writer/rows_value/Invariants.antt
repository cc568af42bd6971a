use Rattle.std.proofs.Common.{◌≡◌, map, take}
use Rattle.serde_json.specs.View.{view}
use Rattle.lw_json.specs.MachineText.{row_data}
use Rattle.lw_json.proofs.machine_writer.rows_value.Given as goal

abbrev pub invariant-loop-state : goal.invariant-loop-state
invariant-loop-state l = map view l.rows.items ≡ map (row_data l.outputs) (take l.state l.mealy.rows)
