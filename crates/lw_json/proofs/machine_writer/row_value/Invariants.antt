use Rattle.std.proofs.Common.{◌≡◌, map, take}
use Rattle.serde_json.specs.View.{view}
use Rattle.lw_mealy.specs.Machine.{row}
use Rattle.lw_json.specs.MachineText.{cell_data}
use Rattle.lw_json.proofs.machine_writer.row_value.Given as goal

abbrev pub invariant-loop-letter : goal.invariant-loop-letter
invariant-loop-letter l = map view l.cells.items ≡ map (cell_data l.outputs) (take l.letter (row l.mealy.rows l.state))
