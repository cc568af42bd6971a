use Rattle.std.proofs.Common.{map, drop}
use Rattle.std.specs.List.{AllWithin}
use Rattle.lw_json.specs.Formats.{numbered_cell}
use Rattle.lw_json.specs.MachineFault.{HasOutputIn}
use Rattle.lw_json.proofs.EachLemmas.{Going}
use Rattle.lw_json.proofs.machine_reader.numbered_row.Given as goal

abbrev pub invariant-loop-letter : goal.invariant-loop-letter
invariant-loop-letter l = record {
  so_far : Going (λ c. (c.0, c.1.now)) (numbered_cell l.outputs) l.cells.items (drop l.letter l.row) l.row;
  known : AllWithin (HasOutputIn l.outputs) (map (λ c. (c.0, c.1.now)) l.row) 0 l.letter;
}
