use Rattle.std.proofs.Common.{drop, map}
use Rattle.serde_json.specs.View.{view}
use Rattle.lw_json.specs.Formats.{cell_of}
use Rattle.lw_json.proofs.EachLemmas.{Going}
use Rattle.lw_json.proofs.machine_reader.row.Given as goal

abbrev pub invariant-loop-item : goal.invariant-loop-item
invariant-loop-item l = Going view cell_of (map (λ c. (c.0, c.1.now)) l.cells.items) (drop l.item-index l.item-items) l.item-items
