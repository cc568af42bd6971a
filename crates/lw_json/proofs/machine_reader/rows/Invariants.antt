use Rattle.std.proofs.Common.{map, drop}
use Rattle.serde_json.specs.View.{view}
use Rattle.lw_json.specs.Formats.{row_of}
use Rattle.lw_json.proofs.EachLemmas.{Going}
use Rattle.lw_json.proofs.machine_reader.rows.Given as goal

abbrev pub invariant-loop-item : goal.invariant-loop-item
invariant-loop-item l = Going view row_of (map (λ w. map (λ c. (c.0, c.1.now)) w.items) l.all.items) (drop l.item-index l.items) l.items
