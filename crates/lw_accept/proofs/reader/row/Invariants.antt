use Rattle.std.proofs.Common.{drop}
use Rattle.serde_json.specs.View.{view}
use Rattle.lw_json.specs.Formats.{target_of}
use Rattle.lw_json.proofs.EachLemmas.{Going}
use Rattle.lw_accept.proofs.reader.row.Given as goal

abbrev pub invariant-loop-item : goal.invariant-loop-item
invariant-loop-item l = Going view target_of l.targets.items (drop l.item-index l.item-items) l.item-items
