use Rattle.std.proofs.Common.{drop}
use Rattle.serde_json.specs.View.{view}
use Rattle.serde_json.specs.Find.{as_bool}
use Rattle.lw_json.proofs.EachLemmas.{Going}
use Rattle.lw_accept.proofs.reader.bits.Given as goal

abbrev pub invariant-loop-item : goal.invariant-loop-item
invariant-loop-item l = Going view as_bool l.all.items (drop l.item-index l.items) l.items
