use Rattle.std.proofs.Common.{map, drop}
use Rattle.serde_json.specs.View.{view}
use Rattle.lw_json.proofs.EachLemmas.{Going}
use Rattle.lw_accept.specs.AcceptorFile.{targets_of}
use Rattle.lw_accept.proofs.reader.rows.Given as goal

abbrev pub invariant-loop-item : goal.invariant-loop-item
invariant-loop-item l = Going view targets_of (map (λ r. r.items) l.all.items) (drop l.item-index l.items) l.items
