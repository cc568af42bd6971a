use Rattle.std.proofs.Common.{map, drop, string_bytes}
use Rattle.serde_json.specs.View.{view}
use Rattle.serde_json.specs.Find.{as_str}
use Rattle.lw_json.proofs.EachLemmas.{Going}
use Rattle.lw_json.proofs.members.texts.Given as goal

abbrev pub invariant-loop-item : goal.invariant-loop-item
invariant-loop-item l = Going view as_str (map (λ s. string_bytes s) l.all.items) (drop l.item-index l.items) l.items
