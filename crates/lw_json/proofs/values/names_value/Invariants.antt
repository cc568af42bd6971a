use Rattle.std.proofs.Common.{◌≡◌, map, take}
use Rattle.serde_json.specs.View.{view}
use Rattle.serde_json.specs.Data.{string}
use Rattle.lw_json.proofs.values.names_value.Given as goal

abbrev pub invariant-loop-n : goal.invariant-loop-n
invariant-loop-n l = map view l.items.items ≡ map string (take l.n l.names)
