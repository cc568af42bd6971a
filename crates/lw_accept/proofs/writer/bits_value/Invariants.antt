use Rattle.std.proofs.Common.{◌≡◌, map, take}
use Rattle.serde_json.specs.Data.{boolean}
use Rattle.serde_json.specs.View.{view}
use Rattle.lw_accept.proofs.writer.bits_value.Given as goal

abbrev pub invariant-loop-state : goal.invariant-loop-state
invariant-loop-state l = map view l.bits.items ≡ map boolean (take l.state l.a.automaton.accepting)
