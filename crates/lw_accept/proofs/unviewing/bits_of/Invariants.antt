use Rattle.std.proofs.Common.{◌≡◌, map, take}
use Rattle.lw_accept.specs.bodies.Unviewed.{bit_of}
use Rattle.lw_accept.proofs.unviewing.bits_of.Given as goal

abbrev pub invariant-loop-state : goal.invariant-loop-state
invariant-loop-state l = l.bits.items ≡ map bit_of (take l.state l.mealy.rows)
