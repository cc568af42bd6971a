use Rattle.std.proofs.Common.{map, take}
use Rattle.lw_words.specs.bodies.Numbers.{AreNumbers}
use Rattle.lw_words.proofs.names.numbered.Given as goal

abbrev pub invariant-loop-place : goal.invariant-loop-place
invariant-loop-place l = AreNumbers l.numbers (take l.place (map (λ t. t.now) l.names))
