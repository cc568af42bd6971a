use Rattle.lw_wp.specs.Identification.{identification_below}
use Rattle.lw_wp.specs.bodies.Chosen.{Chooses}
use Rattle.lw_wp.proofs.identification_sets.numbers_of.Given as goal

abbrev pub invariant-loop-p : goal.invariant-loop-p
invariant-loop-p l = Chooses l.by.words l.numbers.items (identification_below l.m.rows l.by.words l.q l.p)
