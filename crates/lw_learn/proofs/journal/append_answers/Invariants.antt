use Rattle.std.proofs.Common.{◌≡◌}
use Rattle.lw_learn.proofs.journal.append_answers.Given as goal

abbrev pub invariant-loop-place : goal.invariant-loop-place
invariant-loop-place g l = g.P.Spawner.state l.spawner ≡ g.P.Spawner.state l.initial.spawner
