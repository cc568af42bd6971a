use Rattle.std.proofs.Common.{take}
use Rattle.lw_plain_run.specs.bodies.Differences.{IsLeast}
use Rattle.lw_plain_run.proofs.difference.least_difference.Given as goal

abbrev pub invariant-loop-word : goal.invariant-loop-word
invariant-loop-word l = IsLeast l.m.rows l.h.rows (take l.word-index l.word-items) l.best
