use Rattle.std.proofs.Common.{◌<◌, length}
use Rattle.lw_outside_tests.proofs.tests.outside.player.replies.Given as goal

abbrev pub invariant-loop-line : goal.invariant-loop-line
invariant-loop-line l = l.player < length l.m.mealy.rows
