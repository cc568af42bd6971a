use Rattle.std.proofs.Common.{arith}
use Rattle.lw_cache.proofs.reckoning.end_of.Goals as goal

pub unreachable-requires : goal.unreachable-requires
unreachable-requires c = c.loop-claim.invariant c.requires.0 (omega (arith, c.requires.1, c.loop-claim-test.false)) c.requires.2
