use Rattle.std.proofs.Common.{ℕ, ◌<◌, MatchOption}
use Rattle.lw_settle.specs.bodies.Parting.{number_at, AreAllAlike, IsParting}
use Rattle.lw_settle.proofs.parting.find_parting.Given as goal

abbrev pub invariant-loop-state : goal.invariant-loop-state
invariant-loop-state l = MatchOption l.found ((q : ℕ) → q < l.state → AreAllAlike l.tree l.roots (number_at l.least q) q) (IsParting l.tree l.roots)
