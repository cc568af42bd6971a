use Rattle.std.proofs.Common.{◌≡◌, ℕ, ◌<◌}
use Rattle.lw_mealy.specs.Machine.{row}
use Rattle.lw_trial.proofs.comparing.same_rows.Given as goal

abbrev pub invariant-loop-state : goal.invariant-loop-state
invariant-loop-state l = record {
  same : (q : ℕ) → q < l.state → row l.one.rows q ≡ row l.other.rows q;
}
