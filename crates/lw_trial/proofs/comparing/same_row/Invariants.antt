use Rattle.std.proofs.Common.{◌≡◌, ℕ, ◌<◌}
use Rattle.lw_mealy.specs.Machine.{cell}
use Rattle.lw_trial.proofs.comparing.same_row.Given as goal

abbrev pub invariant-loop-letter : goal.invariant-loop-letter
invariant-loop-letter l = record {
  same : (x : ℕ) → x < l.letter → cell l.one.rows l.state x ≡ cell l.other.rows l.state x;
}
