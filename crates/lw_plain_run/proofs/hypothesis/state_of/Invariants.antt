use Rattle.std.proofs.Common.{◌≡◌, ℕ, ◌<◌, [], false, get_or}
use Rattle.lw_plain.specs.Table.{has_same_row}
use Rattle.lw_plain_run.proofs.hypothesis.state_of.Given as goal

abbrev pub invariant-loop-state : goal.invariant-loop-state
invariant-loop-state l = (k : ℕ) → k < l.state → has_same_row l.m.rows l.table.suffixes l.word (get_or l.access-items k []) ≡ false
