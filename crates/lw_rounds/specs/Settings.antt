-- The ranges of the numbers of a learning.
use Rattle.std.specs.Prelude.{ℕ, ◌≤◌}

-- this many workers, extra states and greatest number of states
pub record AreInRange (workers extra most : ℕ) : Type 0 where
  pub some_worker : 1 ≤ workers
  pub few_workers : workers ≤ 16
  pub few_extra : extra ≤ 4
  pub some_state : 1 ≤ most
  pub few_states : most ≤ 1024
