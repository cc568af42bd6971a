-- What a learning leaves of its pool.
use Rattle.std.specs.Prelude.{◌≡◌, length, Option}
use Rattle.lw_cache.specs.Settling.{Leaves}
use Rattle.lw_cache.specs.declared.stops.AskStop.{AskStop}
use Rattle.lw_pool.specs.Pool.{PoolState, seen_of}
use Rattle.lw_pool.specs.Sharing.{oracle_of}
use Rattle.lw_pool.specs.Standing.{PoolStands}

-- a pool once a learning with it has ended, by the stop that this answers, or None where it answers anything else: all is left
-- as a learning leaves its oracle, the pool holds good, and what it began with is as it was
pub record HasLearned {S : Type 0} (before now : PoolState S) (stop : Option AskStop) : Type 0 where
  pub leaves : Leaves (oracle_of before) (oracle_of now) stop
  pub stands : PoolStands now
  pub prior : now.prior ≡ before.prior
  pub sessions : length (seen_of now) ≡ length (seen_of before)
