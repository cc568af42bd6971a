use Rattle.lw_pool.proofs.PoolLemmas.{oracle_settled}
use Rattle.lw_sessions_tests.proofs.tests.pool.kept_by_pool.Goals as goal

pub kept_by-first-requires-clause-can : goal.kept_by-first-requires-clause-can
kept_by-first-requires-clause-can g c = record {
  may = λ p batch letters few. (letters, (few, record { shared = c.type_bounds.sync-R.shared }));
  settles = λ p left batch result called. oracle_settled batch.now p.now left.now result called;
}
