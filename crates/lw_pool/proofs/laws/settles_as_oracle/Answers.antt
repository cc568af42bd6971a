use Rattle.lw_pool.proofs.PoolLemmas.{oracle_settled}
use Rattle.lw_pool.proofs.laws.settles_as_oracle.Goals as goal

pub returns : goal.returns
returns g c batch before now result settled = oracle_settled batch before now result settled
