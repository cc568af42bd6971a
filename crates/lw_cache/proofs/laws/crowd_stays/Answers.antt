use Rattle.lw_cache.proofs.GrowLemmas.{crowd_stays}
use Rattle.lw_cache.proofs.laws.crowd_stays.Goals as goal

pub returns : goal.returns
returns c = crowd_stays
