use Rattle.lw_cache.proofs.GrowLemmas.{clear_stays}
use Rattle.lw_cache.proofs.laws.clear_stays.Goals as goal

pub returns : goal.returns
returns c = clear_stays
