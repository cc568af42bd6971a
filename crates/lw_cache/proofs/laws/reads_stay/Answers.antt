use Rattle.lw_cache.proofs.GrowLemmas.{reads_stay}
use Rattle.lw_cache.proofs.laws.reads_stay.Goals as goal

pub returns : goal.returns
returns c = reads_stay
