use Rattle.lw_cache.proofs.ClashLemmas.{clear_is_unclashed}
use Rattle.lw_cache.proofs.laws.clear_is_unclashed.Goals as goal

pub returns : goal.returns
returns c = clear_is_unclashed
