use Rattle.lw_cache.proofs.ClashLemmas.{all_are_clear}
use Rattle.lw_cache.proofs.laws.all_are_clear.Goals as goal

pub returns : goal.returns
returns c = all_are_clear
