use Rattle.lw_cache.proofs.ClashLemmas.{given_never_clash}
use Rattle.lw_cache.proofs.laws.given_never_clash.Goals as goal

pub returns : goal.returns
returns c = given_never_clash
