use Rattle.lw_apart.proofs.CoverLemmas.{covers_is_sure}
use Rattle.lw_apart.proofs.laws.covers_is_sure.Goals as goal

pub returns : goal.returns
returns c = covers_is_sure
