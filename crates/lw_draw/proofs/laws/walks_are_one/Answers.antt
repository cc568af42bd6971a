use Rattle.lw_draw.proofs.WalkLemmas.{one_walks}
use Rattle.lw_draw.proofs.laws.walks_are_one.Goals as goal

pub returns : goal.returns
returns c = one_walks
