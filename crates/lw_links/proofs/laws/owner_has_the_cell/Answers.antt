use Rattle.lw_links.proofs.WayLemmas.{owner_has}
use Rattle.lw_links.proofs.laws.owner_has_the_cell.Goals as goal

pub returns : goal.returns
returns c = owner_has
