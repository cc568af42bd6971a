use Rattle.lw_links.proofs.WayLemmas.{next_spells}
use Rattle.lw_links.proofs.laws.next_spells_each_list.Goals as goal

pub returns : goal.returns
returns c = next_spells
