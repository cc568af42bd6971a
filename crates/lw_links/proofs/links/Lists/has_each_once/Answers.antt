use Rattle.lw_links.proofs.KeepLemmas.{read_each_once}
use Rattle.lw_links.proofs.links.Lists.has_each_once.Goals as goal

pub returns : goal.returns
returns c = read_each_once _ _ _ c.self.view_is c.self.invariant
