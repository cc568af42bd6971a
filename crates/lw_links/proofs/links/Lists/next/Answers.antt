use Rattle.lw_links.proofs.KeepLemmas.{read_next}
use Rattle.lw_links.proofs.links.Lists.next.Goals as goal

pub returns : goal.returns
returns c = read_next _ _ _ c.self.view_is c.self.invariant c.args.cell _ c.requires c.index.ensures
