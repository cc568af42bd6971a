use Rattle.lw_links.proofs.KeepLemmas.{read_owner}
use Rattle.lw_links.proofs.links.Lists.owner.Goals as goal

pub returns : goal.returns
returns c = read_owner _ _ _ c.self.view_is c.self.invariant c.args.cell _ c.requires c.index.ensures
