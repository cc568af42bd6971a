use Rattle.std.proofs.Common.{subst}
use Rattle.lw_tree.specs.Tree.{HasOpen, IsClosed}
use Rattle.lw_tree.proofs.ListedLemmas.{some_open, none_open}
use Rattle.lw_tree.proofs.tree.DiscriminationTree.has_open.Goals as goal

pub returns-clause-open : goal.returns-clause-open
returns-clause-open c is = subst HasOpen c.self.view_is (some_open _ c.self.inside.arrivals c.self.invariant.tree c.self.invariant.arrivals (c.has_open.ensures.some is))

pub returns-clause-closed : goal.returns-clause-closed
returns-clause-closed c is = subst IsClosed c.self.view_is (none_open _ c.self.inside.arrivals c.self.invariant.tree c.self.invariant.arrivals (c.has_open.ensures.none is))
