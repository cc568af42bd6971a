use Rattle.lw_tree.proofs.ListedLemmas.{listed_open}
use Rattle.lw_tree.proofs.tree.DiscriminationTree.open_numbers.Goals as goal

pub returns-clause-numbers : goal.returns-clause-numbers
returns-clause-numbers c = listed_open c.self.view_is c.self.invariant c.open_numbers.result c.open_numbers.ensures
