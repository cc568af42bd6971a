use Rattle.std.proofs.Common.{subst}
use Rattle.lw_links.specs.Owners.{ListsByOwner}
use Rattle.lw_tree.specs.bodies.Arrivals.{IsListing}
use Rattle.lw_tree.proofs.ArrivalLemmas.{sorted_listing}
use Rattle.lw_tree.proofs.arrivals.Arrivals.open_numbers.Goals as goal

pub returns : goal.returns
returns c =
    subst (λ (w : ListsByOwner). IsListing w c.sort_unstable.new.self.items) c.self.view_is
    (sorted_listing c.self.inside.lists c.in_ok-numbers.numbers.items c.sort_unstable.new.self.items c.has_each_once.ensures c.in_ok-numbers.ensures c.sort_unstable.ensures.permutation c.sort_unstable.ensures.sorted)
