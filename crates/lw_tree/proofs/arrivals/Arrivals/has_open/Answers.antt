use Rattle.std.proofs.Common.{rules, ◌≡◌, is_some, Some, ◌∙◌, subst, ℕ}
use Rattle.lw_links.specs.Owners.{ListsByOwner, first_of, owner_of}
use Rattle.lw_tree.proofs.ArrivalLemmas.{open_some}
use Rattle.lw_tree.proofs.arrivals.Arrivals.has_open.Goals as goal

pub returns-clause-some : goal.returns-clause-some
returns-clause-some c is =
    let v = c.self.inside.lists in
    let same : is_some (first_of v 0) ≡ c.is_some.result = search rules in
    subst (λ (w : ListsByOwner). (k : ℕ) × (owner_of w k ≡ Some 0)) c.self.view_is (open_some v c.has_each_once.ensures (same ∙ is))
