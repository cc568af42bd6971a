use Rattle.std.proofs.Common.{rules, subst, arith}
use Rattle.lw_links.specs.Owners.{ListsByOwner}
use Rattle.lw_tree.specs.bodies.Arrivals.{HasSplitList}
use Rattle.lw_tree.proofs.ArrivalLemmas.{split_first}
use Rattle.lw_tree.proofs.arrivals.Arrivals.split.Goals as goal

pub returns-else-state-gt0 : goal.returns-else-state-gt0
returns-else-state-gt0 c =
    subst (λ (v : ListsByOwner). HasSplitList v c.move_all.new.self c.args.state c.args.edge) c.self.view_is
    (split_first c.self.inside.lists c.move_all.new.self c.args.state c.args.edge (search rules) (search rules) (omega arith))
