use Rattle.std.proofs.Common.{rules, []}
use Rattle.lw_tree.specs.bodies.Steps.{leaf_below}
use Rattle.lw_tree.proofs.LinkLemmas.{root_linked}
use Rattle.lw_tree.proofs.linked.Nodes.of_root.Goals as goal

pub invariant_of-result : goal.invariant_of-result
invariant_of-result c = root_linked c.in_ok-the_root.field-0.items c.in_ok-new.field-0 (leaf_below 0 [] 0) c.in_ok-the_root.ensures (search rules) (search rules) c.in_ok-new.ensures.owners
