use Rattle.std.proofs.Common.{◌≢◌, ℕ, ◌<◌, ◌≤◌}
use Rattle.lw_tree.specs.Tree.{node_at}
use Rattle.lw_tree.proofs.sprouts.find_branch.Given as goal

abbrev pub invariant-loop-place : goal.invariant-loop-place
invariant-loop-place l = (j : ℕ) → l.front ≤ j → j < l.place → (node_at l.nodes j).branch ≢ l.branch
