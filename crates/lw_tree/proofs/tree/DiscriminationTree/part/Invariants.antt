use Rattle.std.proofs.Common.{◌≡◌, ℕ, ◌≤◌, List, ◌++◌, length}
use Rattle.lw_words.specs.Word.{answers_of}
use Rattle.lw_tree.specs.Tree.{leaf_at}
use Rattle.lw_tree.specs.bodies.Sprouts.{IsOpen}
use Rattle.lw_tree.specs.declared.nodes.Node.{Node}
use Rattle.lw_tree.proofs.PartingLemmas.{IsParting}
use Rattle.lw_tree.proofs.tree.DiscriminationTree.part.Given as goal

abbrev pub invariant-loop-state : goal.invariant-loop-state
invariant-loop-state l = record {
  each : length l.sprout.leaves.items ≡ length l.self.access;
  longer : length l.initial.sprout.nodes.items ≤ length l.sprout.nodes.items;
  left : (q : ℕ) → l.state ≤ q → leaf_at l.sprout.leaves.items q ≡ leaf_at l.initial.sprout.leaves.items q;
  parting : (base : List Node) (next : ℕ) → length base ≡ length l.self.nodes →
      IsOpen (answers_of l.cache.kept) l.self.inputs l.self.access (length l.self.nodes) (base ++ l.initial.sprout.nodes.items) l.initial.sprout.leaves.items next l.number l.word →
      IsParting (answers_of l.cache.kept) l.self.inputs l.self.access (length l.self.nodes) (base ++ l.initial.sprout.nodes.items) l.initial.sprout.leaves.items next l.number l.word l.state (base ++ l.sprout.nodes.items) l.sprout.leaves.items;
}
