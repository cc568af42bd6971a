use Rattle.std.proofs.Common.{◌≡◌, ◌+◌, ◌≤◌, List, ◌++◌, length}
use Rattle.lw_words.specs.Word.{answers_of}
use Rattle.lw_tree.specs.bodies.Sprouts.{IsSprout}
use Rattle.lw_tree.specs.declared.nodes.Node.{Node}
use Rattle.lw_tree.proofs.tree.DiscriminationTree.grow.Given as goal

abbrev pub invariant-loop-place : goal.invariant-loop-place
invariant-loop-place l = record {
  some : (base : List Node) × (length base ≡ length l.self.nodes) × IsSprout (answers_of l.cache.kept) l.self.inputs l.self.access (length l.self.nodes) (base ++ l.sprout.nodes.items) l.sprout.leaves.items (length l.self.nodes + l.place);
  within : l.place ≤ length l.sprout.nodes.items;
  grown : (base : List Node) → length base ≡ length l.self.nodes →
      IsSprout (answers_of l.cache.kept) l.self.inputs l.self.access (length l.self.nodes) (base ++ l.initial.sprout.nodes.items) l.initial.sprout.leaves.items (length l.self.nodes) →
      IsSprout (answers_of l.cache.kept) l.self.inputs l.self.access (length l.self.nodes) (base ++ l.sprout.nodes.items) l.sprout.leaves.items (length l.self.nodes + l.place);
}
