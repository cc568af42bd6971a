use Rattle.std.proofs.Common.{◌≡◌, take}
use Rattle.lw_tree.proofs.tree.DiscriminationTree.with_word.Given as goal

abbrev pub invariant-loop-known : goal.invariant-loop-known
invariant-loop-known l = l.words ≡ take l.known-index l.self.access
