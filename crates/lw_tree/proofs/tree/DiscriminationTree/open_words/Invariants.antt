use Rattle.std.proofs.Common.{Contains}
use Rattle.std.specs.List.{All}
use Rattle.lw_words.specs.Word.{IsWord}
use Rattle.lw_tree.specs.Grown.{IsLevelWord}
use Rattle.lw_tree.specs.bodies.Transitions.{AreAsked}
use Rattle.lw_tree.proofs.LevelLemmas.{number_from}
use Rattle.lw_tree.proofs.tree.DiscriminationTree.open_words.Given as goal

abbrev pub invariant-loop-number : goal.invariant-loop-number
invariant-loop-number l = record {
  asked : AreAsked (Contains l.words) l.self 0 (number_from l.self l.numbers l.number-index);
  letters : All (IsWord l.self.inputs) l.words;
  level : All (IsLevelWord l.self) l.words;
}
