use Rattle.std.proofs.Common.{◌≡◌, ◌++◌, take, drop}
use Rattle.lw_words.specs.Renumbering.{renumbered_answers}
use Rattle.lw_words.proofs.kept.renumber.Given as goal

abbrev pub invariant-loop-answer : goal.invariant-loop-answer
invariant-loop-answer l = l.answers ≡ renumbered_answers l.to (take l.answer-index l.fn.answers) ++ drop l.answer-index l.fn.answers
