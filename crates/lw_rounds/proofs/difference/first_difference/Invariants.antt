use Rattle.std.specs.List.{AllWithin}
use Rattle.lw_words.specs.Word.{answers_of}
use Rattle.lw_rounds.specs.bodies.Conformance.{AgreesOn}
use Rattle.lw_rounds.proofs.difference.first_difference.Given as goal

abbrev pub invariant-loop-word : goal.invariant-loop-word
invariant-loop-word l = AllWithin (AgreesOn l.model.rows (answers_of l.cache.kept)) l.words 0 l.word-index
