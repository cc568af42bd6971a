use Rattle.std.specs.List.{AllWithin}
use Rattle.lw_words.specs.Word.{IsWholeKept}
use Rattle.lw_json.proofs.answers_reader.first_uneven.Given as goal

abbrev pub invariant-loop-place : goal.invariant-loop-place
invariant-loop-place l = AllWithin IsWholeKept l.kept.answers 0 l.place
