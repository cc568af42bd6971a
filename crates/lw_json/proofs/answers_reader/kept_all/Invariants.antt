use Rattle.std.proofs.Common.{drop, map}
use Rattle.std.specs.List.{AllWithin}
use Rattle.lw_json.specs.Formats.{numbered_answer}
use Rattle.lw_json.specs.AnswersFault.{AnswerHasWords}
use Rattle.lw_json.specs.bodies.AnswersParts.{said_answer}
use Rattle.lw_json.proofs.EachLemmas.{Going}
use Rattle.lw_json.proofs.answers_reader.kept_all.Given as goal

abbrev pub invariant-loop-place : goal.invariant-loop-place
invariant-loop-place l = record {
  so_far : Going said_answer (numbered_answer l.inputs l.outputs) l.kept.answers (drop l.place l.answers) l.answers;
  words : AllWithin (AnswerHasWords l.inputs l.outputs) (map said_answer l.answers) 0 l.place;
}
