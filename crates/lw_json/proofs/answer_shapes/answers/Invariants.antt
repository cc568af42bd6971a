use Rattle.std.proofs.Common.{drop, map}
use Rattle.serde_json.specs.View.{view}
use Rattle.lw_json.specs.Formats.{written_answer_of}
use Rattle.lw_json.specs.bodies.AnswersParts.{said_answer}
use Rattle.lw_json.proofs.EachLemmas.{Going}
use Rattle.lw_json.proofs.answer_shapes.answers.Given as goal

abbrev pub invariant-loop-item : goal.invariant-loop-item
invariant-loop-item l = Going view written_answer_of (map said_answer l.all.items) (drop l.item-index l.items) l.items
