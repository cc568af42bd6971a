use Rattle.std.proofs.Common.{◌≡◌, ◌++◌, drop, map, option_map}
use Rattle.serde_json.specs.View.{view}
use Rattle.lw_json.specs.Formats.{pairs_from}
use Rattle.lw_json.specs.bodies.AnswersParts.{said_answer}
use Rattle.lw_json.proofs.answer_shapes.pairs.Given as goal

abbrev pub invariant-loop-place : goal.invariant-loop-place
invariant-loop-place l = option_map (λ rest. map said_answer l.answers.items ++ rest) (pairs_from l.place (map view (drop l.place l.items))) ≡ pairs_from 0 (map view l.items)
