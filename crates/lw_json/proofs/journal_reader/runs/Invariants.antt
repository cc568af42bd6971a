use Rattle.std.proofs.Common.{◌≡◌, ◌++◌, drop, map, option_map}
use Rattle.serde_json.specs.View.{view}
use Rattle.lw_json.specs.Formats.{run_answers}
use Rattle.lw_json.specs.bodies.AnswersParts.{said_answer}
use Rattle.lw_json.proofs.journal_reader.runs.Given as goal

abbrev pub invariant-loop-value : goal.invariant-loop-value
invariant-loop-value l = option_map (λ rest. map said_answer l.answers.items ++ rest) (run_answers (map view (drop l.value-index l.values))) ≡ run_answers (map view l.values)
