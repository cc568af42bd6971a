use Rattle.std.proofs.Common.{◌≡◌, [], drop, map}
use Rattle.indexmap.specs.IndexSet.{insert_all}
use Rattle.std.specs.List.{flat_map}
use Rattle.std.specs.Str.{bytes_eq}
use Rattle.lw_json.specs.Formats.{names_of_text}
use Rattle.lw_json.specs.bodies.AnswersParts.{said_answer}
use Rattle.lw_json.proofs.output_names.distinct_names.Given as goal

abbrev pub invariant-loop-answer : goal.invariant-loop-answer
invariant-loop-answer l =
    insert_all bytes_eq (map (λ n. n.now) l.names.keys) (flat_map (λ a. names_of_text a.outs) (map said_answer (drop l.answer-index l.answers)))
    ≡ insert_all bytes_eq [] (flat_map (λ a. names_of_text a.outs) (map said_answer l.answers))
