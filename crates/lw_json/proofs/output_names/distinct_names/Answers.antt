use Rattle.std.proofs.Common.{◌≡◌, ◌∙◌, [], drop, map, sym, ap, arith, List}
use Rattle.std.specs.List.{flat_map}
use Rattle.std.specs.Str.{bytes_eq}
use Rattle.std.proofs.lemmas.List.{drop_all}
use Rattle.indexmap.specs.IndexSet.{insert_all}
use Rattle.lw_json.specs.Formats.{names_of_text}
use Rattle.lw_json.specs.bodies.AnswersParts.{said_answer}
use Rattle.lw_json.specs.declared.said_answer.SaidAnswer.{SaidAnswer}
use Rattle.lw_json.proofs.OutputNames.{all_inserted}
use Rattle.lw_json.proofs.output_names.distinct_names.Goals as goal

pub returns : goal.returns
returns c =
    let l = c.loop-answer in
    let answers = c.args.answers.now in
    let none : drop l.answer-index answers ≡ [] = drop_all l.answer-index answers (omega arith) in
    ap (λ (rest : List SaidAnswer). insert_all bytes_eq (map (λ n. n.now) l.names.keys) (flat_map (λ a. names_of_text a.outs) (map said_answer rest))) (sym none)
    ∙ (l.invariant ∙ all_inserted (flat_map (λ a. names_of_text a.outs) (map said_answer answers)))
