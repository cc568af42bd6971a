use Rattle.std.proofs.Common.{map}
use Rattle.lw_json.specs.Formats.{WrittenAnswers}
use Rattle.lw_json.specs.AnswersFault.{SaysAnswersFault}
use Rattle.lw_json.specs.bodies.AnswersParts.{said_answer, written}
use Rattle.lw_json.proofs.AnswersFaults.{words_fault}
use Rattle.lw_json.proofs.Faults.{handed_on}
use Rattle.lw_json.proofs.answers_reader.kept_even.Goals as goal

pub returns-in_err-kept-clause-err : goal.returns-in_err-kept-clause-err
returns-in_err-kept-clause-err c =
    let w : WrittenAnswers = written c.args.inputs.now c.args.outputs.now (map said_answer c.args.answers.now) in
    handed_on (SaysAnswersFault w) c.from_residual.result c.in_err-kept.field-0.0 c.from_residual.ensures.1
    (words_fault w c.in_err-kept.field-0.0 c.requires.inputs c.requires.outputs c.in_err-kept.ensures.err)

pub returns-in-Some-clause-err : goal.returns-in-Some-clause-err
returns-in-Some-clause-err c = (c.requires.inputs, c.requires.outputs, (c.in_ok-kept.kept.answers, c.in_ok-kept.ensures.ok, c.in-Some.ensures.some))
