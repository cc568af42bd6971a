use Rattle.serde_json.specs.View.{view}
use Rattle.lw_json.specs.AnswersFault.{HasAnswersFault, SaysAnswersFault, answers_tests}
use Rattle.lw_json.specs.Formats.{Document, whole, IsDocument, IsAnswersFile, SaysAnswers, SpellsAnswers, WrittenAnswers}
use Rattle.lw_json.specs.bodies.AnswersParts.{said_answers}
use Rattle.lw_json.proofs.Faults.{fault_holds, handed_on, misshapen, said_fault, value_holds}
use Rattle.lw_json.proofs.answers_reader.read_whole.Goals as goal

pub returns-in_err-said-clause-err : goal.returns-in_err-said-clause-err
returns-in_err-said-clause-err c =
    let d : Document = whole (view c.in_ok-root.root) in
    let read : IsDocument c.args.bytes.now d = (c.requires, c.in_ok-root.ensures.ok) in
    handed_on (HasAnswersFault c.args.bytes.now) c.from_residual-in_err-said.result c.in_err-said.field-0.0 c.from_residual-in_err-said.ensures.1
    (misshapen IsDocument answers_tests SaysAnswers SaysAnswersFault c.args.bytes.now d c.in_err-said.field-0.0 read c.in_err-said.ensures.err)

pub returns-clause-ok : goal.returns-clause-ok
returns-clause-ok c =
    let d : Document = whole (view c.in_ok-root.root) in
    let read : IsDocument c.args.bytes.now d = (c.requires, c.in_ok-root.ensures.ok) in
    let w : WrittenAnswers = said_answers c.in_ok-said.said in
    value_holds (SpellsAnswers w) (IsAnswersFile c.args.bytes.now) c.answers_of.result (λ a h. (d, read, (w, c.in_ok-said.ensures.ok, h))) c.answers_of.ensures.ok

pub returns-clause-err : goal.returns-clause-err
returns-clause-err c =
    let d : Document = whole (view c.in_ok-root.root) in
    let read : IsDocument c.args.bytes.now d = (c.requires, c.in_ok-root.ensures.ok) in
    let w : WrittenAnswers = said_answers c.in_ok-said.said in
    fault_holds (SaysAnswersFault w) (HasAnswersFault c.args.bytes.now) c.answers_of.result
    (λ told h. said_fault IsDocument answers_tests SaysAnswers SaysAnswersFault c.args.bytes.now d w (λ h. h) (λ field h. h) read c.in_ok-said.ensures.ok told h) c.answers_of.ensures.err
