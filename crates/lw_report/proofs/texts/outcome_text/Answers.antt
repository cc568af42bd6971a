use Rattle.std.proofs.Common.{◌∙◌, ap, option_map}
use Rattle.lw_report.specs.Text.{names_of, text_of}
use Rattle.lw_report.proofs.TextLemmas.{at_values, fixed_or, not_own}
use Rattle.lw_report.proofs.texts.outcome_text.Goals as goal

pub returns-in_ok-from_str-in_default : goal.returns-in_ok-from_str-in_default
returns-in_ok-from_str-in_default c =
    let inputs = names_of (option_map (λ n. n.now) c.args.inputs) in
    let outputs = names_of (option_map (λ n. n.now) c.args.outputs) in
    let text = text_of inputs outputs c.args.kept.now.answers c.args.extra c.args.outcome.now in
    let other = c.in_default in
    let some = at_values (λ t. t.now) (λ i o k e. text_of i o k e c.args.outcome.now) c.fixed_text.result inputs outputs c.args.kept.now.answers c.args.extra c.fixed_text.ensures.some in
    c.in_ok-from_str-in_default.ensures.ok
    ∙ (ap (λ t. t.now) c.unwrap_or.ensures
    ∙ fixed_or (λ t. t.now) c.args.outcome.now c.fixed_text.result _ text (not_own c.args.outcome.now other.not-Learned other.not-Trial other.not-BadFile other.not-TooManyStates other.not-Yes other.not-No other.not-Nondeterministic other.not-SuiteTooLarge other.not-SulFailed other.not-Gone other.not-BadLine other.not-BadAsk other.not-Unstarted other.not-Compared other.not-Rechecked other.not-UnknownLetter other.not-Accepted other.not-BadAcceptor other.not-NotAcceptor) c.fixed_text.ensures.none some)
