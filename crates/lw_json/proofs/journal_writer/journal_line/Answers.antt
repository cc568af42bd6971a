use Rattle.std.proofs.Common.{rules, ◌≡◌, ◌∙◌, [], subst, refl}
use Rattle.serde_json.specs.Written.{WritesValue}
use Rattle.lw_json.specs.AnswersText.{run_data}
use Rattle.lw_json.proofs.Faults.{value_holds}
use Rattle.lw_json.specs.Journal.{IsJournalLine}
use Rattle.lw_json.specs.bodies.Tokens.{IsLineOf}
use Rattle.lw_json.proofs.journal_writer.journal_line.Goals as goal

pub returns : goal.returns
returns c =
    let d = run_data c.args.instance c.args.run c.args.word.now c.args.outs.now in
    let out = c.put_run.new.out in
    let start : c.new-out.result.before ≡ [] = search rules in
    let put : WritesValue d [] out.tokens = subst (λ old. WritesValue d old out.tokens) c.new-out.ensures.tokens c.in_ok-put_run.ensures.tokens in
    value_holds (λ text. IsLineOf out text.items) (λ text. IsJournalLine d text.items) c.line.result (λ text h. h d refl (c.in_ok-put_run.ensures.before ∙ start) put) c.line.ensures
