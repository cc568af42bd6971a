use Rattle.std.proofs.Common.{rules, ◌≡◌, ◌∙◌, [], subst, refl}
use Rattle.serde_json.specs.Written.{WritesValue}
use Rattle.serde_json.specs.Data.{string}
use Rattle.lw_json.specs.Journal.{head_data}
use Rattle.lw_json.proofs.EachLemmas.{no_float_items}
use Rattle.lw_json.proofs.Faults.{value_holds}
use Rattle.lw_json.specs.Journal.{IsJournalLine}
use Rattle.lw_json.specs.bodies.Tokens.{IsLineOf}
use Rattle.lw_json.proofs.journal_writer.journal_header.Goals as goal

pub returns : goal.returns
returns c =
    let d = head_data c.args.inputs.now in
    let out = c.put_head.new.out in
    let start : c.new-out.result.before ≡ [] = search rules in
    let put : WritesValue d [] out.tokens = subst (λ old. WritesValue d old out.tokens) c.new-out.ensures.tokens c.in_ok-put_head.ensures.tokens in
    value_holds (λ text. IsLineOf out text.items) (λ text. IsJournalLine d text.items) c.line.result (λ text h. h d (rw (no_float_items string (λ _. refl) c.args.inputs.now) refl) (c.in_ok-put_head.ensures.before ∙ start) put) c.line.ensures
