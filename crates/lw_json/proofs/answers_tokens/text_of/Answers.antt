use Rattle.std.proofs.Common.{rules, ◌≡◌, ◌∙◌, ◌++◌, [], map, sym, ap, subst}
use Rattle.std.specs.Str.{IsUtf8}
use Rattle.json.specs.Lex.{tokens}
use Rattle.json.specs.Print.{print}
use Rattle.serde_json.specs.Written.{IsInOrder, WritesValue}
use Rattle.serde_json.proofs.Texts.{print-outline, tokens_from_order}
use Rattle.lw_json.specs.AnswersText.{answers_data}
use Rattle.lw_json.proofs.AnswersRoundTrip.{answers_depth, no_float}
use Rattle.lw_json.proofs.TokenLemmas.{reads_value}
use Rattle.lw_json.proofs.answers_tokens.text_of.Goals as goal

pub returns-clause-text : goal.returns-clause-text
returns-clause-text c =
    let inputs = c.args.inputs.now in
    let outputs = c.args.outputs.now in
    let ks = map (λ k. k.now) c.args.answers.now in
    let d = answers_data inputs outputs ks in
    let ts = c.put_file.new.out.tokens in
    let made = c.into_inner.result.items in
    let start : c.new-out.result.before ≡ [] = search rules in
    let text : made ≡ print ts = c.into_inner.ensures.items ∙ ap (λ b. b ++ print ts) (c.in_ok-put_file.ensures.value.before ∙ start) in
    let same : tokens made ≡ ts = ap tokens text ∙ c.into_inner.ensures.reads_back in
    let w : WritesValue d [] ts = subst (λ old. WritesValue d old ts) c.new-out.ensures.tokens c.in_ok-put_file.ensures.value.tokens in
    let order : IsInOrder made d = (w.0, same ∙ w.1, w.4) in
    let printed : made ≡ print (tokens made) = text ∙ ap print (sym same) in
    record {
      compact = printed ∙ ap print (tokens_from_order made d order (no_float inputs outputs ks)) ∙ print-outline d;
      printed = printed;
      utf8 = subst IsUtf8 (sym text) c.into_inner.ensures.utf8;
      order = order;
      read = reads_value d ts made w same (answers_depth inputs outputs ks);
    }
