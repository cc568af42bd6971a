use Rattle.std.proofs.Common.{◌∙◌, ℕ, List, ◌∷◌, ◌++◌, [], ap, arith, decimal}
use Rattle.json.specs.Token.{begin_array, end_array, number, string}
use Rattle.lw_words.specs.Word.{word_text}
use Rattle.lw_json.proofs.TokenLemmas.{behind, writes_four}
use Rattle.lw_json.proofs.answers_tokens.put_answer.Goals as goal

pub returns : goal.returns
returns c =
    let k = c.args.answer.now in
    let word = word_text c.args.inputs.now k.word in
    let outs = word_text c.args.outputs.now k.outs in
    let from_outs = behind _ (string outs ∷ []) _ (end_array ∷ []) _ (c.in_ok-put_text-2.ensures.tokens ∙ ap (λ (w : List ℕ). c.put_text.new.out.tokens ++ string (word_text c.args.outputs.now w) ∷ []) c.as_slice-2.ensures) c.in_ok-end_array.ensures.ok in
    let from_word = behind _ (string word ∷ []) _ _ _ (c.in_ok-put_text.ensures.tokens ∙ ap (λ (w : List ℕ). c.u64-2.new.self.tokens ++ string (word_text c.args.inputs.now w) ∷ []) c.as_slice.ensures) from_outs in
    let from_run = behind _ (number (decimal k.run) ∷ []) _ _ _ c.in_ok-u64-2.ensures.ok from_word in
    let from_instance = behind _ (number (decimal k.instance) ∷ []) _ _ _ (c.in_ok-u64.ensures.ok ∙ ap (λ (n : ℕ). c.begin_array.new.self.tokens ++ number (decimal n) ∷ []) c.from.ensures) from_run in
    let all = behind _ (begin_array ∷ []) _ _ _ c.in_ok-begin_array.ensures.ok from_instance in
    record {
      before = c.end_array.ensures.room.0 ∙ c.in_ok-put_text-2.ensures.before ∙ c.in_ok-put_text.ensures.before ∙ c.u64-2.ensures.room.0 ∙ c.u64.ensures.room.0 ∙ c.begin_array.ensures.room.0;
      tokens = writes_four k.instance k.run word outs _ _ (omega arith) (omega arith) all;
    }
