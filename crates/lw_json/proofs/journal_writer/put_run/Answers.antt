use Rattle.std.proofs.Common.{◌∙◌, ℕ, ◌∷◌, ◌++◌, [], ap, arith, decimal}
use Rattle.json.specs.Token.{begin_array, end_array, number, string}
use Rattle.lw_json.proofs.TokenLemmas.{behind, writes_four}
use Rattle.lw_json.proofs.journal_writer.put_run.Goals as goal

pub returns : goal.returns
returns c =
    let word = c.args.word.now in
    let outs = c.args.outs.now in
    let from_outs = behind _ (string outs ∷ []) _ (end_array ∷ []) _ c.in_ok-string-2.ensures.ok c.in_ok-end_array.ensures.ok in
    let from_word = behind _ (string word ∷ []) _ _ _ c.in_ok-string.ensures.ok from_outs in
    let from_run = behind _ (number (decimal c.args.run) ∷ []) _ _ _ c.in_ok-u64-2.ensures.ok from_word in
    let from_instance = behind _ (number (decimal c.args.instance) ∷ []) _ _ _ (c.in_ok-u64.ensures.ok ∙ ap (λ (n : ℕ). c.begin_array.new.self.tokens ++ number (decimal n) ∷ []) c.from.ensures) from_run in
    let all = behind _ (begin_array ∷ []) _ _ _ c.in_ok-begin_array.ensures.ok from_instance in
    record {
      before = c.end_array.ensures.room.0 ∙ c.string-2.ensures.room.0 ∙ c.string.ensures.room.0 ∙ c.u64-2.ensures.room.0 ∙ c.u64.ensures.room.0 ∙ c.begin_array.ensures.room.0;
      tokens = writes_four c.args.instance c.args.run word outs _ _ (omega arith) (omega arith) all;
    }
