use Rattle.std.proofs.Common.{◌≡◌, ◌∙◌, ◌+◌, [], ◌∷◌, drop, map, sym, ap, subst, arith, Bor, List}
use Rattle.std.proofs.lemmas.List.{drop_all, drop_more}
use Rattle.serde_json.specs.View.{items_of}
use Rattle.serde_json.specs.Written.{WritesItems}
use Rattle.lw_words.specs.declared.kept.KeptAnswer.{KeptAnswer}
use Rattle.lw_json.specs.AnswersText.{answer_data}
use Rattle.lw_json.proofs.TokenLemmas.{writes_end, writes_item, writes_list}
use Rattle.lw_json.proofs.answers_tokens.put_list.Goals as goal

pub loop-answer-init : goal.loop-answer-init
loop-answer-init c = (c.begin_array.ensures.room.0, λ end w. writes_list _ _ _ _ c.in_ok-begin_array.ensures.ok w)

pub loop-answer-preserved : goal.loop-answer-preserved
loop-answer-preserved c =
    let l = c.loop-answer in
    let xs = c.args.answers.now in
    let x = c.answer-item.result in
    let put = c.in_ok-put_answer.ensures in
    let here : drop l.answer-index xs ≡ x ∷ drop (l.answer-index + 1) xs = drop_more xs l.answer-index x (omega arith) ∙ ap (λ y. y ∷ drop (l.answer-index + 1) xs) (sym c.answer-item.is) in (
      put.before ∙ l.invariant.0,
      λ end rest. l.invariant.1 end (subst (λ (ys : List (Bor KeptAnswer)). WritesItems (items_of (map (answer_data c.args.inputs.now c.args.outputs.now) (map (λ k. k.now) ys))) l.out.tokens end) (sym here)
          (writes_item (answer_data c.args.inputs.now c.args.outputs.now x.now) _ _ _ _ put.tokens rest)),
    )

pub returns : goal.returns
returns c =
    let l = c.loop-answer in
    let none : drop l.answer-index c.args.answers.now ≡ [] = drop_all l.answer-index c.args.answers.now (omega arith) in
    record {
      before = c.end_array.ensures.room.0 ∙ l.invariant.0;
      tokens = l.invariant.1 _ (subst (λ (ys : List (Bor KeptAnswer)). WritesItems (items_of (map (answer_data c.args.inputs.now c.args.outputs.now) (map (λ k. k.now) ys))) l.out.tokens c.end_array.new.self.tokens) (sym none) (writes_end _ _ c.in_ok-end_array.ensures.ok));
    }
