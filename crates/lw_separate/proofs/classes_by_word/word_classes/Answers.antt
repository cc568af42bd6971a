use Rattle.std.proofs.Common.{rules, ◌≡◌, ℕ, List, [], Vec, Global, get_or, subst, sym, ap, ◌∙◌}
use Rattle.std.proofs.lemmas.List.{get_or_default}
use Rattle.lw_separate.specs.WordClasses.{AreClassesOn}
use Rattle.lw_separate.proofs.PushLemmas.{EachOf, each_push}
use Rattle.lw_separate.proofs.classes_by_word.word_classes.Goals as goal

pub loop-word-preserved : goal.loop-word-preserved
loop-word-preserved c =
    let h = c.loop-word.invariant in
    let P : ℕ → List ℕ → Type 0 = λ k classes. AreClassesOn c.args.m.now.rows (get_or c.args.words.now k []) classes in
    let items : List (List ℕ) = c.as_slice-word-items.result.now in
    let at : c.word-item.result ≡ get_or c.args.words.now c.loop-word.word-index [] =
    c.word-item.is ∙ (get_or_default items c.loop-word.word-index c.word-item.result [] c.loop-word-test.true ∙ ap (λ (ws : List (List ℕ)). get_or ws c.loop-word.word-index []) c.as_slice-word-items.ensures) in
    let here : P c.loop-word.word-index c.in_ok-classes_on.field-0.items = subst (λ (w : List ℕ). AreClassesOn c.args.m.now.rows w c.in_ok-classes_on.field-0.items) at c.in_ok-classes_on.ensures in
    record {
      long = search rules;
      each = subst (λ (l : List (Vec ℕ Global)). EachOf (λ (v : Vec ℕ Global). v.items) P l) (sym c.in_ok-push.ensures.items)
          (each_push (λ (v : Vec ℕ Global). v.items) P c.loop-word.classes.items c.loop-word.word-index c.in_ok-classes_on.field-0 h.long h.each here);
    }
