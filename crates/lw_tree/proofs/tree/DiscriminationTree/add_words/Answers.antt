use Rattle.std.proofs.Common.{rules, ◌≡◌, ◌<◌, ℕ, List, [], ◌∷◌, ◌++◌, Contains, sym, ◌∙◌, ap, subst, append-nil}
use Rattle.std.proofs.lemmas.List.Elements.{All-append}
use Rattle.lw_words.specs.Word.{IsWord}
use Rattle.lw_tree.specs.Grown.{IsLevelWord}
use Rattle.lw_tree.specs.Tree.{TreeState, discriminator}
use Rattle.lw_tree.specs.bodies.Transitions.{word_of, content_by}
use Rattle.lw_tree.proofs.AskedLemmas.{level_word, level_long, level_pushed}
use Rattle.lw_tree.proofs.ListingLemmas.{added_two, pushed_last, pushed_two, all_pushed, no_discriminator}
use Rattle.lw_tree.proofs.tree.DiscriminationTree.add_words.Goals as goal

pub returns-in_ok-push-2 : goal.returns-in_ok-push-2
returns-in_ok-push-2 c =
    let u : TreeState = c.args.self.now in
    let edge = c.args.edge in
    let a : ℕ = u.inputs in
    let suffix = c.in-Discriminator.suffix in
    let now = c.push-in-Discriminator.new.self in
    let word : c.in_ok-word.word ≡ word_of u edge = c.in_ok-word.ensures.value in
    let tail : discriminator (content_by u edge) ≡ suffix = ap discriminator (sym c.content_of.ensures.value ∙ c.in-Discriminator.is) in
    let long : c.in_ok-long.long ≡ c.in_ok-word.word ++ suffix = search rules in
    let whole : c.in_ok-long.long ≡ word_of u edge ++ discriminator (content_by u edge) = long ∙ (ap (λ (w : List ℕ). w ++ suffix) word ∙ ap (λ (d : List ℕ). word_of u edge ++ d) (sym tail)) in
    let both = pushed_two c.args.words.now c.push.new.self now c.in_ok-word.word c.in_ok-long.long c.in_ok-push.ensures.ok c.in_ok-push-2.ensures.ok in
    let letters : IsWord a c.in_ok-long.long = subst (IsWord a) (sym long) (All-append (λ x. x < a) c.in_ok-word.word suffix c.in_ok-word.ensures.letters (subst (IsWord a) tail c.content_of.ensures.letters)) in
    record {
      more = (c.in_ok-word.word ∷ c.in_ok-long.long ∷ [], added_two c.args.words.now c.push.new.self now c.in_ok-word.word c.in_ok-long.long c.in_ok-push.ensures.ok c.in_ok-push-2.ensures.ok);
      asked = λ stands. (subst (Contains now) word both.0, subst (Contains now) whole both.1);
      letters = λ each. all_pushed a c.push.new.self now c.in_ok-long.long c.in_ok-push-2.ensures.ok letters (all_pushed a c.args.words.now c.push.new.self c.in_ok-word.word c.in_ok-push.ensures.ok c.in_ok-word.ensures.letters each);
      level = λ stands each. level_pushed u c.push.new.self now c.in_ok-long.long c.in_ok-push-2.ensures.ok (subst (IsLevelWord u) (sym whole) (level_long u edge c.requires.edge stands)) (level_pushed u c.args.words.now c.push.new.self c.in_ok-word.word c.in_ok-push.ensures.ok (subst (IsLevelWord u) (sym word) (level_word u edge c.requires.edge stands)) each);
    }

pub returns-in_ok-push-3 : goal.returns-in_ok-push-3
returns-in_ok-push-3 c =
    let u : TreeState = c.args.self.now in
    let edge = c.args.edge in
    let none : discriminator (content_by u edge) ≡ [] = ap discriminator (sym c.content_of.ensures.value) ∙ no_discriminator c.content_of.result.now c.in_default.not-Discriminator in
    let word : c.in_ok-word.word ≡ word_of u edge = c.in_ok-word.ensures.value in
    let now = c.push-in_default.new.self in
    let has : Contains now (word_of u edge) = subst (Contains now) word (pushed_last c.args.words.now now c.in_ok-word.word c.in_ok-push-3.ensures.ok) in
    record {
      more = (c.in_ok-word.word ∷ [], c.in_ok-push-3.ensures.ok);
      asked = λ stands. (has, subst (Contains now) (sym (append-nil (word_of u edge)) ∙ ap (λ (d : List ℕ). word_of u edge ++ d) (sym none)) has);
      letters = λ each. all_pushed u.inputs c.args.words.now now c.in_ok-word.word c.in_ok-push-3.ensures.ok c.in_ok-word.ensures.letters each;
      level = λ stands each. level_pushed u c.args.words.now now c.in_ok-word.word c.in_ok-push-3.ensures.ok (subst (IsLevelWord u) (sym word) (level_word u edge c.requires.edge stands)) each;
    }
