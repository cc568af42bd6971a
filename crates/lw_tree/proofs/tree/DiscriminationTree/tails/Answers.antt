use Rattle.std.proofs.Common.{◌≡◌, ◌<◌, inl, inr, List, ℕ, [], ◌++◌, length, sym, ◌∙◌, ap, subst}
use Rattle.std.proofs.lemmas.Option.{get_or_from_slice_get}
use Rattle.lw_words.specs.Word.{Answer, answers_of}
use Rattle.lw_mealy.specs.Machine.{output}
use Rattle.lw_cache.specs.Cut.{word_at}
use Rattle.lw_cache.specs.Known.{IsKnown, Reads}
use Rattle.lw_tree.specs.Grown.{cut_word}
use Rattle.lw_tree.specs.Tree.{TreeState, Tells}
use Rattle.lw_tree.specs.bodies.Cuts.{edge_of}
use Rattle.lw_tree.specs.bodies.Transitions.{word_of}
use Rattle.lw_tree.specs.declared.transitions.Edge.{Edge}
use Rattle.lw_tree.proofs.StepLemmas.{cut_splits, cut_target}
use Rattle.lw_tree.proofs.tree.DiscriminationTree.tails.Goals as goal

is_known : (ks : List Answer) (w o : List ℕ) → Reads ks w o → IsKnown ks w
is_known ks w o (inl none) = inl none.0
is_known ks w o (inr found) = inr (found.0, found.1, found.2)

pub get-target-requires : goal.get-target-requires
get-target-requires c =
    let u : TreeState = c.args.self.now in
    let cut = c.args.cut.now in
    let inside : cut.target < length u.access = cut_target (answers_of c.args.cache.now.kept) u cut [] [] c.requires.answers c.requires.cut in
    subst (λ (n : ℕ). n < length c.self.inside.access) (sym c.from.ensures) (subst (λ (v : TreeState). cut.target < length v.access) (sym c.self.view_is) inside)

pub read_tail-requires : goal.read_tail-requires
read_tail-requires c =
    let u : TreeState = c.args.self.now in
    let cut = c.args.cut.now in
    let ks = answers_of c.args.cache.now.kept in
    let at : c.get-target.result.now ≡ word_at u.access cut.target = sym (get_or_from_slice_get c.self.inside.access c.from.result c.get-target.result.now [] c.get-target.ensures) ∙ (ap (word_at c.self.inside.access) c.from.ensures ∙ ap (λ (v : TreeState). word_at v.access cut.target) c.self.view_is) in
    let s = c.requires.cut.2.separates in
    record {
      answers = (u.inputs, c.requires.answers);
      known = subst (λ (w : List ℕ). IsKnown ks (w ++ cut.suffix)) (sym at) (is_known ks (word_at u.access cut.target ++ cut.suffix) s.other s.other_read);
    }

pub read_tail-requires-2 : goal.read_tail-requires-2
read_tail-requires-2 c =
    let cut = c.args.cut.now in
    let s = c.requires.cut.2.separates in
    record {
      answers = (c.args.self.now.inputs, c.requires.answers);
      known = subst (λ (w : List ℕ). IsKnown (answers_of c.args.cache.now.kept) (w ++ cut.suffix)) (sym c.requires.word) (is_known (answers_of c.args.cache.now.kept) (cut_word c.args.self.now.access cut ++ cut.suffix) s.one s.one_read);
    }

pub returns : goal.returns
returns c =
    let u : TreeState = c.args.self.now in
    let cut = c.args.cut.now in
    let ks = answers_of c.args.cache.now.kept in
    let edge : Edge = edge_of cut in
    let at : c.get-target.result.now ≡ word_at u.access cut.target = sym (get_or_from_slice_get c.self.inside.access c.from.result c.get-target.result.now [] c.get-target.ensures) ∙ (ap (word_at c.self.inside.access) c.from.ensures ∙ ap (λ (v : TreeState). word_at v.access cut.target) c.self.view_is) in
    let old = c.in_ok-old.old in
    let new = c.in_ok-new.new in
    let told_old : Tells ks (word_at u.access cut.target) cut.suffix old = subst (λ (w : List ℕ). Tells ks w cut.suffix old) at c.in_ok-old.ensures.tells in
    let told_new : Tells ks (word_of u edge) cut.suffix new = subst (λ (w : List ℕ). Tells ks w cut.suffix new) c.requires.word c.in_ok-new.ensures.tells in
    record {
      output = output c.requires.cut.0 cut.state cut.letter;
      next = cut_splits ks u cut old new c.requires.answers c.requires.cut told_old told_new c.in_ok-old.ensures.size c.in_ok-new.ensures.size;
      old_told = told_old;
      new_told = told_new;
    }
