use Rattle.std.proofs.Common.{rules, ◌≡◌, ◌≢◌, ℕ, ◌<◌, ◌≤◌, List, [], ◌++◌, length, refl, ap, sym, ◌∙◌, subst, arith}
use Rattle.lw_words.specs.Word.{answers_of}
use Rattle.lw_cache.specs.Cut.{word_at}
use Rattle.lw_cache.specs.Known.{IsKnown}
use Rattle.std.proofs.lemmas.List.{get_or_default}
use Rattle.std.proofs.lemmas.Option.{get_or_from_slice_get}
use Rattle.lw_tree.specs.Tree.{TreeState, leaf_at, Tells}
use Rattle.lw_tree.proofs.PartingLemmas.{parting_start, parting_skip, parting_descends, parting_done, descended_each, descended_longer, descended_left}
use Rattle.lw_tree.proofs.tree.DiscriminationTree.part.Goals as goal

pub loop-state-init : goal.loop-state-init
loop-state-init c =
    let s = c.args.sprout.now in
    record {
      each = c.requires.can.each;
      longer = omega arith;
      left = λ q le. refl;
      parting = λ base next long o. parting_start (answers_of c.args.cache.now.kept) c.args.self.now.inputs c.args.self.now.access (length c.args.self.now.nodes) (base ++ s.nodes.items) s.leaves.items next c.args.number c.args.word.now o;
    }

pub read_tail-requires-clause-known : goal.read_tail-requires-clause-known
read_tail-requires-clause-known c =
    let l = c.loop-state in
    let s = c.self.inside in
    let stand = l.sprout.leaves.items in
    let in_access : l.state < length s.access = search rules in
    let inside : l.state < length c.args.self.now.access = subst (λ (v : TreeState). l.state < length v.access) c.self.view_is in_access in
    let at : c.get.result.now ≡ word_at c.args.self.now.access l.state = sym (get_or_from_slice_get s.access l.state c.get.result.now [] c.get.ensures) ∙ ap (λ (v : TreeState). word_at v.access l.state) c.self.view_is in
    let here : leaf_at stand l.state ≡ c.args.number = sym (c.index.ensures ∙ get_or_default stand l.state c.index.result.now 0 (omega (arith, inside, l.invariant.each))) ∙ search rules in
    subst (λ (w : List ℕ). IsKnown (answers_of c.args.cache.now.kept) (w ++ c.args.word.now)) (sym at) (c.requires.can.known l.state inside (sym (l.invariant.left l.state (omega arith)) ∙ here))

pub loop-state-preserved-then-index-number : goal.loop-state-preserved-then-index-number
loop-state-preserved-then-index-number c =
    let l = c.loop-state in
    let s = c.args.sprout.now in
    let stand = l.sprout.leaves.items in
    let in_access : l.state < length c.self.inside.access = search rules in
    let inside : l.state < length c.args.self.now.access = subst (λ (v : TreeState). l.state < length v.access) c.self.view_is in_access in
    let at : c.index.result.now ≡ leaf_at stand l.state = c.index.ensures ∙ get_or_default stand l.state c.index.result.now 0 (omega (arith, inside, l.invariant.each)) in
    let other : c.index.result.now ≢ c.args.number = search rules in
    record {
      each = l.invariant.each;
      longer = l.invariant.longer;
      left = λ q le. l.invariant.left q (omega (arith, le));
      parting = λ base next long o. parting_skip (answers_of c.args.cache.now.kept) c.args.self.now.inputs c.args.self.now.access (length c.args.self.now.nodes) (base ++ s.nodes.items) s.leaves.items next c.args.number c.args.word.now l.state (base ++ l.sprout.nodes.items) stand
          (l.invariant.parting base next long o) (l.invariant.left l.state (omega arith)) (λ same. other (at ∙ same));
    }

pub loop-state-preserved : goal.loop-state-preserved
loop-state-preserved c =
    let l = c.loop-state in
    let s = c.args.sprout.now in
    let u : TreeState = c.args.self.now in
    let ks = answers_of c.args.cache.now.kept in
    let stand = l.sprout.leaves.items in
    let in_access : l.state < length c.self.inside.access = search rules in
    let inside : l.state < length u.access = subst (λ (v : TreeState). l.state < length v.access) c.self.view_is in_access in
    let at : c.get.result.now ≡ word_at u.access l.state = sym (get_or_from_slice_get c.self.inside.access l.state c.get.result.now [] c.get.ensures) ∙ ap (λ (v : TreeState). word_at v.access l.state) c.self.view_is in
    let here : leaf_at stand l.state ≡ c.args.number = sym (c.index.ensures ∙ get_or_default stand l.state c.index.result.now 0 (omega (arith, inside, l.invariant.each))) ∙ search rules in
    let branch = c.in_ok-branch.branch in
    let tells : Tells ks (word_at u.access l.state) c.args.word.now branch = subst (λ (w : List ℕ). Tells ks w c.args.word.now branch) at c.in_ok-branch.ensures.tells in
    let count : c.len.result ≡ length u.nodes = c.len.ensures ∙ ap (λ (v : TreeState). length v.nodes) c.self.view_is in
    let later = c.descend.new.self.nodes.items in
    let moved = c.descend.new.self.leaves.items in
    let front : c.len-front.result ≡ length s.nodes.items = search rules in
    let each = descended_each c.len.result c.len-front.result c.args.number branch l.state l.sprout.nodes.items stand later moved c.in_ok-descend.ensures in
    let longer = descended_longer c.len.result c.len-front.result c.args.number branch l.state l.sprout.nodes.items stand later moved c.in_ok-descend.ensures in
    record {
      each = each ∙ l.invariant.each;
      longer = omega (arith, longer, l.invariant.longer);
      left = λ q le. descended_left c.len.result c.len-front.result c.args.number branch l.state l.sprout.nodes.items stand later moved c.in_ok-descend.ensures q (λ same. omega (arith, le, same)) ∙ l.invariant.left q (omega (arith, le));
      parting = λ base next long o. parting_descends ks u.inputs u.access (length u.nodes) base s.nodes.items s.leaves.items next c.args.number c.args.word.now l.state l.sprout.nodes.items stand branch later moved c.len.result c.len-front.result
          (count ∙ sym long) front (sym long) (l.invariant.parting base next long o) inside here tells c.in_ok-branch.ensures.size c.in_ok-descend.ensures;
    }

pub returns-clause-grown : goal.returns-clause-grown
returns-clause-grown c base next long o =
    let l = c.loop-state in
    let s = c.args.sprout.now in
    let all : length c.args.self.now.access ≤ l.state = search rules in
    parting_done (answers_of c.args.cache.now.kept) c.args.self.now.inputs c.args.self.now.access (length c.args.self.now.nodes) (base ++ s.nodes.items) s.leaves.items next c.args.number c.args.word.now l.state (base ++ l.sprout.nodes.items) l.sprout.leaves.items c.requires.answers c.requires.can all (l.invariant.parting base next long o)
