use Rattle.std.proofs.Common.{rules, ◌≡◌, ◌≢◌, ◌<◌, ◌+◌, ℕ, List, Option, false, length, get_or, sym, subst, arith, ap, ◌∙◌}
use Rattle.std.proofs.lemmas.List.{get_or_default}
use Rattle.lw_separate.specs.bodies.Classes.{AreClasses}
use Rattle.lw_separate.specs.Canonical.{IsLeastSeparating, IsSeparatingWord}
use Rattle.lw_separate.specs.bodies.Walk.{SeparatesUpTo, Splits}
use Rattle.lw_separate.proofs.ClassLemmas.{split_by_class, alike_by_class, classes_push}
use Rattle.lw_separate.proofs.WalkLemmas.{pair_split, pair_added}
use Rattle.lw_separate.proofs.separator_words.add_pair.Goals as goal

pub returns-then-index-clause-so_far : goal.returns-then-index-clause-so_far
returns-then-index-clause-so_far c =
    let lp : c.args.p < length c.args.m.now.rows = omega (arith, c.requires.pair, c.requires.state) in
    let first : c.index.result.now ≡ get_or c.args.classes.now.items c.args.p 0 = c.index.ensures ∙ (ap (λ (k : ℕ). get_or c.args.classes.now.items k c.index.result.now) c.from.ensures ∙ get_or_default c.args.classes.now.items c.args.p c.index.result.now 0 (omega (arith, c.requires.classes.names.long))) in
    let second : c.index-2.result.now ≡ get_or c.args.classes.now.items c.args.q 0 = c.index-2.ensures ∙ (ap (λ (k : ℕ). get_or c.args.classes.now.items k c.index-2.result.now) c.from-2.ensures ∙ get_or_default c.args.classes.now.items c.args.q c.index-2.result.now 0 (omega (arith, c.requires.classes.names.long, c.requires.state))) in
    let differ : c.index.result.now ≢ c.index-2.result.now = grind (arith, rules) in
    pair_split c.args.m.now.inputs c.args.m.now.rows c.args.p c.args.q c.args.words.now c.requires.so_far
    (split_by_class c.args.m.now.rows c.args.p c.args.words.now c.args.classes.now.items c.args.p c.args.q c.requires.classes (omega arith, lp) (omega (arith, c.requires.pair), c.requires.state) (λ same. differ (first ∙ (same ∙ sym second))))

pub returns-clause-so_far : goal.returns-clause-so_far
returns-clause-so_far c =
    let lp : c.args.p < length c.args.m.now.rows = omega (arith, c.requires.pair, c.requires.state) in
    let first : c.index.result.now ≡ get_or c.args.classes.now.items c.args.p 0 = c.index.ensures ∙ (ap (λ (k : ℕ). get_or c.args.classes.now.items k c.index.result.now) c.from.ensures ∙ get_or_default c.args.classes.now.items c.args.p c.index.result.now 0 (omega (arith, c.requires.classes.names.long))) in
    let second : c.index-2.result.now ≡ get_or c.args.classes.now.items c.args.q 0 = c.index-2.ensures ∙ (ap (λ (k : ℕ). get_or c.args.classes.now.items k c.index-2.result.now) c.from-2.ensures ∙ get_or_default c.args.classes.now.items c.args.q c.index-2.result.now 0 (omega (arith, c.requires.classes.names.long, c.requires.state))) in
    let same : c.index.result.now ≡ c.index-2.result.now = grind (arith, rules) in
    let h : Splits c.args.m.now.rows c.args.words.now c.args.p c.args.q false = alike_by_class c.args.m.now.rows c.args.p c.args.words.now c.args.classes.now.items c.args.p c.args.q c.requires.classes (omega arith, lp) (omega (arith, c.requires.pair), c.requires.state) (sym first ∙ (same ∙ second)) in
    let least : IsLeastSeparating c.args.m.now.inputs c.args.m.now.rows c.args.p c.args.q c.in-Some.word = subst (λ (o : Option (List ℕ)). IsSeparatingWord c.args.m.now.inputs c.args.m.now.rows c.args.p c.args.q o) c.in-Some.is c.in_ok-found.ensures in
    subst (λ (l : List (List ℕ)). SeparatesUpTo c.args.m.now.inputs c.args.m.now.rows (c.args.p, c.args.q + 1) l) (sym c.in_ok-push.ensures.ok)
    (pair_added c.args.m.now.inputs c.args.m.now.rows c.args.p c.args.q c.args.words.now c.requires.so_far c.requires.pair c.requires.state h c.in-Some.word least)

pub returns-clause-classes : goal.returns-clause-classes
returns-clause-classes c =
    subst (λ (l : List (List ℕ)). AreClasses c.args.m.now.rows c.args.p l c.refine.new.classes.items) (sym c.in_ok-push.ensures.ok)
    (classes_push c.args.m.now.rows c.args.p c.args.words.now c.in-Some.word c.args.classes.now.items c.refine.new.classes.items c.requires.classes c.in_ok-refine.ensures)
