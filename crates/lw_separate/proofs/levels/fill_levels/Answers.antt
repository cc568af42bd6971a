use Rattle.std.proofs.Common.{◌≡◌, ◌≢◌, ℕ, ◌<◌, ◌+◌, ◌∷◌, ◌++◌, List, [], Vec, Global, length, map, get_or, ap, sym, ◌∙◌, subst, arith}
use Rattle.lw_separate.specs.bodies.Levels.{AreClassesOf, AreRefined}
use Rattle.lw_separate.proofs.SearchLemmas.{length-push}
use Rattle.lw_separate.proofs.LevelLemmas.{level_more, all_levels, refined_classes, total_left, told_apart, told_equal}
use Rattle.lw_separate.proofs.levels.fill_levels.Goals as goal

pub loop-alloc-init : goal.loop-alloc-init
loop-alloc-init c =
    let none : c.new-below.result.items ≡ [] = c.new-below.ensures.items in
    record {
      filled = λ k lt. absurd (let e : length (map (λ (v : Vec ℕ Global). v.items) c.new-below.result.items) ≡ 0 = ap (λ (l : List (Vec ℕ Global)). length (map (λ (v : Vec ℕ Global). v.items) l)) none in omega (arith, e, lt));
      now = subst (λ (k : ℕ). AreClassesOf c.args.m.now.inputs c.args.m.now.rows k c.in_ok-names.names.items) (sym (ap (λ (l : List (Vec ℕ Global)). length l) none)) c.in_ok-names.ensures.classes;
      finer = subst (λ (l : List ℕ). AreRefined c.args.m.now.inputs c.args.m.now.rows l c.in_ok-finer.finer.items) c.as_slice.ensures.value c.in_ok-finer.ensures;
    }

pub loop-alloc-smaller : goal.loop-alloc-smaller
loop-alloc-smaller c =
    let h = c.loop-alloc.invariant in
    let other : c.as_slice-in-loop-alloc.result.now ≢ c.as_slice-in-loop-alloc-2.result.now = told_apart c.as_slice-in-loop-alloc.result.now c.as_slice-in-loop-alloc-2.result.now c.loop-alloc-test.ensures in
    total_left c.args.m.now.inputs c.args.m.now.rows (length c.loop-alloc.below.items) c.loop-alloc.names.items c.loop-alloc.finer.items c.in_ok-names.ensures.machine h.now h.finer
    (λ same. other (c.as_slice-in-loop-alloc.ensures.value ∙ (same ∙ sym c.as_slice-in-loop-alloc-2.ensures.value)))

pub loop-alloc-preserved : goal.loop-alloc-preserved
loop-alloc-preserved c =
    let h = c.loop-alloc.invariant in
    let more : c.push.new.self.items ≡ c.loop-alloc.below.items ++ c.loop-alloc.names ∷ [] = c.in_ok-push.ensures.items in
    let long : length c.push.new.self.items ≡ length c.loop-alloc.below.items + 1 = ap (λ (l : List (Vec ℕ Global)). length l) more ∙ length-push c.loop-alloc.below.items c.loop-alloc.names in
    record {
      filled = subst (λ (l : List (Vec ℕ Global)). (k : ℕ) → k < length (map (λ (v : Vec ℕ Global). v.items) l) → AreClassesOf c.args.m.now.inputs c.args.m.now.rows k (get_or (map (λ (v : Vec ℕ Global). v.items) l) k [])) (sym more)
          (level_more (λ (v : Vec ℕ Global). v.items) c.args.m.now.inputs c.args.m.now.rows c.in_ok-names.ensures.machine c.loop-alloc.below.items c.loop-alloc.names h.filled h.now);
      now = subst (λ (k : ℕ). AreClassesOf c.args.m.now.inputs c.args.m.now.rows k c.loop-alloc.finer.items) (sym long)
          (refined_classes c.args.m.now.inputs c.args.m.now.rows (length c.loop-alloc.below.items) c.loop-alloc.names.items h.now c.in_ok-names.ensures.machine c.loop-alloc.finer.items h.finer);
      finer = subst (λ (l : List ℕ). AreRefined c.args.m.now.inputs c.args.m.now.rows l c.in_ok-finer-2.finer.items) c.as_slice-in-loop-alloc-3.ensures.value c.in_ok-finer-2.ensures;
    }

pub returns : goal.returns
returns c =
    let h = c.loop-alloc.invariant in
    let same : c.as_slice-in-loop-alloc.result.now ≡ c.as_slice-in-loop-alloc-2.result.now = told_equal c.as_slice-in-loop-alloc.result.now c.as_slice-in-loop-alloc-2.result.now c.loop-alloc-test.ensures in
    let stays : c.loop-alloc.finer.items ≡ c.loop-alloc.names.items = sym c.as_slice-in-loop-alloc-2.ensures.value ∙ (sym same ∙ c.as_slice-in-loop-alloc.ensures.value) in
    all_levels (λ (v : Vec ℕ Global). v.items) c.args.m.now.inputs c.args.m.now.rows c.in_ok-names.ensures.machine c.loop-alloc.below.items c.loop-alloc.names.items h.filled h.now
    (subst (λ (l : List ℕ). AreRefined c.args.m.now.inputs c.args.m.now.rows c.loop-alloc.names.items l) stays h.finer)
