use Rattle.std.proofs.Common.{rules, ℕ, ◌≡◌, ◌≢◌, ◌<◌, ⊎_elim, get_or, sym, subst, arith}
use Rattle.lw_separate.specs.bodies.Levels.{AgreeUpTo}
use Rattle.lw_separate.proofs.SearchLemmas.{last_or_before}
use Rattle.lw_separate.proofs.LevelLemmas.{level_at, last_level, one_class_agrees}
use Rattle.lw_separate.proofs.ShortestLemmas.{first_level}
use Rattle.lw_separate.proofs.separating_word.shortest.Goals as goal

pub returns-then-classes-from-clause-some : goal.returns-then-classes-from-clause-some
returns-then-classes-from-clause-some c =
    let other : get_or c.classes_at-classes.result.now c.args.p 0 ≢ get_or c.classes_at-classes.result.now c.args.q 0 = grind (arith, rules) in
    let lv = level_at (λ r. r.items) c.args.m.now.inputs c.args.m.now.rows c.args.levels.now.below.items c.args.levels.now.names.items c.requires.levels c.loop-letters.letters c.classes_at-classes.result.now (omega arith) c.classes_at-classes.ensures in
    (first_level c.args.m.now.inputs c.args.m.now.rows c.loop-letters.letters c.args.p c.args.q c.classes_at-classes.result.now c.requires.first c.requires.second lv other c.loop-letters.invariant).0

pub returns-then-classes-from-clause-apart : goal.returns-then-classes-from-clause-apart
returns-then-classes-from-clause-apart c =
    let other : get_or c.classes_at-classes.result.now c.args.p 0 ≢ get_or c.classes_at-classes.result.now c.args.q 0 = grind (arith, rules) in
    let lv = level_at (λ r. r.items) c.args.m.now.inputs c.args.m.now.rows c.args.levels.now.below.items c.args.levels.now.names.items c.requires.levels c.loop-letters.letters c.classes_at-classes.result.now (omega arith) c.classes_at-classes.ensures in
    (first_level c.args.m.now.inputs c.args.m.now.rows c.loop-letters.letters c.args.p c.args.q c.classes_at-classes.result.now c.requires.first c.requires.second lv other c.loop-letters.invariant).1

pub loop-letters-preserved : goal.loop-letters-preserved
loop-letters-preserved c j lj =
    let same : get_or c.classes_at-classes.result.now c.args.p 0 ≡ get_or c.classes_at-classes.result.now c.args.q 0 = grind (arith, rules) in
    let lv = level_at (λ r. r.items) c.args.m.now.inputs c.args.m.now.rows c.args.levels.now.below.items c.args.levels.now.names.items c.requires.levels c.loop-letters.letters c.classes_at-classes.result.now (omega arith) c.classes_at-classes.ensures in
    ⊎_elim
    (λ (l : j < c.loop-letters.letters). c.loop-letters.invariant j l)
    (λ (e : j ≡ c.loop-letters.letters). subst (λ (k : ℕ). AgreeUpTo c.args.m.now.inputs c.args.m.now.rows k c.args.p c.args.q) (sym e)
    (one_class_agrees c.args.m.now.inputs c.args.m.now.rows c.loop-letters.letters c.classes_at-classes.result.now lv c.args.p c.args.q c.requires.first c.requires.second same))
    (last_or_before j c.loop-letters.letters lj)

pub returns-clause-some : goal.returns-clause-some
returns-clause-some c =
    let last = last_level (λ r. r.items) c.args.m.now.inputs c.args.m.now.rows c.args.levels.now.below.items c.args.levels.now.names.items c.requires.levels c.len.result (omega arith) in
    (first_level c.args.m.now.inputs c.args.m.now.rows c.len.result c.args.p c.args.q c.args.levels.now.names.items c.requires.first c.requires.second last c.requires.differ (λ j lj. c.loop-letters.invariant j (omega (arith, lj)))).0

pub returns-clause-apart : goal.returns-clause-apart
returns-clause-apart c =
    let last = last_level (λ r. r.items) c.args.m.now.inputs c.args.m.now.rows c.args.levels.now.below.items c.args.levels.now.names.items c.requires.levels c.len.result (omega arith) in
    (first_level c.args.m.now.inputs c.args.m.now.rows c.len.result c.args.p c.args.q c.args.levels.now.names.items c.requires.first c.requires.second last c.requires.differ (λ j lj. c.loop-letters.invariant j (omega (arith, lj)))).1
