use Rattle.std.proofs.Common.{ℕ, suc, ◌≡◌, ◌-◌, ◌++◌, [], refl, ap, sym, subst, arith, append-nil}
use Rattle.lw_separate.specs.bodies.Levels.{AreApartBy, NoLetter}
use Rattle.lw_separate.proofs.LevelLemmas.{level_at}
use Rattle.lw_separate.proofs.ShortestLemmas.{Finishes, finished, some_letter, read_on}
use Rattle.lw_separate.proofs.separating_word.read_word.Goals as goal

pub unreachable-requires : goal.unreachable-requires
unreachable-requires c =
    let h = c.loop-left.invariant in
    let lv = level_at (λ r. r.items) c.args.m.now.inputs c.args.m.now.rows c.args.levels.now.below.items c.args.levels.now.names.items c.requires.levels (c.loop-left.left - 1) c.classes_at.result.now (omega (arith, h.within)) c.classes_at.ensures in
    let one : c.loop-left.left ≡ suc (c.loop-left.left - 1) = omega arith in
    let none : NoLetter c.args.m.now.inputs c.args.m.now.rows c.classes_at.result.now c.loop-left.first c.loop-left.second = c.in_default.ensures in
    some_letter c.args.m.now.inputs c.args.m.now.rows c.requires.levels.machine (c.loop-left.left - 1) c.classes_at.result.now lv c.loop-left.first c.loop-left.second h.first h.second
    (subst (λ (k : ℕ). AreApartBy c.args.m.now.inputs c.args.m.now.rows k c.loop-left.first c.loop-left.second) one h.apart) none

pub loop-left-preserved : goal.loop-left-preserved
loop-left-preserved c =
    let h = c.loop-left.invariant in
    let lv = level_at (λ r. r.items) c.args.m.now.inputs c.args.m.now.rows c.args.levels.now.below.items c.args.levels.now.names.items c.requires.levels (c.loop-left.left - 1) c.classes_at.result.now (omega (arith, h.within)) c.classes_at.ensures in
    let r = read_on c.args.m.now.inputs c.args.m.now.rows c.requires.levels.machine c.classes_at.result.now c.loop-left.first c.loop-left.second c.loop-left.left c.in-Some.x c.step-first.result.0 c.step-second.result.0 h.first h.second c.loop-left-test.true
    lv h.apart c.in-Some.ensures (ap (λ (d : ℕ × ℕ). d.0) c.step-first.ensures.value) (ap (λ (d : ℕ × ℕ). d.0) c.step-second.ensures.value)
    c.args.letters c.args.p c.args.q c.loop-left.word c.push.new.self c.in_ok-push.ensures.ok h.way in
    record {
      first = c.step-first.ensures.state;
      second = c.step-second.ensures.state;
      within = omega (arith, h.within);
      apart = r.0;
      way = r.1;
    }

pub returns : goal.returns
returns c =
    let h = c.loop-left.invariant in
    let end : c.loop-left.left ≡ 0 = omega arith in
    let f : Finishes c.args.m.now.inputs c.args.m.now.rows c.args.letters c.args.p c.args.q (c.loop-left.word ++ []) = h.way [] (subst (λ (k : ℕ). Finishes c.args.m.now.inputs c.args.m.now.rows k c.loop-left.first c.loop-left.second []) (sym end) refl) in
    finished c.args.m.now.inputs c.args.m.now.rows c.args.letters c.args.p c.args.q c.loop-left.word c.requires.some (rw append-nil at f)
