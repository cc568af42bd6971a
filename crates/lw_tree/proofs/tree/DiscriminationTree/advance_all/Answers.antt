use Rattle.std.proofs.Common.{rules, ◌≡◌, ◌+◌, ◌*◌, ◌<◌, ◌≤◌, ℕ, length, get_or, sym, ◌∙◌, ap, subst, arith}
use Rattle.lw_words.specs.Word.{answers_of}
use Rattle.lw_cache.specs.Known.{IsKnown}
use Rattle.lw_tree.specs.Tree.{TreeState, IsTree}
use Rattle.lw_tree.specs.bodies.Transitions.{IsTransition}
use Rattle.lw_tree.proofs.GrownLemmas.{keeps_and_keeps, access_longer, asked_still, sifted_all}
use Rattle.lw_tree.proofs.LevelLemmas.{number_from, number_at, number_past, few_numbers, edge_from, sifted_first, turn_stands, turn_steps, turn_done}
use Rattle.lw_tree.proofs.StepLemmas.{handed_crowd}
use Rattle.lw_tree.proofs.tree.DiscriminationTree.advance_all.Goals as goal

pub loop-number-init : goal.loop-number-init
loop-number-init c =
    let u : TreeState = c.args.self.now in
    let g : IsTree u = subst (λ (v : TreeState). IsTree v) c.self.view_is c.self.invariant.tree in
    sifted_first u c.args.numbers.now c.requires.numbers (answers_of c.args.cache.now.kept) g c.requires.read

pub with_number-requires : goal.with_number-requires
with_number-requires c =
    let u : TreeState = c.args.self.now in
    let i = c.loop-number.number-index in
    let g : IsTree u = subst (λ (v : TreeState). IsTree v) c.self.view_is c.self.invariant.tree in
    let inside : i < length c.args.numbers.now = c.loop-number-test.true in
    let inputs : c.advance.inside.inputs ≡ u.inputs = ap (λ (v : TreeState). v.inputs) c.advance.view_is ∙ c.loop-number.invariant.grown.inputs in
    record {
      inputs = c.advance.invariant.tree.inputs.0;
      number = subst (λ (a : ℕ). get_or c.args.numbers.now i 0 < 65536 * a) (sym inputs) (few_numbers u c.args.numbers.now c.requires.numbers g i inside);
    }

-- the transition whose turn it is
from_before : (c : goal.After-with_number) → IsTransition c.args.self.now c.with_number.result
from_before c =
    let u : TreeState = c.args.self.now in
    let i = c.loop-number.number-index in
    let edge = c.with_number.result in
    let g : IsTree u = subst (λ (v : TreeState). IsTree v) c.self.view_is c.self.invariant.tree in
    let inside : i < length c.args.numbers.now = c.loop-number-test.true in
    let inputs : c.advance.inside.inputs ≡ u.inputs = ap (λ (v : TreeState). v.inputs) c.advance.view_is ∙ c.loop-number.invariant.grown.inputs in
    edge_from u c.args.numbers.now c.requires.numbers g i inside edge (subst (λ (a : ℕ). edge.letter < a) inputs c.with_number.ensures.letter)
    (subst (λ (a : ℕ). (count : ℕ) → get_or c.args.numbers.now i 0 < count * a → edge.state < count) inputs c.with_number.ensures.state)

pub advance-requires-clause-edge : goal.advance-requires-clause-edge
advance-requires-clause-edge c =
    let from = from_before c in
    let l = c.loop-number in
    let longer = access_longer (answers_of c.args.cache.now.kept) c.args.self.now l.self l.invariant.grown in
    let state = from.0 in
    (omega (arith, state, longer), subst (λ (a : ℕ). c.with_number.result.letter < a) (sym l.invariant.grown.inputs) from.1)

pub advance-requires-clause-stands : goal.advance-requires-clause-stands
advance-requires-clause-stands c =
    let u : TreeState = c.args.self.now in
    let l = c.loop-number in
    let edge = c.with_number.result in
    let g : IsTree u = subst (λ (v : TreeState). IsTree v) c.self.view_is c.self.invariant.tree in
    let inside : l.number-index < length c.args.numbers.now = c.loop-number-test.true in
    let number : get_or c.args.numbers.now l.number-index 0 ≡ edge.state * l.self.inputs + edge.letter = c.with_number.ensures.number ∙ ap (λ (v : TreeState). edge.state * v.inputs + edge.letter) c.advance.view_is in
    turn_stands u c.args.numbers.now c.requires.numbers (answers_of c.args.cache.now.kept) l.self l.number-index inside g l.invariant edge number

pub advance-requires-clause-known : goal.advance-requires-clause-known
advance-requires-clause-known c =
    let u : TreeState = c.args.self.now in
    let l = c.loop-number in
    let ks = answers_of c.args.cache.now.kept in
    let edge = c.with_number.result in
    let from = from_before c in
    let g : IsTree u = subst (λ (v : TreeState). IsTree v) c.self.view_is c.self.invariant.tree in
    let inside : l.number-index < length c.args.numbers.now = c.loop-number-test.true in
    let at = number_at u c.args.numbers.now c.requires.numbers l.number-index inside in
    let inputs : c.advance.inside.inputs ≡ u.inputs = ap (λ (v : TreeState). v.inputs) c.advance.view_is ∙ l.invariant.grown.inputs in
    let number : get_or c.args.numbers.now l.number-index 0 ≡ edge.state * u.inputs + edge.letter = c.with_number.ensures.number ∙ ap (λ (a : ℕ). edge.state * a + edge.letter) inputs in
    let within = c.requires.numbers.within l.number-index inside in
    asked_still (IsKnown ks) ks u (number_from u c.args.numbers.now l.number-index) l.self edge g l.invariant from (omega (arith, number, at)) (omega (arith, number, within)) (c.requires.known edge from (omega arith) (omega (arith, number, within)))

pub returns-in_err-advance-clause-keeps : goal.returns-in_err-advance-clause-keeps
returns-in_err-advance-clause-keeps c =
    let u : TreeState = c.args.self.now in
    let l = c.loop-number in
    let g : IsTree u = subst (λ (v : TreeState). IsTree v) c.self.view_is c.self.invariant.tree in
    keeps_and_keeps u l.self c.advance-in-loop-number.new.self g l.invariant.grown.tree c.in_err-advance.ensures.stepped.grown.tree l.invariant.keeps c.in_err-advance.ensures.stepped.keeps

pub returns-in_err-advance-clause-steps : goal.returns-in_err-advance-clause-steps
returns-in_err-advance-clause-steps c =
    let u : TreeState = c.args.self.now in
    let l = c.loop-number in
    let edge = c.with_number.result in
    let g : IsTree u = subst (λ (v : TreeState). IsTree v) c.self.view_is c.self.invariant.tree in
    let inside : l.number-index < length c.args.numbers.now = c.loop-number-test.true in
    let number : get_or c.args.numbers.now l.number-index 0 ≡ edge.state * l.self.inputs + edge.letter = c.with_number.ensures.number ∙ ap (λ (v : TreeState). edge.state * v.inputs + edge.letter) c.advance.view_is in
    turn_steps u c.args.numbers.now c.requires.numbers (answers_of c.args.cache.now.kept) l.self l.number-index inside g l.invariant edge number c.advance-in-loop-number.new.self c.in_err-advance.ensures.stepped

pub returns-in_err-advance-clause-crowd : goal.returns-in_err-advance-clause-crowd
returns-in_err-advance-clause-crowd c =
    handed_crowd (answers_of c.args.cache.now.kept) c.advance-in-loop-number.new.self c.in_err-advance.field-0.0 c.from_residual.result c.in_err-advance.ensures.crowd (search rules)

pub loop-number-preserved : goal.loop-number-preserved
loop-number-preserved c =
    let u : TreeState = c.args.self.now in
    let l = c.loop-number in
    let edge = c.with_number.result in
    let g : IsTree u = subst (λ (v : TreeState). IsTree v) c.self.view_is c.self.invariant.tree in
    let inside : l.number-index < length c.args.numbers.now = c.loop-number-test.true in
    let number : get_or c.args.numbers.now l.number-index 0 ≡ edge.state * l.self.inputs + edge.letter = c.with_number.ensures.number ∙ ap (λ (v : TreeState). edge.state * v.inputs + edge.letter) c.advance.view_is in
    turn_done u c.args.numbers.now c.requires.numbers (answers_of c.args.cache.now.kept) l.self l.number-index inside g l.invariant edge number c.advance-in-loop-number.new.self c.in_ok-advance.ensures.stepped c.in_ok-advance.ensures.moved

pub returns-clause-moved : goal.returns-clause-moved
returns-clause-moved c =
    let u : TreeState = c.args.self.now in
    let l = c.loop-number in
    let past : length c.args.numbers.now ≤ l.number-index = c.loop-number-test.false in
    let all = number_past u c.args.numbers.now c.requires.numbers l.number-index past in
    sifted_all (answers_of c.args.cache.now.kept) u (number_from u c.args.numbers.now l.number-index) l.self (omega (arith, all)) l.invariant
