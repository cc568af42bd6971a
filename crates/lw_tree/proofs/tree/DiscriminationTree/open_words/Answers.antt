use Rattle.std.proofs.Common.{rules, ◌≡◌, ◌+◌, ◌*◌, ◌<◌, ◌≤◌, ℕ, true, length, get_or, Contains, sym, ◌∙◌, subst}
use Rattle.std.specs.List.{All}
use Rattle.std.proofs.lemmas.List.Elements.{All-nil}
use Rattle.lw_tree.specs.Grown.{IsLevelWord}
use Rattle.lw_tree.specs.Tree.{TreeState, IsTree, is_open, node_at, place_at}
use Rattle.lw_tree.specs.bodies.Transitions.{IsTransition, AreAsked}
use Rattle.lw_tree.proofs.LevelLemmas.{number_from, number_at, number_past, asked_first, asked_next, few_numbers, edge_from}
use Rattle.lw_tree.proofs.ListingLemmas.{asked_more}
use Rattle.lw_tree.proofs.tree.DiscriminationTree.open_words.Goals as goal

pub loop-number-init : goal.loop-number-init
loop-number-init c =
    record {
      asked = asked_first c.args.self.now c.args.numbers.now c.requires.numbers (Contains c.new-words.result);
      letters = search rules;
      level = subst (All (IsLevelWord c.args.self.now)) (sym (c.new-words.ensures)) (All-nil (IsLevelWord c.args.self.now));
    }

pub with_number-edge-requires : goal.with_number-edge-requires
with_number-edge-requires c =
    let s = c.self.inside in
    let u : TreeState = c.args.self.now in
    let g : IsTree u = subst (λ (v : TreeState). IsTree v) c.self.view_is c.self.invariant.tree in
    let inside : c.loop-number.number-index < length c.args.numbers.now = c.loop-number-test.true in
    let few = few_numbers u c.args.numbers.now c.requires.numbers g c.loop-number.number-index inside in
    record {
      inputs = c.self.invariant.tree.inputs.0;
      number = subst (λ (v : TreeState). get_or c.args.numbers.now c.loop-number.number-index 0 < 65536 * v.inputs) (sym c.self.view_is) few;
    }

pub loop-number-preserved : goal.loop-number-preserved
loop-number-preserved c =
    let u : TreeState = c.args.self.now in
    let l = c.loop-number in
    let i = l.number-index in
    let numbers = c.args.numbers.now in
    let o = c.requires.numbers in
    let g : IsTree u = subst (λ (v : TreeState). IsTree v) c.self.view_is c.self.invariant.tree in
    let inside : i < length numbers = c.loop-number-test.true in
    let edge = c.with_number-edge.result in
    let number : get_or numbers i 0 ≡ edge.state * u.inputs + edge.letter = subst (λ (v : TreeState). get_or numbers i 0 ≡ edge.state * v.inputs + edge.letter) c.self.view_is c.with_number-edge.ensures.number in
    let letter : edge.letter < u.inputs = subst (λ (v : TreeState). edge.letter < v.inputs) c.self.view_is c.with_number-edge.ensures.letter in
    let state : (count : ℕ) → get_or numbers i 0 < count * u.inputs → edge.state < count = subst (λ (v : TreeState). (count : ℕ) → get_or numbers i 0 < count * v.inputs → edge.state < count) c.self.view_is c.with_number-edge.ensures.state in
    let from : IsTransition u edge = edge_from u numbers o g i inside edge letter state in
    record {
      asked = asked_next u numbers o (Contains c.add_words.new.words) i inside
          (asked_more u l.words c.add_words.new.words (number_from u numbers i) edge c.in_ok-add_words.ensures.more l.invariant.asked (number_at u numbers o i inside ∙ number) from c.in_ok-add_words.ensures.asked);
      letters = c.in_ok-add_words.ensures.letters l.invariant.letters;
      level = c.in_ok-add_words.ensures.level (subst (λ (k : ℕ). is_open (node_at u.nodes) (place_at u.places k) ≡ true) number (o.stands i inside)) l.invariant.level;
    }

pub returns-clause-asked : goal.returns-clause-asked
returns-clause-asked c =
    let u : TreeState = c.args.self.now in
    let past : length c.args.numbers.now ≤ c.loop-number.number-index = c.loop-number-test.false in
    subst (AreAsked (Contains c.loop-number.words) u 0) (number_past u c.args.numbers.now c.requires.numbers c.loop-number.number-index past) c.loop-number.invariant.asked
