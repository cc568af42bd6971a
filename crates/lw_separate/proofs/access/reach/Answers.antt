use Rattle.std.proofs.Common.{rules, ◌≡◌, ℕ, length, List, [], ◌∷◌, ◌++◌, Option, Some, None, is_none, get_or, ap, ◌∙◌, arith, true, false}
use Rattle.std.proofs.Math.ListN.{set}
use Rattle.std.proofs.lemmas.List.{get_or_default}
use Rattle.lw_mealy.specs.Machine.{next}
use Rattle.lw_separate.proofs.SearchLemmas.{letter_found, letter_known, length-push, is_none_value, is_some_value, target_seen, place_seen}
use Rattle.lw_separate.proofs.access.reach.Goals as goal

pub returns-in_ok-push-3 : goal.returns-in_ok-push-3
returns-in_ok-push-3 c =
    let s = c.requires.so_far in
    let target : c.step-target.result.0 ≡ next c.args.m.now.rows (get_or c.args.s.now.states.items c.args.i 0) c.args.x =
    target_seen c.args.m.now.rows c.args.s.now.states.items c.args.i c.args.x c.index.result.now c.step-target.result (omega (arith, s.paired, c.requires.found)) c.index.ensures c.step-target.ensures.value in
    let place : get_or c.args.s.now.places.items (next c.args.m.now.rows (get_or c.args.s.now.states.items c.args.i 0) c.args.x) None ≡ c.index-2.result.now =
    place_seen c.args.s.now.places.items c.step-target.result.0 c.from.result (next c.args.m.now.rows (get_or c.args.s.now.states.items c.args.i 0) c.args.x) c.index-2.result.now (omega (arith, s.placed, c.step-target.ensures.state)) c.from.ensures target c.index-2.ensures in
    let none : c.index-2.result.now ≡ None = let e : is_none c.index-2.result.now ≡ true = search rules in is_none_value c.index-2.result.now e in
    let copied : c.in_ok-word.word ≡ get_or c.args.s.now.words.items c.args.i [] = c.in_ok-word.ensures ∙ (c.index-then-is_none.ensures ∙ get_or_default c.args.s.now.words.items c.args.i c.index-then-is_none.result.now [] c.requires.found) in
    let words : c.push-then-is_none.new.self.items ≡ c.args.s.now.words.items ++ (get_or c.args.s.now.words.items c.args.i [] ++ c.args.x ∷ []) ∷ [] =
    c.in_ok-push-2.ensures.items ∙ ap (λ (w : List ℕ). c.args.s.now.words.items ++ w ∷ []) (c.in_ok-push.ensures.ok ∙ ap (λ (w : List ℕ). w ++ c.args.x ∷ []) copied) in
    let states = c.in_ok-push-3.ensures.items ∙ ap (λ (q : ℕ). c.args.s.now.states.items ++ q ∷ []) (target) in
    let value : Some c.len-place.result ≡ Some (length c.args.s.now.states.items) = ap (λ (n : ℕ). Some n) (c.len-place.ensures ∙ search rules) in
    let places : set c.args.s.now.places.items c.from-then-is_none.result (Some c.len-place.result) ≡ set c.args.s.now.places.items (next c.args.m.now.rows (get_or c.args.s.now.states.items c.args.i 0) c.args.x) (Some (length c.args.s.now.states.items)) =
    ap (λ (q : ℕ). set c.args.s.now.places.items q (Some c.len-place.result)) (c.from-then-is_none.ensures ∙ target)
    ∙ ap (λ (o : Option ℕ). set c.args.s.now.places.items (next c.args.m.now.rows (get_or c.args.s.now.states.items c.args.i 0) c.args.x) o) value in
    record {
      so_far = letter_found c.args.m.now.inputs c.args.m.now.rows c.args.s.now.words.items c.args.s.now.states.items c.args.s.now.places.items c.args.i c.args.x s c.requires.found c.requires.letter (place ∙ none) _ _ _ words states places;
      found = let e = ap length words in omega (arith, e, length-push c.args.s.now.words.items (get_or c.args.s.now.words.items c.args.i [] ++ c.args.x ∷ []), c.requires.found);
    }

pub returns-else-is_none : goal.returns-else-is_none
returns-else-is_none c =
    let s = c.requires.so_far in
    let target : c.step-target.result.0 ≡ next c.args.m.now.rows (get_or c.args.s.now.states.items c.args.i 0) c.args.x =
    target_seen c.args.m.now.rows c.args.s.now.states.items c.args.i c.args.x c.index.result.now c.step-target.result (omega (arith, s.paired, c.requires.found)) c.index.ensures c.step-target.ensures.value in
    let place : get_or c.args.s.now.places.items (next c.args.m.now.rows (get_or c.args.s.now.states.items c.args.i 0) c.args.x) None ≡ c.index-2.result.now =
    place_seen c.args.s.now.places.items c.step-target.result.0 c.from.result (next c.args.m.now.rows (get_or c.args.s.now.states.items c.args.i 0) c.args.x) c.index-2.result.now (omega (arith, s.placed, c.step-target.ensures.state)) c.from.ensures target c.index-2.ensures in
    let some : (k : ℕ) × (c.index-2.result.now ≡ Some k) = let e : is_none c.index-2.result.now ≡ false = search rules in is_some_value c.index-2.result.now e in
    record {
      so_far = letter_known c.args.m.now.inputs c.args.m.now.rows c.args.s.now.words.items c.args.s.now.states.items c.args.s.now.places.items c.args.i c.args.x s c.requires.found some.0 (place ∙ some.1);
      found = c.requires.found;
    }
