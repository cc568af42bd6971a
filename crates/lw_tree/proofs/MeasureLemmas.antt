-- How far a tree is from being closed.
use Rattle.std.proofs.Common.{◌≡◌, ⊎_elim, ℕ, zero, suc, ◌+◌, ◌*◌, ◌-◌, ◌^◌, ◌<◌, ◌≤◌, Bool, true, false, true≢false, List, [], ◌∷◌, length, if◌then◌else◌, refl, ap, sym, ◌∙◌, subst, arith}
use Rattle.std.specs.Prelude.{min}
use Rattle.std.proofs.Math.Nat.{mul-le-mul_right}
use Rattle.std.proofs.lemmas.Bool.{cases_lt}
use Rattle.lw_words.specs.Word.{Answer}
use Rattle.lw_tree.specs.Grown.{HasGrown, MovesOn, HasMoved}
use Rattle.lw_tree.specs.Tree.{TreeState, node_at, place_at, is_open, IsTree, HasOpen}
use Rattle.lw_tree.specs.declared.nodes.Node.{Node}
use Rattle.lw_tree.specs.declared.transitions.Place.{Place}
use Rattle.lw_tree.proofs.GrownLemmas.{access_longer}
use Rattle.lw_tree.proofs.NodeLemmas.{live_within}
use Rattle.lw_tree.proofs.ShapeLemmas.{shape_of, all_places}

-- the least node at which an open transition stands
abbrev pub lowest : ℕ → (ℕ → Node) → List Place → ℕ
lowest top node [] = top
lowest top node (p ∷ places) = if is_open node p then min p.node (lowest top node places) else lowest top node places

least_one : (b : Bool) (m n : ℕ) → b ≡ true → (if b then min m n else n) ≤ m
least_one true m n is = omega arith
least_one false m n is = absurd (true≢false (sym is))

least_rest : (b : Bool) (m n : ℕ) → (if b then min m n else n) ≤ n
least_rest true m n = omega arith
least_rest false m n = omega arith

least_both : (b : Bool) (m n bound : ℕ) → (b ≡ true → bound ≤ m) → bound ≤ n → bound ≤ (if b then min m n else n)
least_both true m n bound one rest = let r = one refl in omega (arith, r, rest)
least_both false m n bound one rest = rest

pub lowest_le : (top : ℕ) (node : ℕ → Node) (places : List Place) (k : ℕ) → k < length places → is_open node (place_at places k) ≡ true → lowest top node places ≤ (place_at places k).node
lowest_le top node [] k lt is = absurd (omega (arith, lt))
lowest_le top node (p ∷ places) zero lt is = least_one (is_open node p) p.node (lowest top node places) is
lowest_le top node (p ∷ places) (suc k) lt is =
    let rest = lowest_le top node places k (omega (arith, lt)) is in
    let one = least_rest (is_open node p) p.node (lowest top node places) in
    omega (arith, rest, one)

pub lowest_ge : (top : ℕ) (node : ℕ → Node) (places : List Place) (bound : ℕ) → bound ≤ top → ((k : ℕ) → k < length places → is_open node (place_at places k) ≡ true → bound ≤ (place_at places k).node) → bound ≤ lowest top node places
lowest_ge top node [] bound le each = le
lowest_ge top node (p ∷ places) bound le each = least_both (is_open node p) p.node (lowest top node places) bound (each 0 (omega arith)) (lowest_ge top node places bound le (λ k lt is. each (suc k) (omega (arith, lt)) is))

-- states that can still come, and then how far down the open transitions stand
abbrev pub distance : ℕ → ℕ → ℕ → ℕ
distance states top low = states * (top + 1) + (top - low)

closer_by_state : (before now top low last : ℕ) → now < before → distance now top last < distance before top low
closer_by_state before now top low last lt =
    let more : suc now * (top + 1) ≤ before * (top + 1) = mul-le-mul_right (top + 1) (omega (arith, lt)) in
    let next : suc now * (top + 1) ≡ now * (top + 1) + (top + 1) = omega arith in
    omega (arith, more, next)

closer_by_node : (before now top low last : ℕ) → now ≤ before → low < last → last ≤ top → distance now top last < distance before top low
closer_by_node before now top low last le lower within =
    let more : now * (top + 1) ≤ before * (top + 1) = mul-le-mul_right (top + 1) le in
    omega (arith, more, lower, within)

abbrev pub measure_by : ℕ → TreeState → ℕ
measure_by top t = distance (t.most - length t.access) top (lowest top (node_at t.nodes) t.places)

lowest_top : (top : ℕ) (node : ℕ → Node) (places : List Place) → lowest top node places ≤ top
lowest_top top node [] = omega arith
lowest_top top node (p ∷ places) =
    let rest = lowest_top top node places in
    let one = least_rest (is_open node p) p.node (lowest top node places) in
    omega (arith, rest, one)

module _ (top : ℕ) (ks : List Answer) (before now : TreeState) (grown : HasGrown ks before now) (bounded : length now.nodes < top) (moved : HasMoved before now) (left : HasOpen now) where
  -- each open transition stands at a node of the tree
  stands_below : (k : ℕ) → (place_at now.places k).node < top
  stands_below k =
      let inside = live_within now.nodes (place_at now.places k).node (all_places now (shape_of now grown.tree) k).live in
      omega (arith, inside, bounded)

  by_places : length before.places ≡ length now.places → lowest top (node_at before.nodes) before.places < lowest top (node_at now.nodes) now.places
  by_places count =
      let moves : (k : ℕ) → k < length now.places → MovesOn before now k = λ k lt. moved k (subst (λ (n : ℕ). k < n) (sym count) lt) in
      let one = moves left.0 left.1 left.2 in
      let low = lowest_le top (node_at before.nodes) before.places left.0 (subst (λ (n : ℕ). left.0 < n) (sym count) left.1) one.0 in
      let further = one.1 in
      let high = stands_below left.0 in
      let r = lowest_ge top (node_at now.nodes) now.places (suc (lowest top (node_at before.nodes) before.places)) (omega (arith, low, further, high)) (λ k lt is.
      let m = moves k lt is in
      let l = lowest_le top (node_at before.nodes) before.places k (subst (λ (n : ℕ). k < n) (sym count) lt) m.0 in
      let f = m.1 in
      omega (arith, l, f)) in
      omega (arith, r)

  pub closer : IsTree before → measure_by top now < measure_by top before
  closer g =
      let ge = access_longer ks before now grown in
      let few = grown.tree.few in
      let most = grown.most in
      ⊎_elim
      (λ (more : length before.access < length now.access).
      closer_by_state (before.most - length before.access) (now.most - length now.access) top (lowest top (node_at before.nodes) before.places) (lowest top (node_at now.nodes) now.places) (omega (arith, more, few, most)))
      (λ (le : length now.access ≤ length before.access).
      let same : length now.access ≡ length before.access = omega (arith, le, ge) in
      let count : length before.places ≡ length now.places = sym (grown.tree.each_place ∙ (ap (λ (x : ℕ). x * now.inputs) same ∙ (ap (λ (y : ℕ). length before.access * y) grown.inputs ∙ sym g.each_place))) in
      closer_by_node (before.most - length before.access) (now.most - length now.access) top (lowest top (node_at before.nodes) before.places) (lowest top (node_at now.nodes) now.places) (omega (arith, same, most)) (by_places count) (lowest_top top (node_at now.nodes) now.places))
      (cases_lt (length before.access) (length now.access))

abbrev pub measure : TreeState → ℕ
measure t = measure_by (2 ^ 32) t
