-- The names that merging and numbering give, and what they say of the states.
use Rattle.std.proofs.Common.{◌≡◌, ◌≢◌, ℕ, ◌<◌, ◌≤◌, ◌⊎◌, ⊎_elim, List, length, get_or, Option, Some, None, Result, Ok, Err, IfOk, refl, ap, sym, ◌∙◌, arith, subst}
use Rattle.std.proofs.lemmas.Bool.{cases_order}
use Rattle.lw_mealy.specs.Machine.{Rows, IsMachine, next, cell, IsMinimal, Differ}
use Rattle.lw_mealy.proofs.RowLemmas.{target_below}
use Rattle.lw_separate.specs.bodies.Renaming.{StandsFor, Merges, CanRename, Renames, renamed, IsAllStates, NamesStates, NamesPlaces}
use Rattle.lw_separate.specs.bodies.Search.{IsSearch}

pub if_ok_map : {T E : Type 0} (P Q : T → Type 0) (r : Result T E) → ((t : T) → P t → Q t) → IfOk r P → IfOk r Q
if_ok_map P Q (Ok t) f h = f t h
if_ok_map P Q (Err e) f h = h

module _ (a : ℕ) (m : Rows) (names : List ℕ) (n : NamesStates a m names) where
  stands : (q : ℕ) → q < length m → StandsFor a m q (get_or names q 0)
  stands q lq = n.each q (omega (arith, n.long))

  lower_name_differs : (p q : ℕ) → p < length m → q < length m → get_or names p 0 < get_or names q 0 → Differ a m p q
  lower_name_differs p q lp lq lt =
      let d : Differ a m (get_or names p 0) q = (stands q lq).least (get_or names p 0) lt in
      (d.0, d.1, λ same. d.2 ((stands p lp).agrees d.0 d.1 ∙ same))

  -- states of two names differ on some word
  pub two_names_differ : (p q : ℕ) → p < length m → q < length m → get_or names p 0 ≢ get_or names q 0 → Differ a m p q
  two_names_differ p q lp lq other =
      ⊎_elim
      (λ (s : get_or names p 0 ≡ get_or names q 0). absurd (other s))
      (λ (o : (get_or names p 0 < get_or names q 0) ⊎ (get_or names q 0 < get_or names p 0)).
      ⊎_elim
      (λ (lt : get_or names p 0 < get_or names q 0). lower_name_differs p q lp lq lt)
      (λ (lt : get_or names q 0 < get_or names p 0). let d = lower_name_differs q p lq lp lt in (d.0, d.1, λ same. d.2 (sym same)))
      o)
      (cases_order (get_or names p 0) (get_or names q 0))

-- each target is renamed to one of the states
pub merge_closed : (a : ℕ) (m : Rows) (states names : List ℕ) → IsMachine a m → IsAllStates m states → NamesStates a m names → (k x : ℕ) → k < length states → x < a → get_or names (next m (get_or states k 0) x) 0 < length states
merge_closed a m states names machine all named k x lk xa =
    let q : get_or states k 0 < length m = omega (arith, all.each k lk, all.long, lk) in
    let t : next m (get_or states k 0) x < length m = target_below a m (get_or states k 0) x machine q xa in
    omega (arith, (named.each (next m (get_or states k 0) x) (omega (arith, named.long, t))).state, all.long)

pub can_merge : (a : ℕ) (m : Rows) (states names : List ℕ) → IsMachine a m → length m ≤ 1024 → IsAllStates m states → NamesStates a m names → CanRename a m states names
can_merge a m states names machine few all named = record {
  some = omega (arith, all.long, machine.some_state);
  few = omega (arith, all.long);
  named = named.long;
  within = λ k lk. omega (arith, all.each k lk, all.long, lk);
  closed = merge_closed a m states names machine all named;
}

pub merges : (a : ℕ) (m : Rows) (states names : List ℕ) (h : Rows) → IsMachine a m → IsAllStates m states → NamesStates a m names → Renames a m states names h → Merges a m h
merges a m states names h machine all named r = record {
  machine = r.machine;
  long = r.long ∙ all.long;
  outputs = λ q x lq xa. ap (λ (d : ℕ × ℕ). d.1) (cells q x lq xa);
  targets = λ q x lq xa.
      let t : next m q x < length m = target_below a m q x machine lq xa in
      subst (λ (p : ℕ). StandsFor a m (next m q x) p) (sym (ap (λ (d : ℕ × ℕ). d.0) (cells q x lq xa))) (named.each (next m q x) (omega (arith, named.long, t)));
}
  where
    cells : (q x : ℕ) → q < length m → x < a → cell h q x ≡ renamed m names q x
    cells q x lq xa =
        let lk : q < length states = omega (arith, all.long) in
        r.cells q x lk xa ∙ ap (λ (p : ℕ). renamed m names p x) (all.each q lk)

-- in a minimal machine each state stands for itself
pub merges_itself : (a : ℕ) (m : Rows) → IsMachine a m → IsMinimal a m → Merges a m m
merges_itself a m machine minimal = record {
  machine = machine;
  long = refl;
  outputs = λ q x lq xa. refl;
  targets = λ q x lq xa.
      let t : next m q x < length m = target_below a m q x machine lq xa in
      record { state = t; agrees = λ w letters. refl; least = λ p lt. minimal.apart p (next m q x) lt t };
}

pub number_closed : (a : ℕ) (h : Rows) (ws : List (List ℕ)) (ss : List ℕ) (ps : List (Option ℕ)) (names : List ℕ) → IsSearch a h ws ss ps (length ws) 0 → NamesPlaces ps names → (k x : ℕ) → k < length ss → x < a → get_or names (next h (get_or ss k 0) x) 0 < length ss
number_closed a h ws ss ps names s named k x lk xa =
    let lw : k < length ws = omega (arith, s.paired) in
    let r = s.closed k x lw lw xa in
    let at : get_or ps (next h (get_or ss k 0) x) None ≡ Some r.0 = ap (λ (q : ℕ). get_or ps q None) (sym r.2) ∙ s.there r.0 r.1 in
    omega (arith, named (next h (get_or ss k 0) x) r.0 at, r.1, s.paired)

pub can_number : (a : ℕ) (h : Rows) (ws : List (List ℕ)) (ss : List ℕ) (ps : List (Option ℕ)) (names : List ℕ) → length h ≤ 1024 → IsSearch a h ws ss ps (length ws) 0 → length names ≡ length ps → NamesPlaces ps names → CanRename a h ss names
can_number a h ws ss ps names few s long named = record {
  some = omega (arith, s.some, s.paired);
  few = omega (arith, s.left);
  named = long ∙ s.placed;
  within = λ k lk. s.state k (omega (arith, s.paired));
  closed = number_closed a h ws ss ps names s named;
}
