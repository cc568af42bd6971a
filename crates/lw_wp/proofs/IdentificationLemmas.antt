-- Identification sets: how they grow state by state, and what they do.
use Rattle.std.proofs.Common.{◌≡◌, ◌≢◌, ℕ, zero, suc, ◌+◌, ◌<◌, ◌≤◌, ◌⊎◌, ⊎_elim, Bool, true, false, ◌||◌, List, [], ◌∷◌, ◌++◌, length, get_or, take, All, Contains, refl, sym, ap, ap₂, ◌∙◌, subst, arith, append-nil}
use Rattle.std.specs.List.{filter, list_any}
use Rattle.std.proofs.lemmas.Bool.{cond-true, cond-false, cond_both, cases_Bool, cases_lt, cases_order}
use Rattle.std.proofs.lemmas.List.{map-append, length-append, length-take, get_or_default}
use Rattle.std.proofs.lemmas.List.Elements.{All-nil, All-push, All-append, All-take, All-filter, All-contains_itself}
use Rattle.std.proofs.lemmas.List.Folds.{list_any-append, list_any_at, Any-from_list_any}
use Rattle.lw_mealy.specs.Machine.{Rows, out}
use Rattle.lw_separate.specs.Separators.{IsSeparators, SplitAt}
use Rattle.lw_separate.proofs.OneLemmas.{one_separators}
use Rattle.lw_wp.specs.Identification.{separates, first_separating, with_state, identification_below, identification_of, OneIdentification, IdentificationIdentifies}
use Rattle.lw_wp.specs.Tables.{chosen}
use Rattle.lw_wp.specs.bodies.Chosen.{Chooses}
use Rattle.lw_wp.proofs.FilterLemmas.{none_pass}
use Rattle.lw_wp.proofs.SeparationLemmas.{separates_differ, differ_separates, agree_separates}

module _ (h : Rows) (words : List (List ℕ)) (q p : ℕ) where
  pub below_more : identification_below h words q (p + 1) ≡ with_state h words q p (identification_below h words q p)
  below_more = let e : p + 1 ≡ suc p = omega arith in ap (identification_below h words q) e

  module _ (numbers : List ℕ) (so_far : Chooses words numbers (identification_below h words q p)) where
    same_test : list_any (separates h q p) (chosen words numbers) ≡ list_any (separates h q p) (identification_below h words q p)
    same_test = ap (list_any (separates h q p)) so_far.are

    -- one of the words does it
    pub state_kept : true ≡ list_any (separates h q p) (chosen words numbers) → Chooses words numbers (identification_below h words q (p + 1))
    state_kept does = record {
      below = so_far.below;
      are = so_far.are ∙ sym (below_more ∙ cond-true (list_any (separates h q p) (identification_below h words q p)) (identification_below h words q p) (identification_below h words q p ++ first_separating h words q p) (sym same_test ∙ sym does));
    }

    added : false ≡ list_any (separates h q p) (chosen words numbers) → identification_below h words q (p + 1) ≡ identification_below h words q p ++ first_separating h words q p
    added fails = below_more ∙ cond-false (list_any (separates h q p) (identification_below h words q p)) (identification_below h words q p) (identification_below h words q p ++ first_separating h words q p) (sym same_test ∙ sym fails)

    -- none does, of all words neither
    pub state_none : false ≡ list_any (separates h q p) (chosen words numbers) → first_separating h words q p ≡ [] → Chooses words numbers (identification_below h words q (p + 1))
    state_none fails none = record {
      below = so_far.below;
      are = so_far.are ∙ sym (added fails ∙ (ap (λ (l : List (List ℕ)). identification_below h words q p ++ l) none ∙ append-nil (identification_below h words q p)));
    }

    -- none does, and of all words the one with this number is the first
    pub state_added : (i : ℕ) → false ≡ list_any (separates h q p) (chosen words numbers) → i < length words → first_separating h words q p ≡ get_or words i [] ∷ []
        → Chooses words (numbers ++ i ∷ []) (identification_below h words q (p + 1))
    state_added i fails lt first = record {
      below = All-push (λ (n : ℕ). n < length words) numbers i so_far.below lt;
      are = map-append (λ (n : ℕ). get_or words n []) numbers (i ∷ []) ∙ (ap₂ (λ (u v : List (List ℕ)). u ++ v) so_far.are (sym first) ∙ sym (added fails));
    }

-- the first that passes a test passes it
first_does : (test : List ℕ → Bool) (words : List (List ℕ)) → list_any test words ≡ true → list_any test (take 1 (filter test words)) ≡ true
first_does test [] is = is
first_does test (w ∷ words) is =
    cond_both (test w) (w ∷ filter test words) (filter test words) (λ (l : List (List ℕ)). list_any test (take 1 l) ≡ true)
    (λ (e : test w ≡ true). ap (λ (b : Bool). b || false) e)
    (λ (e : test w ≡ false). first_does test words (sym (ap (λ (b : Bool). b || list_any test words) e) ∙ is))

either_left : (a b : Bool) → a ≡ true → (a || b) ≡ true
either_left a b e = ap (λ (x : Bool). x || b) e

either_right : (a b : Bool) → b ≡ true → (a || b) ≡ true
either_right a b e = ⊎_elim (λ (t : a ≡ true). either_left a b t) (λ (f : a ≡ false). ap (λ (x : Bool). x || b) f ∙ e) (cases_Bool a)

module _ (h : Rows) (words : List (List ℕ)) (q : ℕ) where
  -- what is one of two lists by a test
  by_test : (P : List (List ℕ) → Type 0) (p : ℕ) (list : List (List ℕ)) → (list_any (separates h q p) list ≡ true → P list) → P (list ++ first_separating h words q p) → P (with_state h words q p list)
  by_test P p list kept grown = cond_both (list_any (separates h q p) list) list (list ++ first_separating h words q p) P kept (λ no. grown)

  one_at_most : (p : ℕ) → length (first_separating h words q p) ≤ 1
  one_at_most p = let l = length-take 1 (filter (separates h q p) words) in omega (arith, l)

  longer : (p : ℕ) (list : List (List ℕ)) → length (with_state h words q p list) ≤ length list + 1
  longer p list =
      by_test (λ (l : List (List ℕ)). length l ≤ length list + 1) p list (λ e. omega arith)
      (let l = length-append list (first_separating h words q p) in omega (arith, l, one_at_most p))

  itself : (list : List (List ℕ)) → with_state h words q q list ≡ list
  itself list =
      by_test (λ (l : List (List ℕ)). l ≡ list) q list (λ e. refl)
      (ap (λ (l : List (List ℕ)). list ++ take 1 l) (none_pass (separates h q q) words (λ w. agree_separates h q q w refl)) ∙ append-nil list)

  few_below : (n : ℕ) → length (identification_below h words q n) ≤ n
  few_below zero = omega arith
  few_below (suc n) = let l = longer n (identification_below h words q n) in omega (arith, l, few_below n)

  -- q itself adds none
  fewer_below : (n : ℕ) → q < n → length (identification_below h words q n) < n
  fewer_below zero lt = absurd (omega arith)
  fewer_below (suc n) lt =
      ⊎_elim
      (λ (less : q < n). let l = longer n (identification_below h words q n) in omega (arith, l, fewer_below n less))
      (λ (ge : n ≤ q).
      let e : q ≡ n = omega arith in
      let same : with_state h words q n (identification_below h words q n) ≡ identification_below h words q n =
      subst (λ (p : ℕ). with_state h words q p (identification_below h words q n) ≡ identification_below h words q n) e (itself (identification_below h words q n)) in
      let l = few_below n in
      let s : length (with_state h words q n (identification_below h words q n)) ≡ length (identification_below h words q n) = ap length same in
      omega (arith, l, s))
      (cases_lt q n)

  within_below : (n : ℕ) → All (Contains words) (identification_below h words q n)
  within_below zero = All-nil (Contains words)
  within_below (suc n) =
      by_test (All (Contains words)) n (identification_below h words q n) (λ e. within_below n)
      (All-append (Contains words) (identification_below h words q n) (first_separating h words q n) (within_below n)
      (All-take (Contains words) 1 (filter (separates h q n) words) (All-filter (separates h q n) (Contains words) words (All-contains_itself words))))

  -- what a list separates it goes on to separate
  still : (p r : ℕ) (list : List (List ℕ)) → list_any (separates h q p) list ≡ true → list_any (separates h q p) (with_state h words q r list) ≡ true
  still p r list does =
      by_test (λ (l : List (List ℕ)). list_any (separates h q p) l ≡ true) r list (λ e. does)
      (list_any-append (separates h q p) list (first_separating h words q r) ∙ either_left (list_any (separates h q p) list) (list_any (separates h q p) (first_separating h words q r)) does)

  here : (p : ℕ) (list : List (List ℕ)) → list_any (separates h q p) words ≡ true → list_any (separates h q p) (with_state h words q p list) ≡ true
  here p list does =
      by_test (λ (l : List (List ℕ)). list_any (separates h q p) l ≡ true) p list (λ e. e)
      (list_any-append (separates h q p) list (first_separating h words q p)
      ∙ either_right (list_any (separates h q p) list) (list_any (separates h q p) (first_separating h words q p)) (first_does (separates h q p) words does))

  separated_below : (n p : ℕ) → p < n → list_any (separates h q p) words ≡ true → list_any (separates h q p) (identification_below h words q n) ≡ true
  separated_below zero p lt does = absurd (omega arith)
  separated_below (suc n) p lt does =
      ⊎_elim
      (λ (less : p < n). still p n (identification_below h words q n) (separated_below n p less does))
      (λ (ge : n ≤ p).
      let e : p ≡ n = omega arith in
      subst (λ (r : ℕ). list_any (separates h q p) (with_state h words q r (identification_below h words q n)) ≡ true) e (here p (identification_below h words q n) does))
      (cases_lt p n)

  -- a list that separates two states, by a place
  split_from : (p : ℕ) (list : List (List ℕ)) → list_any (separates h q p) list ≡ true → (i : ℕ) × SplitAt h list q p i
  split_from p list does =
      let a = Any-from_list_any (separates h q p) list does in
      let at : get_or list a.0 [] ≡ a.1 = get_or_default list a.0 [] a.1 a.2 ∙ a.3 in
      (a.0, (a.2, separates_differ h q p (get_or list a.0 []) (ap (separates h q p) at ∙ a.4)))

  to_any : (p i : ℕ) (list : List (List ℕ)) → i < length list → out h q (get_or list i []) ≢ out h p (get_or list i []) → list_any (separates h q p) list ≡ true
  to_any p i list lt differ = list_any_at (separates h q p) list i [] lt (differ_separates h q p (get_or list i []) differ)

  among_separates : (a p : ℕ) → IsSeparators a h words → q < length h → p < length h → p ≢ q → list_any (separates h q p) words ≡ true
  among_separates a p s lq lp n =
      ⊎_elim
      (λ (e : p ≡ q). absurd (n e))
      (λ (o : (p < q) ⊎ (q < p)). ⊎_elim
      (λ (l : p < q). let w = s.whole p q l lq in to_any p w.0 words w.1.0 (λ e. w.1.1 (sym e)))
      (λ (l : q < p). let w = s.whole q p l lp in to_any p w.0 words w.1.0 w.1.1)
      o)
      (cases_order p q)

pub identification_identifies : IdentificationIdentifies
identification_identifies a h words q s lq = record {
  within = within_below h words q (length h);
  separated = λ p lp n. split_from h words q p (identification_of h words q) (separated_below h words q (length h) p lp (among_separates h words q a p s lq lp n));
  few = fewer_below h words q (length h) lq;
}

-- each of its words is one of the list, whatever the state
pub identification_within : (h : Rows) (words : List (List ℕ)) (q : ℕ) → All (Contains words) (identification_of h words q)
identification_within h words q = within_below h words q (length h)

pub one_identification : OneIdentification
one_identification a h q s t is is' = is.words ∙ (ap (λ (among : List (List ℕ)). identification_of h among q) (one_separators a h is.among is'.among is.separating is'.separating) ∙ sym is'.words)
