-- Which words a Wp-suite has, and what they tell.
use Rattle.std.proofs.Common.{◌≡◌, ◌≢◌, ℕ, zero, suc, ◌+◌, ◌*◌, ◌<◌, ◌≤◌, ◌⊎◌, ⊎_elim, List, [], ◌∷◌, ◌++◌, length, get_or, take, map, All, Contains, refl, sym, ap, ◌∙◌, subst, arith, append-nil}
use Rattle.std.specs.List.{flat_map, range_with_len}
use Rattle.std.proofs.Math.Nat.{mul-le-mul_right}
use Rattle.std.proofs.lemmas.Bool.{cases_lt, cases_order}
use Rattle.std.proofs.lemmas.List.{take_at, drop_at, length-map, length-take-le, get_or-map}
use Rattle.std.proofs.lemmas.List.Elements.{All-nil, All-take, All-drop, All-head, All-tail, All-get_or, All-contains, All-contains_itself, Contains-get_or, Contains-append_left, Contains-append_right}
use Rattle.std.proofs.lemmas.List.FromFn.{length-range_with_len, get_or-range_with_len}
use Rattle.lw_words.specs.Word.{IsWord}
use Rattle.lw_mealy.specs.Machine.{Rows, IsMachine, after}
use Rattle.lw_mealy.proofs.WordLemmas.{after_below}
use Rattle.lw_separate.specs.Canonical.{AreLeastAccess}
use Rattle.lw_separate.specs.Separators.{IsSeparators, SplitAt}
use Rattle.lw_chunks.specs.Middle.{each_with, words_of_length, words_up_to, suite_of}
use Rattle.lw_chunks.proofs.EachLemmas.{length-each, each_at}
use Rattle.lw_chunks.proofs.LetterLemmas.{joined_words}
use Rattle.lw_wp.specs.Identification.{identification_of}
use Rattle.lw_wp.specs.WpSuite.{with_identification, wp_suite_of}
use Rattle.lw_wp.specs.WpTells.{TellsWhereDifferent, TellsStates, WpSuiteTells}
use Rattle.lw_wp.proofs.IdentificationLemmas.{identification_identifies, identification_within}

module _ {X : Type 0} (P : X → Type 0) where
  pub all_front : (xs ys : List X) → All P (xs ++ ys) → All P xs
  all_front xs ys all = subst (All P) (take_at xs ys (length xs) refl) (All-take P (length xs) (xs ++ ys) all)

  pub all_rest : (xs ys : List X) → All P (xs ++ ys) → All P ys
  all_rest xs ys all = subst (All P) (drop_at xs ys (length xs) refl) (All-drop P (length xs) (xs ++ ys) all)

  pub all_unmapped : {Y : Type 0} (f : Y → X) (ys : List Y) → All P (map f ys) → All (λ y. P (f y)) ys
  all_unmapped f ys all i d lt = subst P (get_or-map f ys i d (f d) lt) (All-get_or P (map f ys) i (f d) (omega (arith, length-map ys f, lt)) all)

  pub all_part : {Y : Type 0} (f : Y → List X) (ys : List Y) (i : ℕ) (d : Y) → i < length ys → All P (flat_map f ys) → All P (f (get_or ys i d))
  all_part f [] i d lt all = absurd (omega arith)
  all_part f (y ∷ ys) zero d lt all = all_front (f y) (flat_map f ys) all
  all_part f (y ∷ ys) (suc i) d lt all = all_part f ys i d (omega arith) (all_rest (f y) (flat_map f ys) all)

-- each with each stands among them
pub contains_each : {X Y Z : Type 0} (f : X → Y → Z) (xs : List X) (ys : List Y) (x : X) (y : Y) → Contains xs x → Contains ys y → Contains (each_with f xs ys) (f x y)
contains_each {X} {Y} {Z} f xs ys x y i j =
    let up : i.0 + 1 ≤ length xs = let l = i.1 in omega (arith, l) in
    let m = mul-le-mul_right (length ys) up in
    let l = length-each f xs ys in
    let lt = j.1 in (
      i.0 * length ys + j.0,
      omega (arith, m, l, lt),
      each_at f xs ys i.0 j.0 x y (f x y) i.1 lt ∙ (ap (λ (u : X). f u (get_or ys j.0 y)) i.2 ∙ ap (λ (v : Y). f x v) j.2),
    )

-- a word over a letters stands among those of its length, and among those of at most so many letters
pub contains_words : (a : ℕ) (w : List ℕ) → IsWord a w → Contains (words_of_length a (length w)) w
contains_words a [] is = (0, omega arith, refl)
contains_words a (x ∷ w) is =
    let lt : x < a = All-head (λ (y : ℕ). y < a) x w is in
    let e = get_or-range_with_len 0 a x x lt in
    let here : Contains (range_with_len 0 a) x = (x, omega (arith, length-range_with_len 0 a, lt), omega (arith, e)) in
    contains_each (λ (y : ℕ) (v : List ℕ). y ∷ v) (range_with_len 0 a) (words_of_length a (length w)) x w here (contains_words a w (All-tail (λ (y : ℕ). y < a) x w is))

pub contains_up_to : (a n : ℕ) (w : List ℕ) → IsWord a w → length w ≤ n → Contains (words_up_to a n) w
contains_up_to a zero w is le = let e : length w ≡ 0 = omega (arith, le) in subst (λ (n : ℕ). Contains (words_of_length a n) w) e (contains_words a w is)
contains_up_to a (suc n) w is le =
    ⊎_elim
    (λ (lt : length w < suc n). Contains-append_left (words_up_to a n) (words_of_length a (suc n)) w (contains_up_to a n w is (omega (arith, lt))))
    (λ (ge : suc n ≤ length w).
    let e : length w ≡ suc n = omega (arith, le, ge) in
    Contains-append_right (words_up_to a n) (words_of_length a (suc n)) w (subst (λ (m : ℕ). Contains (words_of_length a m) w) e (contains_words a w is)))
    (cases_lt (length w) (suc n))

-- a front alone, and with each word behind it
behind_front : (P : List ℕ → Type 0) (ends : List ℕ → List (List ℕ)) (fronts : List (List ℕ)) (front : List ℕ) → Contains fronts front
    → All P (flat_map (λ u. map (λ end. u ++ end) ([] ∷ ends u)) fronts) → P front × All (λ w. P (front ++ w)) (ends front)
behind_front P ends fronts front in' all =
    let here : All P (map (λ (end : List ℕ). front ++ end) ([] ∷ ends front)) =
    subst (λ (u : List ℕ). All P (map (λ (end : List ℕ). u ++ end) ([] ∷ ends u))) in'.2 (all_part P (λ (u : List ℕ). map (λ (end : List ℕ). u ++ end) ([] ∷ ends u)) fronts in'.0 front in'.1 all) in
    let each : All (λ (w : List ℕ). P (front ++ w)) ([] ∷ ends front) = all_unmapped P (λ (end : List ℕ). front ++ end) ([] ∷ ends front) here in
    (subst P (append-nil front) (All-head (λ (w : List ℕ). P (front ++ w)) [] (ends front) each), All-tail (λ (w : List ℕ). P (front ++ w)) [] (ends front) each)

-- a separating word for two states, in either order
pub split_both : (a : ℕ) (h : Rows) (ends : List (List ℕ)) → IsSeparators a h ends → (p q : ℕ) → p < length h → q < length h → p ≢ q → (i : ℕ) × SplitAt h ends p q i
split_both a h ends s p q lp lq n =
    ⊎_elim
    (λ (e : p ≡ q). absurd (n e))
    (λ (o : (p < q) ⊎ (q < p)). ⊎_elim
    (λ (l : p < q). let w = s.whole p q l lq in (w.0, w.1))
    (λ (l : q < p). let w = s.whole q p l lp in (w.0, (w.1.0, λ e. w.1.1 (sym e))))
    o)
    (cases_order p q)

-- what holds of all words of a Wp-suite
module _ (a : ℕ) (h : Rows) (k : ℕ) (access ends : List (List ℕ)) (least : AreLeastAccess a h access) (P : List ℕ → Type 0) (all : All P (wp_suite_of a h k access ends)) where
  abbrev pub at : ℕ → List ℕ
  at q = get_or access q []

  front_in : (middles : List (List ℕ)) (q : ℕ) (mid : List ℕ) → q < length h → Contains middles mid → Contains (each_with (λ u v. u ++ v) access middles) (at q ++ mid)
  front_in middles q mid lq in' = contains_each (λ (u v : List ℕ). u ++ v) access middles (at q) mid (Contains-get_or access q [] (let e = least.each in omega (arith, e, lq))) in'

  -- an access word with at most k letters behind it, alone and with each of the words at the end
  pub of_shorter : (q : ℕ) (mid : List ℕ) → q < length h → IsWord a mid → length mid ≤ k → P (at q ++ mid) × All (λ w. P ((at q ++ mid) ++ w)) ends
  of_shorter q mid lq is le =
      let fronts : List (List ℕ) = each_with (λ (u v : List ℕ). u ++ v) access (words_up_to a k) in
      behind_front P (λ u. ends) fronts (at q ++ mid) (front_in (words_up_to a k) q mid lq (contains_up_to a k mid is le))
      (all_front P (suite_of access (words_up_to a k) ends) (with_identification h ends (each_with (λ (u v : List ℕ). u ++ v) access (words_of_length a (k + 1)))) all)

  -- one with k + 1 letters behind it, alone and with the identification set of the state that is reached
  pub of_longest : (q : ℕ) (mid : List ℕ) → q < length h → IsWord a mid → length mid ≡ k + 1
      → P (at q ++ mid) × All (λ w. P ((at q ++ mid) ++ w)) (identification_of h ends (after h 0 (at q ++ mid)))
  of_longest q mid lq is len =
      let fronts : List (List ℕ) = each_with (λ (u v : List ℕ). u ++ v) access (words_of_length a (k + 1)) in
      behind_front P (λ u. identification_of h ends (after h 0 u)) fronts (at q ++ mid)
      (front_in (words_of_length a (k + 1)) q mid lq (subst (λ (n : ℕ). Contains (words_of_length a n) mid) len (contains_words a mid is)))
      (all_rest P (suite_of access (words_up_to a k) ends) (with_identification h ends fronts) all)

  -- one with at most k + 1 letters behind it
  pub of_fronts : (q : ℕ) (mid : List ℕ) → q < length h → IsWord a mid → length mid ≤ k + 1 → P (at q ++ mid)
  of_fronts q mid lq is le =
      ⊎_elim
      (λ (lt : length mid < k + 1). (of_shorter q mid lq is (omega (arith, lt))).0)
      (λ (ge : k + 1 ≤ length mid). (of_longest q mid lq is (omega (arith, le, ge))).0)
      (cases_lt (length mid) (k + 1))

module _ (a : ℕ) (h : Rows) (k : ℕ) (access ends : List (List ℕ)) (machine : IsMachine a h) (least : AreLeastAccess a h access) (separating : IsSeparators a h ends) where
  abbrev suite : List (List ℕ)
  suite = wp_suite_of a h k access ends

  has_all : All (Contains suite) suite
  has_all = All-contains_itself suite

  below : (q : ℕ) (mid : List ℕ) → q < length h → IsWord a mid → after h 0 (get_or access q [] ++ mid) < length h
  below q mid lq is = after_below a h (get_or access q [] ++ mid) 0 machine machine.some_state (joined_words a (get_or access q []) mid (least.words q lq).does.0 is)

  -- a word with at most k letters behind an access word against one with at most k + 1
  told_apart : (s q : ℕ) (near mid : List ℕ) → s < length h → q < length h → IsWord a near → IsWord a mid → length near ≤ k → length mid ≤ k + 1
      → TellsWhereDifferent h suite (get_or access s [] ++ near) (get_or access q [] ++ mid)
  told_apart s q near mid ls lq ns ms few le n =
      let u : List ℕ = get_or access s [] ++ near in
      let v : List ℕ = get_or access q [] ++ mid in
      let first : All (λ w. Contains suite (u ++ w)) ends = (of_shorter a h k access ends least (Contains suite) has_all s near ls ns few).1 in
      ⊎_elim
      (λ (less : length mid < k + 1).
      let second : All (λ w. Contains suite (v ++ w)) ends = (of_shorter a h k access ends least (Contains suite) has_all q mid lq ms (omega (arith, less))).1 in
      let r = split_both a h ends separating (after h 0 u) (after h 0 v) (below s near ls ns) (below q mid lq ms) n in
      record {
        suffix = get_or ends r.0 [];
        one = All-get_or (λ (w : List ℕ). Contains suite (u ++ w)) ends r.0 [] r.1.0 first;
        other = All-get_or (λ (w : List ℕ). Contains suite (v ++ w)) ends r.0 [] r.1.0 second;
        differ = r.1.1;
      })
      (λ (full : k + 1 ≤ length mid).
      let own : List (List ℕ) = identification_of h ends (after h 0 v) in
      let second : All (λ w. Contains suite (v ++ w)) own = (of_longest a h k access ends least (Contains suite) has_all q mid lq ms (omega (arith, le, full))).1 in
      let r = (identification_identifies a h ends (after h 0 v) separating (below q mid lq ms)).separated (after h 0 u) (below s near ls ns) n in
      let within : Contains ends (get_or own r.0 []) = All-get_or (Contains ends) own r.0 [] r.1.0 (identification_within h ends (after h 0 v)) in
      record {
        suffix = get_or own r.0 [];
        one = All-contains (λ (w : List ℕ). Contains suite (u ++ w)) ends (get_or own r.0 []) first within;
        other = All-get_or (λ (w : List ℕ). Contains suite (v ++ w)) own r.0 [] r.1.0 second;
        differ = λ e. r.1.1 (sym e);
      })
      (cases_lt (length mid) (k + 1))

  home_apart : (p q : ℕ) (w : List ℕ) → p < length h → q < length h → IsWord a w → length w ≤ k + 1 → TellsWhereDifferent h suite (get_or access p []) (get_or access q [] ++ w)
  home_apart p q w lp lq is le =
      subst (λ (u : List ℕ). TellsWhereDifferent h suite u (get_or access q [] ++ w)) (append-nil (get_or access p []))
      (told_apart p q [] w lp lq (All-nil (λ (x : ℕ). x < a)) is (omega arith) le)

  along_apart : (q : ℕ) (w : List ℕ) (i j : ℕ) → q < length h → IsWord a w → length w ≡ k + 1 → 0 < i → i < j → j ≤ k + 1
      → TellsWhereDifferent h suite (get_or access q [] ++ take i w) (get_or access q [] ++ take j w)
  along_apart q w i j lq is len some lo hi =
      told_apart q q (take i w) (take j w) lq lq (All-take (λ (x : ℕ). x < a) i w is) (All-take (λ (x : ℕ). x < a) j w is)
      (omega (arith, length-take-le i w (omega (arith, len, lo, hi)), lo, hi))
      (omega (arith, length-take-le j w (omega (arith, len, hi)), hi))

  tells : TellsStates a h k suite
  tells = record {
    access = access;
    least = least;
    has = λ q w lq is le. of_fronts a h k access ends least (Contains suite) has_all q w lq is le;
    apart = home_apart;
    along = along_apart;
  }

pub wp_suite_tells : WpSuiteTells
wp_suite_tells a h k words machine is = subst (TellsStates a h k) (sym is.words) (tells a h k is.access is.ends machine is.least is.separating)
