-- The suite of the H-method that is asked: a machine has one at most, and it tells the machine's states.
use Rattle.std.proofs.Common.{◌≡◌, ◌↔◌, ◌≢◌, ℕ, zero, suc, ◌+◌, ◌<◌, ◌≤◌, ◌⊎◌, inl, inr, ⊎_elim, List, [], ◌∷◌, length, get_or, All, Contains, sym, ap, ap₂, ◌∙◌, subst, arith}
use Rattle.std.specs.List.Sorted.{IsStrictlyIncreasing}
use Rattle.std.proofs.lemmas.Bool.{cases_lt, cases_order}
use Rattle.std.proofs.lemmas.List.{ext_get_or, get_or_default}
use Rattle.std.proofs.lemmas.List.Elements.{Contains-get_or, All-contains, All-get_or}
use Rattle.std.proofs.lemmas.List.Kept.{AllPairs-from_increasing}
use Rattle.lw_words.specs.Word.{IsWord}
use Rattle.lw_mealy.specs.Machine.{Rows, IsMachine, after}
use Rattle.lw_mealy.proofs.WordLemmas.{after_below}
use Rattle.lw_separate.specs.Separators.{SplitAt}
use Rattle.lw_separate.proofs.OneLemmas.{one_least_access, one_separators}
use Rattle.lw_wp.specs.GreedySuite.{AreGreedyRows, AreGreedySets, GreedySuiteIsHSuite, GreedySuiteIsOfWords, IsGreedyRow, IsGreedyTable, OneGreedySuite, states_of}
use Rattle.lw_wp.specs.HSuite.{IsHSuite}
use Rattle.lw_wp.specs.Identification.{separates}
use Rattle.lw_wp.specs.Tables.{Table, row_for, suite_by}
use Rattle.lw_wp.proofs.FilterLemmas.{first_passes}
use Rattle.lw_wp.proofs.GreedyLemmas.{greedy_apart, one_greedy}
use Rattle.lw_wp.proofs.HTableLemmas.{own_below, row_below}
use Rattle.lw_wp.proofs.HTellsLemmas.{Covers, CoversEach, are_letters, is_h_suite}
use Rattle.lw_wp.proofs.MarkLemmas.{contains_range}
use Rattle.lw_wp.proofs.SeparationLemmas.{separates_differ, differ_separates}

-- a number that increases with its place is at least its place
above_place : (xs : List ℕ) → IsStrictlyIncreasing xs → (k : ℕ) → k < length xs → k ≤ get_or xs k 0
above_place xs up zero lt = omega arith
above_place xs up (suc k) lt =
    let before = above_place xs up k (omega (arith, lt)) in
    let e : k + 1 ≡ suc k = omega arith in
    let more : get_or xs k 0 < get_or xs (suc k) 0 = subst (λ (j : ℕ). get_or xs k 0 < get_or xs j 0) e (up k (omega (arith, lt))) in
    omega (arith, before, more)

-- so increasing numbers below n are at most n
few_below : (n : ℕ) (xs : List ℕ) → IsStrictlyIncreasing xs → All (λ i. i < n) xs → length xs ≤ n
few_below n [] up all = omega arith
few_below n (x ∷ xs) up all =
    let k : ℕ = length xs in
    let least = above_place (x ∷ xs) up k (omega arith) in
    let most = All-get_or (λ (i : ℕ). i < n) (x ∷ xs) k 0 (omega arith) all in
    omega (arith, least, most)

-- where two lists increase and have the same numbers, each element of one isn't below the other's at its place
module _ (xs ys : List ℕ) (up : IsStrictlyIncreasing xs) (along : IsStrictlyIncreasing ys) (within : (i : ℕ) → Contains xs i → Contains ys i) where
  not_below : (k : ℕ) → k < length xs → ((j : ℕ) → j < k → get_or xs j 0 ≡ get_or ys j 0) → (k < length ys) × (get_or ys k 0 ≤ get_or xs k 0)
  not_below k lt same =
      let there = within (get_or xs k 0) (Contains-get_or xs k 0 lt) in
      let at : ℕ = there.0 in
      let lat : at < length ys = there.1 in
      let value : get_or ys at (get_or xs k 0) ≡ get_or xs k 0 = there.2 in
      let value0 : get_or ys at 0 ≡ get_or xs k 0 = get_or_default ys at 0 (get_or xs k 0) lat ∙ value in
      ⊎_elim
      (λ (e : at ≡ k). (omega (arith, e, lat), let v : get_or ys k 0 ≡ get_or xs k 0 = subst (λ (j : ℕ). get_or ys j 0 ≡ get_or xs k 0) e value0 in omega (arith, v)))
      (λ (o : (at < k) ⊎ (k < at)). ⊎_elim
      (λ (l : at < k).
      let less : get_or xs at 0 < get_or xs k 0 = AllPairs-from_increasing xs up at k 0 l lt in
      let e = same at l in
      absurd (omega (arith, less, e, value0)))
      (λ (l : k < at).
      let less : get_or ys k 0 < get_or ys at 0 = AllPairs-from_increasing ys along k at 0 l lat in
      (omega (arith, l, lat), omega (arith, less, value0)))
      o)
      (cases_order at k)

-- such lists are one
module _ (xs ys : List ℕ) (up : IsStrictlyIncreasing xs) (along : IsStrictlyIncreasing ys) (same : (i : ℕ) → Contains xs i ↔ Contains ys i) where
  equal_below : (k : ℕ) → (j : ℕ) → j < k → k ≤ length xs → get_or xs j 0 ≡ get_or ys j 0
  equal_below zero j lj le = absurd (omega (arith, lj))
  equal_below (suc k) j lj le =
      let before : (i : ℕ) → i < k → get_or xs i 0 ≡ get_or ys i 0 = λ i li. equal_below k i li (omega (arith, le)) in
      ⊎_elim
      (λ (l : j < k). before j l)
      (λ (ge : k ≤ j).
      let e : k ≡ j = omega (arith, lj, ge) in
      let one = not_below xs ys up along (λ i. (same i).0) k (omega (arith, le)) before in
      let other = not_below ys xs along up (λ i. (same i).1) k one.0 (λ i li. sym (before i li)) in
      let v : get_or xs k 0 ≡ get_or ys k 0 = let u = one.1 in let w = other.1 in omega (arith, u, w) in
      subst (λ (i : ℕ). get_or xs i 0 ≡ get_or ys i 0) e v)
      (cases_lt j k)

  equal_all : (j : ℕ) → j < length xs → get_or xs j 0 ≡ get_or ys j 0
  equal_all j lt = equal_below (length xs) j lt (omega arith)

one_increasing : (xs ys : List ℕ) → IsStrictlyIncreasing xs → IsStrictlyIncreasing ys → ((i : ℕ) → Contains xs i ↔ Contains ys i) → xs ≡ ys
one_increasing xs ys up along same =
    ext_get_or 0 xs ys
    (let u = longer xs ys up along same in let v = longer ys xs along up (λ i. ((same i).1, (same i).0)) in omega (arith, u, v))
    (equal_all xs ys up along same)
  where
    longer : (us vs : List ℕ) → IsStrictlyIncreasing us → IsStrictlyIncreasing vs → ((i : ℕ) → Contains us i ↔ Contains vs i) → length us ≤ length vs
    longer [] vs u v s = omega arith
    longer (x ∷ us) vs u v s =
        let k : ℕ = length us in
        let at = not_below (x ∷ us) vs u v (λ i. (s i).0) k (omega arith) (λ j lj. equal_all (x ∷ us) vs u v s j (omega (arith, lj))) in
        let l = at.0 in omega (arith, l)

-- rows, tables and sets are one
one_row : (a : ℕ) (h : Rows) (words own : List (List ℕ)) (q d : ℕ) (xs ys : List ℕ) → IsGreedyRow a h words own q d xs → IsGreedyRow a h words own q d ys → xs ≡ ys
one_row a h words own q d xs ys k l = one_increasing xs ys k.increasing l.increasing (λ i. (λ at. (l.each i).1 ((k.each i).0 at), λ at. (k.each i).1 ((l.each i).0 at)))

one_rows : (a : ℕ) (h : Rows) (k : ℕ) (words own : List (List ℕ)) (q : ℕ) (xs ys : List (List ℕ)) → AreGreedyRows a h k words own q xs → AreGreedyRows a h k words own q ys → xs ≡ ys
one_rows a h k words own q xs ys u v =
    let e = u.long in
    let f = v.long in
    ext_get_or [] xs ys (e ∙ sym f) (λ d lt. one_row a h words own q d (get_or xs d []) (get_or ys d []) (u.each d lt) (v.each d (omega (arith, lt, e, f))))

one_table : (a : ℕ) (h : Rows) (k : ℕ) (words own : List (List ℕ)) (s t : Table) → IsGreedyTable a h k words own s → IsGreedyTable a h k words own t → s ≡ t
one_table a h k words own s t u v =
    let e = u.long in
    let f = v.long in
    ext_get_or [] s t (e ∙ sym f) (λ q lt. one_rows a h k words own q (get_or s q []) (get_or t q []) (u.each q lt) (v.each q (omega (arith, lt, e, f))))

one_sets : (h : Rows) (words s t : List (List ℕ)) → AreGreedySets h words s → AreGreedySets h words t → s ≡ t
one_sets h words s t u v =
    let e = u.long in
    let f = v.long in
    ext_get_or [] s t (e ∙ sym f) (λ q lt. one_greedy h words q (states_of h) (get_or s q []) (get_or t q []) (u.each q lt) (v.each q (omega (arith, lt, e, f))))

pub one_greedy_suite : OneGreedySuite
one_greedy_suite a h k s t u v =
    let access : u.access ≡ v.access = one_least_access a h u.access v.access u.least v.least in
    let ends : u.ends ≡ v.ends = one_separators a h u.ends v.ends u.separating v.separating in
    let own : u.own ≡ v.own = one_sets h u.ends u.own v.own u.greedy (subst (λ (ws : List (List ℕ)). AreGreedySets h ws v.own) (sym ends) v.greedy) in
    let rows : IsGreedyTable a h k u.ends u.own v.table =
    subst (λ (l : List (List ℕ)). IsGreedyTable a h k u.ends l v.table) (sym own) (subst (λ (ws : List (List ℕ)). IsGreedyTable a h k ws v.own v.table) (sym ends) v.rows) in
    let table : u.table ≡ v.table = one_table a h k u.ends u.own u.table v.table u.rows rows in
    u.words
    ∙ (ap₂ (λ (x y : List (List ℕ)). suite_by a h k x y u.table) access ends
    ∙ (ap (suite_by a h k v.access v.ends) table ∙ sym v.words))

-- it tells the states
module _ (a : ℕ) (h : Rows) (k : ℕ) (ends own : List (List ℕ)) (table : Table) (machine : IsMachine a h) (greedy : AreGreedySets h ends own) (is : IsGreedyTable a h k ends own table) where
  apart : (q p : ℕ) → q < length h → p < length h → p ≢ q → (i : ℕ) × Contains (get_or own q []) i × SplitAt h ends q p i
  apart q p lq lp n =
      let l = greedy.long in
      greedy_apart h ends q p n (states_of h) (get_or own q []) (greedy.each q (omega (arith, l, lq))) (contains_range (length h) p lp)

  has_row : (q : ℕ) → q < length h → length (get_or table q []) ≡ k + 1
  has_row q lq = (is.each q (let l = is.long in omega (arith, l, lq))).long

  row : (q d : ℕ) → q < length h → d < k + 1 → IsGreedyRow a h ends own q d (row_for table q d)
  row q d lq ld = (is.each q (let l = is.long in omega (arith, l, lq))).each d (let l = has_row q lq in omega (arith, l, ld))

  covers : (q d : ℕ) → q < length h → d < k + 1 → Covers a h ends own q d (row_for table q d)
  covers q d lq ld =
      let here = row q d lq ld in
      record {
        few = few_below (length ends) (row_for table q d) here.increasing (row_below a h ends own greedy q d (row_for table q d) here);
        identifies = λ i at. (here.each i).1 (inl at);
        pairs = λ w ws le n.
            let r : ℕ = after h q w in
            let s = apart r q (after_below a h w q machine lq ws) lq (λ e. n (sym e)) in
            let first = first_passes (λ (j : ℕ). separates h r q (get_or ends j [])) (get_or own r []) s.0 s.1 (differ_separates h r q (get_or ends s.0 []) s.2.1) in
            let lt : first.0 < length ends = All-contains (λ (j : ℕ). j < length ends) (get_or own r []) first.0 (own_below a h ends own greedy r) first.1 in
            (first.0, first.1, (here.each first.0).1 (inr (w, ws, le, first.2)), (lt, separates_differ h r q (get_or ends first.0 []) first.3));
      }

  pub covers_each : CoversEach a h k ends own table
  covers_each = record { apart = apart; has_row = has_row; covers = covers }

pub greedy_is_of_words : GreedySuiteIsOfWords
greedy_is_of_words a h k suite is = subst (All (IsWord a)) (sym is.words) (are_letters a h k is.access is.ends is.table is.least is.separating)

pub greedy_is_h_suite : GreedySuiteIsHSuite
greedy_is_h_suite a h k suite machine is =
    subst (IsHSuite a h k) (sym is.words)
    (is_h_suite a h k is.access is.ends is.table machine is.least is.separating is.own (covers_each a h k is.ends is.own is.table machine is.greedy is.rows))
