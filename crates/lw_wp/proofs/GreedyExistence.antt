-- A machine whose states are told apart has greedy sets and the rows that are made of them.
use Rattle.std.proofs.Common.{◌≡◌, ◌≢◌, ℕ, zero, suc, ◌+◌, ◌<◌, ◌≤◌, ◌⊎◌, inl, inr, ⊎_elim, Bool, true, false, List, [], ◌∷◌, ◌++◌, length, get_or, set, take, replicate, All, Contains, refl, sym, ◌∙◌, subst, arith}
use Rattle.std.specs.List.{filter, IsFirstMaxByKey}
use Rattle.std.proofs.lemmas.Bool.{cases_eq, cases_lt}
use Rattle.std.proofs.lemmas.List.{length-replicate}
use Rattle.std.proofs.lemmas.List.Elements.{All-nil, All-cons, All-get_or, All-filter, All-take, All-contains, Contains-push}
use Rattle.std.proofs.lemmas.List.Sums.{best_none}
use Rattle.lw_mealy.specs.Machine.{Rows, IsMachine, next}
use Rattle.lw_mealy.proofs.RowLemmas.{target_below}
use Rattle.lw_separate.specs.Separators.{IsSeparators}
use Rattle.lw_separate.proofs.ExistenceLevels.{collected}
use Rattle.lw_wp.specs.Identification.{separates}
use Rattle.lw_wp.specs.GreedySuite.{AreGreedyRows, AreGreedySets, IsGreedy, IsGreedyTable, first_apart, is_alike, separated_of, states_of}
use Rattle.lw_wp.specs.Tables.{Table}
use Rattle.lw_wp.specs.bodies.HTables.{AddsStates, AreMarked, IsOfPair, IsTarget, LeadsTo, marked_numbers}
use Rattle.lw_wp.proofs.FilterLemmas.{contains_tail}
use Rattle.lw_wp.proofs.GreedyLemmas.{fewer_left, kept, some_separated, taken}
use Rattle.lw_wp.proofs.HTableLemmas.{RowsUpTo, no_pairs, no_targets, own_below, pair_marked, pair_none, pairs_all, rows_begun, rows_more, target_added, targets_all, targets_more, targets_none}
use Rattle.lw_wp.proofs.MarkLemmas.{marked_all, marked_more, none_marked, range_below}
use Rattle.lw_wp.proofs.TellsLemmas.{split_both}

-- what holds at a number and one holds at the next
next_number : (P : ℕ → Type 0) (i : ℕ) → P (i + 1) → P (suc i)
next_number P i p = let e : i + 1 ≡ suc i = omega arith in subst P e p

-- the best of the first words
best_among : (n : List ℕ → ℕ) (words : List (List ℕ)) (i : ℕ) → i < length words → (b : ℕ) × IsFirstMaxByKey n words (suc i) b
best_among n words zero lt = (0, best_none n words)
best_among n words (suc i) lt =
    let so_far = best_among n words i (omega (arith, lt)) in
    let b : ℕ = so_far.0 in
    ⊎_elim
    (λ (l : n (get_or words b []) < n (get_or words (suc i) [])).
    (suc i, next_number (λ k. IsFirstMaxByKey n words k (suc i)) (suc i) (taken n words (suc i) b (n (get_or words b [])) (n (get_or words (suc i) [])) so_far.1 lt refl refl l)))
    (λ (ge : n (get_or words (suc i) []) ≤ n (get_or words b [])).
    (b, next_number (λ k. IsFirstMaxByKey n words k b) (suc i) (kept n words (suc i) b (n (get_or words b [])) (n (get_or words (suc i) [])) so_far.1 lt refl refl ge)))
    (cases_lt (n (get_or words b [])) (n (get_or words (suc i) [])))

best : (n : List ℕ → ℕ) (words : List (List ℕ)) → 0 < length words → (b : ℕ) × IsFirstMaxByKey n words (length words) b
best n [] some = absurd (omega (arith, some))
best n (w ∷ words) some = best_among n (w ∷ words) (length words) (omega arith)

-- another state is left, or none is
other_left : (q : ℕ) (left : List ℕ) → All (λ p. p ≡ q) left ⊎ ((p : ℕ) × Contains left p × (p ≢ q))
other_left q [] = inl (All-nil (λ (p : ℕ). p ≡ q))
other_left q (p ∷ left) =
    ⊎_elim
    (λ (e : p ≡ q). ⊎_elim
    (λ (all : All (λ r. r ≡ q) left). inl (All-cons (λ (r : ℕ). r ≡ q) p left e all))
    (λ (o : (r : ℕ) × Contains left r × (r ≢ q)). inr (o.0, contains_tail p o.0 left o.1, o.2))
    (other_left q left))
    (λ (n : p ≡ q → ⊥). inr (p, (0, omega arith, refl), n))
    (cases_eq p q)

module _ (a : ℕ) (h : Rows) (words : List (List ℕ)) (separating : IsSeparators a h words) where
  some_greedy : (q : ℕ) → q < length h → (fuel : ℕ) (left : List ℕ) → length left ≤ fuel → All (λ p. p < length h) left → (numbers : List ℕ) × IsGreedy h words q left numbers
  some_greedy q lq zero left few below = ([], λ k d lt. absurd (omega (arith, lt, few)))
  some_greedy q lq (suc fuel) left few below =
      ⊎_elim
      (λ (all : All (λ p. p ≡ q) left). ([], all))
      (λ (o : (p : ℕ) × Contains left p × (p ≢ q)).
      let lp : o.0 < length h = All-contains (λ (p : ℕ). p < length h) left o.0 below o.1 in
      let s = split_both a h words separating o.0 q lp lq o.2 in
      let b = best (separated_of h q left) words (let l = s.1.0 in omega (arith, l)) in
      let w : List ℕ = get_or words b.0 [] in
      let some = some_separated h words q a separating lq left o.0 b.0 o.1 lp o.2 b.1 in
      let rest = some_greedy q lq fuel (filter (is_alike h q w) left) (let f = fewer_left h words q left (filter (is_alike h q w) left) w some refl in omega (arith, f, few)) (All-filter (is_alike h q w) (λ (p : ℕ). p < length h) left below) in
      (b.0 ∷ rest.0, (b.1, some, rest.1)))
      (other_left q left)

  pub some_sets : (own : List (List ℕ)) × AreGreedySets h words own
  some_sets =
      let r = collected (λ q numbers. IsGreedy h words q (states_of h) numbers) [] (length h) (λ q lq. some_greedy q lq (length (states_of h)) (states_of h) (omega arith) (range_below (length h))) in
      (r.0, record { long = r.1; each = r.2 })

-- numbers are marked
some_marked : (old : List Bool) (numbers : List ℕ) → All (λ i. i < length old) numbers → (new : List Bool) × AreMarked old new (Contains numbers)
some_marked old numbers below = let r = first_marked (length numbers) (omega arith) in (r.0, marked_all old r.0 numbers (length numbers) r.1 (omega arith))
  where
    first_marked : (index : ℕ) → index ≤ length numbers → (new : List Bool) × AreMarked old new (Contains (take index numbers))
    first_marked zero le = (old, none_marked old numbers)
    first_marked (suc index) le =
        let so_far = first_marked index (omega (arith, le)) in
        let n : ℕ = get_or numbers index 0 in
        let lt : n < length so_far.0 = let b = All-get_or (λ (i : ℕ). i < length old) numbers index 0 (omega (arith, le)) below in let l = so_far.1.long in omega (arith, b, l) in
        let new : List Bool = set so_far.0 n true in
        (new, next_number (λ k. AreMarked old new (Contains (take k numbers))) index (marked_more old so_far.0 new numbers index so_far.1 (omega (arith, le)) lt refl))

-- targets of states
module _ (a : ℕ) (h : Rows) (machine : IsMachine a h) where
  some_added : (q : ℕ) → q < length h → (old : List ℕ) → All (λ p. p < length h) old → (bound : ℕ) → bound ≤ a → (new : List ℕ) × AddsStates h old new (LeadsTo h q bound)
  some_added q lq old below zero le = (old, no_targets h q old below)
  some_added q lq old below (suc bound) le =
      let so_far = some_added q lq old below bound (omega (arith, le)) in
      let target : ℕ = next h q bound in
      let new : List ℕ = so_far.0 ++ target ∷ [] in
      (new, next_number (λ k. AddsStates h old new (LeadsTo h q k)) bound (target_added h q bound old so_far.0 new target so_far.1 refl (target_below a h q bound machine lq (omega (arith, le))) refl))

  some_targets : (states : List ℕ) → All (λ p. p < length h) states → (targets : List ℕ) × AddsStates h [] targets (IsTarget a h states)
  some_targets states below = let r = of_first (length states) (omega arith) in (r.0, targets_all a h states (length states) r.0 r.1 (omega arith))
    where
      of_first : (index : ℕ) → index ≤ length states → (targets : List ℕ) × AddsStates h [] targets (IsTarget a h (take index states))
      of_first zero le = ([], targets_none a h states)
      of_first (suc index) le =
          let so_far = of_first index (omega (arith, le)) in
          let q : ℕ = get_or states index 0 in
          let lq : q < length h = All-get_or (λ (p : ℕ). p < length h) states index 0 (omega (arith, le)) below in
          let more = some_added q lq so_far.0 so_far.1.below a (omega arith) in
          (more.0, next_number (λ k. AddsStates h [] more.0 (IsTarget a h (take k states))) index (targets_more a h states index so_far.0 more.0 so_far.1 (omega (arith, le)) more.1))

-- the first of a list, if any
first_or_none : (xs : List ℕ) → (take 1 xs ≡ []) ⊎ ((n : ℕ) × (take 1 xs ≡ n ∷ []))
first_or_none [] = inl refl
first_or_none (x ∷ xs) = inr (x, refl)

module _ (a : ℕ) (h : Rows) (words own : List (List ℕ)) (greedy : AreGreedySets h words own) where
  -- the numbers of pairs are marked
  some_pairs : (q : ℕ) (states : List ℕ) (old : List Bool) → length old ≡ length words → (new : List Bool) × AreMarked old new (IsOfPair h words own q states)
  some_pairs q states old long = let r = of_first (length states) (omega arith) in (r.0, pairs_all h words own q states (length states) old r.0 r.1 (omega arith))
    where
      of_first : (index : ℕ) → index ≤ length states → (new : List Bool) × AreMarked old new (IsOfPair h words own q (take index states))
      of_first zero le = (old, no_pairs h words own q states old)
      of_first (suc index) le =
          let so_far = of_first index (omega (arith, le)) in
          let now : List Bool = so_far.0 in
          let lt : index < length states = omega (arith, le) in
          let r : ℕ = get_or states index 0 in
          let test : ℕ → Bool = λ i. separates h r q (get_or words i []) in
          ⊎_elim
          (λ (e : first_apart h words (get_or own r []) r q ≡ []).
          (now, next_number (λ k. AreMarked old now (IsOfPair h words own q (take k states))) index (pair_none h words own q states index lt old now so_far.1 e)))
          (λ (f : (n : ℕ) × (first_apart h words (get_or own r []) r q ≡ n ∷ [])).
          let below : All (λ i. i < length words) (first_apart h words (get_or own r []) r q) =
          All-take (λ (i : ℕ). i < length words) 1 (filter test (get_or own r [])) (All-filter test (λ (i : ℕ). i < length words) (get_or own r []) (own_below a h words own greedy r)) in
          let within : f.0 < length words =
          All-contains (λ (i : ℕ). i < length words) (f.0 ∷ []) f.0 (subst (All (λ (i : ℕ). i < length words)) f.1 below) (Contains-push [] f.0) in
          let new : List Bool = set now f.0 true in (
            new,
            next_number (λ k. AreMarked old new (IsOfPair h words own q (take k states))) index
                (pair_marked h words own q states index lt old now so_far.1 f.0 new f.1 (let l = so_far.1.long in omega (arith, l, long, within)) refl),
          ))
          (first_or_none (filter test (get_or own r [])))

  module _ (machine : IsMachine a h) where
    abbrev Made : ℕ → ℕ → Type 0
    Made q d = (marks : List Bool) × (reached : List ℕ) × (rows : List (List ℕ)) × RowsUpTo a h words own q d marks reached rows

    some_rows : (q : ℕ) → q < length h → (d : ℕ) → Made q d
    some_rows q lq zero =
        let old : List Bool = replicate (length words) false in
        let long = length-replicate {A = Bool} (length words) false in
        let m = some_marked old (get_or own q []) (subst (λ (n : ℕ). All (λ (i : ℕ). i < n) (get_or own q [])) (sym long) (own_below a h words own greedy q)) in
        let row : List ℕ = marked_numbers m.0 in
        (m.0, q ∷ [], row ∷ [], rows_begun a h words own q (length words) m.0 row (row ∷ []) (m.1.long ∙ long) m.1 lq refl refl)
    some_rows q lq (suc d) =
        let so_far = some_rows q lq d in
        let made = so_far.3 in
        let targets = some_targets a h machine so_far.1 made.below in
        let m = some_pairs q targets.0 so_far.0 made.marks_long in
        let row : List ℕ = marked_numbers m.0 in (
          m.0,
          targets.0,
          so_far.2 ++ row ∷ [],
          next_number (λ k. RowsUpTo a h words own q k m.0 targets.0 (so_far.2 ++ row ∷ [])) d
              (rows_more a h words own q d so_far.0 m.0 so_far.1 targets.0 so_far.2 (so_far.2 ++ row ∷ []) row made targets.1 m.1 refl refl),
        )

    pub some_table : (k : ℕ) → (table : Table) × IsGreedyTable a h k words own table
    some_table k =
        let r = collected (λ q rows. AreGreedyRows a h k words own q rows) [] (length h)
        (λ q lq. let made = some_rows q lq k in (made.2, record { long = made.3.long; each = made.3.rows_are })) in
        (r.0, record { long = r.1; each = r.2 })
