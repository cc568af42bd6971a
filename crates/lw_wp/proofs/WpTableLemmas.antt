-- The Wp-suite is the suite by the table of the identification sets.
use Rattle.std.proofs.Common.{◌≡◌, ℕ, ◌+◌, ◌-◌, ◌<◌, ◌≤◌, List, [], ◌++◌, length, get_or, All, ltb, ⊎_elim, sym, ap, ap₂, ◌∙◌, subst, arith}
use Rattle.std.specs.List.{flat_map}
use Rattle.std.proofs.lemmas.Bool.{cases_lt, cond-true, cond-false, lt-ltb, le-ltb}
use Rattle.std.proofs.lemmas.List.{get_or_past}
use Rattle.std.proofs.lemmas.List.Concat.{flat_map-append}
use Rattle.std.proofs.lemmas.List.Elements.{All-nil}
use Rattle.lw_words.specs.Word.{IsWord}
use Rattle.lw_mealy.specs.Machine.{Rows, IsMachine, after}
use Rattle.lw_mealy.proofs.WordLemmas.{after_below}
use Rattle.lw_chunks.specs.Middle.{each_with, words_of_length, words_up_to}
use Rattle.lw_chunks.proofs.LetterLemmas.{joined_words}
use Rattle.lw_separate.specs.Canonical.{AreLeastAccess}
use Rattle.lw_separate.specs.Separators.{IsSeparators}
use Rattle.lw_separate.proofs.ListLemmas.{access_are_words}
use Rattle.lw_wp.specs.Identification.{identification_of}
use Rattle.lw_wp.specs.WpSuite.{wp_suite_of, IsWpSuite}
use Rattle.lw_wp.specs.Tables.{chosen, Table, row_for, words_behind, words_with, block, suite_by}
use Rattle.lw_wp.specs.bodies.Tables.{IsTable, IsWpTable}
use Rattle.lw_wp.proofs.FlatLemmas.{joined}
use Rattle.lw_wp.proofs.FrontLemmas.{same_each, each_mapped, words_longest, words_shorter}

-- where a state has no row for so many letters, all words stand behind
pub all_behind : (ends : List (List ℕ)) (table : Table) (q left : ℕ) → length (get_or table q []) ≤ left → words_behind ends table q left ≡ ends
all_behind ends table q left ge = cond-false (ltb left (length (get_or table q []))) (chosen ends (row_for table q left)) ends (le-ltb left (length (get_or table q [])) ge)

pub row_behind : (ends : List (List ℕ)) (table : Table) (q left : ℕ) → left < length (get_or table q []) → words_behind ends table q left ≡ chosen ends (row_for table q left)
row_behind ends table q left lt = cond-true (ltb left (length (get_or table q []))) (chosen ends (row_for table q left)) ends (lt-ltb left (length (get_or table q [])) lt)

module _ (a : ℕ) (h : Rows) (k : ℕ) (access ends : List (List ℕ)) (table : Table) (machine : IsMachine a h) (words : All (IsWord a) access) (is : IsWpTable h ends table) where
  below : (u v : List ℕ) → IsWord a u → IsWord a v → after h 0 (u ++ v) < length table
  below u v us vs = let b = after_below a h (u ++ v) 0 machine machine.some_state (joined_words a u v us vs) in let l = is.long in omega (arith, b, l)

  shorter : (u v : List ℕ) → IsWord a u → IsWord a v × (length v ≤ k) → words_with h k ends table u v ≡ block (u ++ v) ends
  shorter u v us vs =
      let s = is.single (after h 0 (u ++ v)) (below u v us vs.0) in
      ap (block (u ++ v)) (all_behind ends table (after h 0 (u ++ v)) (k + 1 - length v) (omega (arith, s, vs.1)))

  longest : (u v : List ℕ) → IsWord a u → IsWord a v × (length v ≡ k + 1) → words_with h k ends table u v ≡ block (u ++ v) (identification_of h ends (after h 0 (u ++ v)))
  longest u v us vs =
      let q : ℕ = after h 0 (u ++ v) in
      let s = is.single q (below u v us vs.0) in
      let none : k + 1 - length v ≡ 0 = omega (arith, vs.1) in
      ap (block (u ++ v))
      (ap (words_behind ends table q) none ∙ (row_behind ends table q 0 (omega (arith, s)) ∙ (is.each q (below u v us vs.0)).are))

  -- the words of each front, front by front
  by_fronts : (behind : List ℕ → List (List ℕ)) (mids : List (List ℕ)) → flat_map (λ (ws : List (List ℕ)). ws) (each_with (λ (u v : List ℕ). behind (u ++ v)) access mids) ≡ flat_map behind (each_with (λ (u v : List ℕ). u ++ v) access mids)
  by_fronts behind mids =
      ap (flat_map (λ (ws : List (List ℕ)). ws)) (each_mapped (λ (u v : List ℕ). u ++ v) behind access mids) ∙ joined behind (each_with (λ (u v : List ℕ). u ++ v) access mids)

  pub is_wp_suite : suite_by a h k access ends table ≡ wp_suite_of a h k access ends
  is_wp_suite =
      let join : List (List (List ℕ)) → List (List ℕ) = flat_map (λ (ws : List (List ℕ)). ws) in
      let own : List ℕ → List (List ℕ) = λ front. block front (identification_of h ends (after h 0 front)) in
      let with' : List ℕ → List ℕ → List (List ℕ) = words_with h k ends table in
      flat_map-append (λ (ws : List (List ℕ)). ws) (each_with with' access (words_up_to a k)) (each_with with' access (words_of_length a (k + 1)))
      ∙ ap₂ (λ (us vs : List (List ℕ)). us ++ vs)
      (ap join (same_each (IsWord a) (λ (w : List ℕ). IsWord a w × (length w ≤ k)) with' (λ (u v : List ℕ). block (u ++ v) ends) shorter access (words_up_to a k) words (words_shorter a k))
      ∙ by_fronts (λ front. block front ends) (words_up_to a k))
      (ap join (same_each (IsWord a) (λ (w : List ℕ). IsWord a w × (length w ≡ k + 1)) with' (λ (u v : List ℕ). own (u ++ v)) longest access (words_of_length a (k + 1)) words (words_longest a (k + 1)))
      ∙ by_fronts own (words_of_length a (k + 1)))

-- a table of identification sets is a table
pub wp_is_table : (h : Rows) (ends : List (List ℕ)) (table : Table) → IsWpTable h ends table → IsTable h ends table
wp_is_table h ends table is =
    record {
      long = is.long;
      below = λ q left.
          let none : row_for table q left ≡ [] → All (λ (i : ℕ). i < length ends) (row_for table q left) =
          λ e. subst (All (λ (i : ℕ). i < length ends)) (sym e) (All-nil (λ (i : ℕ). i < length ends)) in
          ⊎_elim
          (λ (lt : q < length table).
          ⊎_elim
          (λ (z : left < 1). let e : left ≡ 0 = omega (arith, z) in subst (λ (l : ℕ). All (λ (i : ℕ). i < length ends) (row_for table q l)) (sym e) (is.each q lt).below)
          (λ (past : 1 ≤ left). none (get_or_past (get_or table q []) left [] (let s = is.single q lt in omega (arith, s, past))))
          (cases_lt left 1))
          (λ (ge : length table ≤ q). none (ap (λ (rows : List (List ℕ)). get_or rows left []) (get_or_past table q [] ge)))
          (cases_lt q (length table));
    }

pub made_wp_suite : (a : ℕ) (h : Rows) (k : ℕ) (access ends suite : List (List ℕ)) (table : Table) → IsMachine a h → AreLeastAccess a h access → IsSeparators a h ends → IsWpTable h ends table
    → suite ≡ suite_by a h k access ends table → IsWpSuite a h k suite
made_wp_suite a h k access ends suite table machine least separating is made =
    record { access = access; ends = ends; least = least; separating = separating; words = made ∙ is_wp_suite a h k access ends table machine (access_are_words a h access least) is }
