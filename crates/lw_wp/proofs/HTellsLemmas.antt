-- Which words the suite by a table of the H-method has, and what they tell.
use Rattle.std.proofs.Common.{◌≡◌, ◌≢◌, ℕ, ◌+◌, ◌-◌, ◌*◌, ◌^◌, ◌<◌, ◌≤◌, ⊎_elim, List, [], ◌∷◌, ◌++◌, length, get_or, take, drop, All, Contains, sym, ap, ap₂, ◌∙◌, subst, arith, append-nil, append_assoc}
use Rattle.std.proofs.lemmas.Bool.{cases_lt}
use Rattle.std.proofs.lemmas.List.{length-append, length-map, length-drop, length-take-le, get_or-map, get_or_past, take-append-drop, take-take}
use Rattle.std.proofs.lemmas.List.Elements.{All-nil, All-cons, All-append, All-map, All-weaker, All-take, All-drop, All-head, All-tail, All-get_or, All-contains, All-contains_itself, Contains-get_or, Contains-append_left, Contains-append_right}
use Rattle.lw_words.specs.Word.{IsWord}
use Rattle.lw_mealy.specs.Machine.{Rows, IsMachine, after, out}
use Rattle.lw_mealy.proofs.WordLemmas.{after_below, after-append}
use Rattle.lw_separate.specs.Canonical.{AreLeastAccess}
use Rattle.lw_separate.specs.Separators.{IsSeparators, SplitAt}
use Rattle.lw_separate.proofs.ListLemmas.{access_are_words, ends_are_words, few_ends}
use Rattle.lw_chunks.specs.Middle.{each_with, words_of_length, words_up_to}
use Rattle.lw_chunks.specs.Size.{powers, suite_size}
use Rattle.lw_chunks.proofs.EachLemmas.{length-each}
use Rattle.lw_chunks.proofs.SizeLemmas.{length-words_of, length-words_up_to, powers_more}
use Rattle.lw_chunks.proofs.LetterLemmas.{all_each, joined_words, words_of_words, middle_words}
use Rattle.lw_wp.specs.HSuite.{IsHSuite}
use Rattle.lw_wp.specs.WpTells.{TellsWhereDifferent}
use Rattle.lw_wp.specs.Tables.{chosen, Table, row_for, words_behind, words_with, block, blocks_by, suite_by}
use Rattle.lw_wp.proofs.FlatLemmas.{all_joined, joined_within}
use Rattle.lw_wp.proofs.TellsLemmas.{all_part, all_unmapped, contains_each, contains_words, contains_up_to, split_both}
use Rattle.lw_wp.proofs.WpTableLemmas.{all_behind, row_behind}

-- what stands behind a state q from which at most d letters lead on: its own numbers, and for each other state that is reached by
-- them one of that state's numbers, of a word that separates the two
pub record Covers (a : ℕ) (h : Rows) (words own : List (List ℕ)) (q d : ℕ) (row : List ℕ) : Type 0 where
  pub few : length row ≤ length words
  pub identifies : (i : ℕ) → Contains (get_or own q []) i → Contains row i
  pub pairs : (w : List ℕ) → IsWord a w → length w ≤ d → after h q w ≢ q
      → (i : ℕ) × Contains (get_or own (after h q w) []) i × Contains row i × SplitAt h words (after h q w) q i

-- for each state its own numbers, of words that separate it from each other one, and rows for at most k letters
pub record CoversEach (a : ℕ) (h : Rows) (k : ℕ) (words own : List (List ℕ)) (table : Table) : Type 0 where
  pub apart : (q p : ℕ) → q < length h → p < length h → p ≢ q → (i : ℕ) × Contains (get_or own q []) i × SplitAt h words q p i
  pub has_row : (q : ℕ) → q < length h → length (get_or table q []) ≡ k + 1
  pub covers : (q d : ℕ) → q < length h → d < k + 1 → Covers a h words own q d (row_for table q d)

-- the word of a number stands among the words with these numbers
contains_chosen : (ends : List (List ℕ)) (numbers : List ℕ) (i : ℕ) → Contains numbers i → Contains (chosen ends numbers) (get_or ends i [])
contains_chosen ends numbers i at = (
  at.0,
  let l = length-map numbers (λ (n : ℕ). get_or ends n []) in let lt = at.1 in omega (arith, l, lt),
  get_or-map (λ (n : ℕ). get_or ends n []) numbers at.0 i (get_or ends i []) at.1 ∙ ap (λ (n : ℕ). get_or ends n []) at.2,
)

turned : (h : Rows) (w : List ℕ) (r s t : ℕ) → r ≡ t → out h s w ≡ out h r w → out h t w ≡ out h s w
turned h w r s t leads e = ap (λ (p : ℕ). out h p w) (sym leads) ∙ sym e

-- all words of a suite by a table, whatever the table
module _ (a : ℕ) (h : Rows) (k : ℕ) (access ends : List (List ℕ)) (table : Table) (least : AreLeastAccess a h access) where
  abbrev pub suite : List (List ℕ)
  suite = suite_by a h k access ends table

  abbrev pub home : ℕ → List ℕ
  home q = get_or access q []

  block_there : (q : ℕ) (mid : List ℕ) → q < length h → IsWord a mid → length mid ≤ k + 1 → Contains (blocks_by a h k access ends table) (words_with h k ends table (home q) mid)
  block_there q mid lq is le =
      let with' : List ℕ → List ℕ → List (List ℕ) = words_with h k ends table in
      let shorter : List (List (List ℕ)) = each_with with' access (words_up_to a k) in
      let longest : List (List (List ℕ)) = each_with with' access (words_of_length a (k + 1)) in
      let here : Contains access (home q) = Contains-get_or access q [] (let e = least.each in omega (arith, e, lq)) in
      ⊎_elim
      (λ (less : length mid < k + 1).
      Contains-append_left shorter longest (with' (home q) mid) (contains_each with' access (words_up_to a k) (home q) mid here (contains_up_to a k mid is (omega (arith, less)))))
      (λ (ge : k + 1 ≤ length mid).
      let len : length mid ≡ k + 1 = omega (arith, le, ge) in
      Contains-append_right shorter longest (with' (home q) mid) (contains_each with' access (words_of_length a (k + 1)) (home q) mid here (subst (λ (n : ℕ). Contains (words_of_length a n) mid) len (contains_words a mid is))))
      (cases_lt (length mid) (k + 1))

  -- an access word with a middle word, alone and with each word that stands behind it
  pub of_front : (q : ℕ) (mid : List ℕ) → q < length h → IsWord a mid → length mid ≤ k + 1
      → Contains suite (home q ++ mid) × All (λ w. Contains suite ((home q ++ mid) ++ w)) (words_behind ends table (after h 0 (home q ++ mid)) (k + 1 - length mid))
  of_front q mid lq is le =
      let P : List ℕ → Type 0 = Contains suite in
      let front : List ℕ = home q ++ mid in
      let behind : List (List ℕ) = words_behind ends table (after h 0 front) (k + 1 - length mid) in
      let at = block_there q mid lq is le in
      let here : All P (block front behind) =
      subst (All P) at.2 (all_part P (λ (ws : List (List ℕ)). ws) (blocks_by a h k access ends table) at.0 (block front behind) at.1 (All-contains_itself suite)) in
      let each : All (λ (w : List ℕ). P (front ++ w)) ([] ∷ behind) = all_unmapped P (λ (end : List ℕ). front ++ end) ([] ∷ behind) here in
      (subst P (append-nil front) (All-head (λ (w : List ℕ). P (front ++ w)) [] behind each), All-tail (λ (w : List ℕ). P (front ++ w)) [] behind each)

  -- they are words over the letters
  module _ (separating : IsSeparators a h ends) where
    end_words : All (IsWord a) ends
    end_words = ends_are_words a h ends separating

    numbered_word : (i : ℕ) → IsWord a (get_or ends i [])
    numbered_word i =
        ⊎_elim
        (λ (lt : i < length ends). All-get_or (IsWord a) ends i [] lt end_words)
        (λ (ge : length ends ≤ i). subst (IsWord a) (sym (get_or_past ends i [] ge)) (All-nil (λ (x : ℕ). x < a)))
        (cases_lt i (length ends))

    behind_words : (q left : ℕ) → All (IsWord a) (words_behind ends table q left)
    behind_words q left =
        ⊎_elim
        (λ (lt : left < length (get_or table q [])).
        subst (All (IsWord a)) (sym (row_behind ends table q left lt))
        (All-map (IsWord a) (λ (i : ℕ). get_or ends i []) (row_for table q left) (λ j d lj. numbered_word (get_or (row_for table q left) j d))))
        (λ (ge : length (get_or table q []) ≤ left). subst (All (IsWord a)) (sym (all_behind ends table q left ge)) end_words)
        (cases_lt left (length (get_or table q [])))

    block_words : (u v : List ℕ) → IsWord a u → IsWord a v → All (IsWord a) (words_with h k ends table u v)
    block_words u v us vs =
        let front : IsWord a (u ++ v) = joined_words a u v us vs in
        let behind : List (List ℕ) = [] ∷ words_behind ends table (after h 0 (u ++ v)) (k + 1 - length v) in
        All-map (IsWord a) (λ (end : List ℕ). (u ++ v) ++ end) behind
        (All-weaker (IsWord a) (λ (end : List ℕ). IsWord a ((u ++ v) ++ end)) (λ end word. joined_words a (u ++ v) end front word) behind
        (All-cons (IsWord a) [] (words_behind ends table (after h 0 (u ++ v)) (k + 1 - length v)) (All-nil (λ (x : ℕ). x < a)) (behind_words (after h 0 (u ++ v)) (k + 1 - length v))))

    pub are_letters : All (IsWord a) suite
    are_letters =
        let us = access_are_words a h access least in
        let each : (mids : List (List ℕ)) → All (IsWord a) mids → All (All (IsWord a)) (each_with (words_with h k ends table) access mids) =
        λ mids vs. all_each (IsWord a) (IsWord a) (All (IsWord a)) (words_with h k ends table) block_words access mids us vs in
        all_joined (λ (ws : List (List ℕ)). ws) (All (IsWord a)) (IsWord a) (λ ws all. all) (blocks_by a h k access ends table)
        (All-append (All (IsWord a)) (each_with (words_with h k ends table) access (words_up_to a k)) (each_with (words_with h k ends table) access (words_of_length a (k + 1)))
        (each (words_up_to a k) (middle_words a k)) (each (words_of_length a (k + 1)) (words_of_words a (k + 1))))

module _ (a : ℕ) (h : Rows) (k : ℕ) (access ends : List (List ℕ)) (table : Table) (machine : IsMachine a h) (least : AreLeastAccess a h access) (separating : IsSeparators a h ends) (own : List (List ℕ)) (is : CoversEach a h k ends own table) where
  abbrev all : List (List ℕ)
  all = suite_by a h k access ends table

  below : (q : ℕ) (mid : List ℕ) → q < length h → IsWord a mid → after h 0 (get_or access q [] ++ mid) < length h
  below q mid lq ms = after_below a h (get_or access q [] ++ mid) 0 machine machine.some_state (joined_words a (get_or access q []) mid (least.words q lq).does.0 ms)

  -- what stands behind a front is no more than all words at the end
  few_behind : (q left : ℕ) → q < length h → length (words_behind ends table q left) ≤ length ends
  few_behind q left lq =
      ⊎_elim
      (λ (lt : left < length (get_or table q [])).
      let r = is.has_row q lq in
      let e = ap (λ (ws : List (List ℕ)). length ws) (row_behind ends table q left lt) in
      let l = length-map (row_for table q left) (λ (i : ℕ). get_or ends i []) in
      let f = (is.covers q left lq (omega (arith, r, lt))).few in
      omega (arith, e, l, f))
      (λ (ge : length (get_or table q []) ≤ left).
      let e = ap (λ (ws : List (List ℕ)). length ws) (all_behind ends table q left ge) in
      omega (arith, e))
      (cases_lt left (length (get_or table q [])))

  few_with : (u v : List ℕ) → IsWord a u → IsWord a v → length (words_with h k ends table u v) ≤ length h
  few_with u v us vs =
      let front : List ℕ = u ++ v in
      let behind : List (List ℕ) = words_behind ends table (after h 0 front) (k + 1 - length v) in
      let f = few_behind (after h 0 front) (k + 1 - length v) (after_below a h front 0 machine machine.some_state (joined_words a u v us vs)) in
      let l = length-map ([] ∷ behind) (λ (end : List ℕ). front ++ end) in
      let ends_few = few_ends a h ends separating machine.some_state in
      omega (arith, f, l, ends_few)

  -- so the words are at most as many as the size says
  counted : length all ≤ suite_size (length h) a k
  counted =
      let n : ℕ = length h in
      let Few : List (List ℕ) → Type 0 = λ ws. length ws ≤ n in
      let with' : List ℕ → List ℕ → List (List ℕ) = words_with h k ends table in
      let us = access_are_words a h access least in
      let shorter : List (List (List ℕ)) = each_with with' access (words_up_to a k) in
      let longest : List (List (List ℕ)) = each_with with' access (words_of_length a (k + 1)) in
      let few_shorter : All Few shorter = all_each (IsWord a) (IsWord a) Few with' few_with access (words_up_to a k) us (middle_words a k) in
      let few_longest : All Few longest = all_each (IsWord a) (IsWord a) Few with' few_with access (words_of_length a (k + 1)) us (words_of_words a (k + 1)) in
      let within : length all ≤ length (shorter ++ longest) * n =
      joined_within (λ (ws : List (List ℕ)). ws) Few n (λ ws le. le) (shorter ++ longest) (All-append Few shorter longest few_shorter few_longest) in
      let first : length shorter ≡ n * powers a k = length-each with' access (words_up_to a k) ∙ ap₂ (λ (x y : ℕ). x * y) least.each (length-words_up_to a k) in
      let second : length longest ≡ n * a ^ (k + 1) = length-each with' access (words_of_length a (k + 1)) ∙ ap₂ (λ (x y : ℕ). x * y) least.each (length-words_of a (k + 1)) in
      let both : length (shorter ++ longest) ≡ n * powers a k + n * a ^ (k + 1) = length-append shorter longest ∙ ap₂ (λ (x y : ℕ). x + y) first second in
      let bound : length all ≤ (n * powers a k + n * a ^ (k + 1)) * n = subst (λ (l : ℕ). length all ≤ l * n) both within in
      let size : n * n * powers a (k + 1) ≡ n * n * (powers a k + a ^ (k + 1)) = ap (λ (x : ℕ). n * n * x) (powers_more a k) in
      omega (arith, bound, size)

  -- behind an access word alone stand all words at the end
  home_ends : (q : ℕ) → q < length h → All (λ w. Contains all (get_or access q [] ++ w)) ends
  home_ends q lq =
      let f = (of_front a h k access ends table least q [] lq (All-nil (λ (x : ℕ). x < a)) (omega arith)).1 in
      let none : List ℕ = get_or access q [] ++ [] in
      let e = append-nil (get_or access q []) in
      let lr : after h 0 none < length h = below q [] lq (All-nil (λ (x : ℕ). x < a)) in
      let whole : words_behind ends table (after h 0 none) (k + 1 - 0) ≡ ends = all_behind ends table (after h 0 none) (k + 1 - 0) (let l = is.has_row (after h 0 none) lr in omega (arith, l)) in
      subst (λ (u : List ℕ). All (λ (w : List ℕ). Contains all (u ++ w)) ends) e (subst (λ (ws : List (List ℕ)). All (λ (w : List ℕ). Contains all (none ++ w)) ws) whole f)

  -- behind a longer front stand the words of its row
  row_end : (q : ℕ) (mid : List ℕ) (i : ℕ) → q < length h → IsWord a mid → 0 < length mid → length mid ≤ k + 1
      → Contains (row_for table (after h 0 (get_or access q [] ++ mid)) (k + 1 - length mid)) i → Contains all ((get_or access q [] ++ mid) ++ get_or ends i [])
  row_end q mid i lq ms some le at =
      let front : List ℕ = get_or access q [] ++ mid in
      let r : ℕ = after h 0 front in
      let left : ℕ = k + 1 - length mid in
      let f = (of_front a h k access ends table least q mid lq ms le).1 in
      let are : words_behind ends table r left ≡ chosen ends (row_for table r left) = row_behind ends table r left (let l = is.has_row r (below q mid lq ms) in omega (arith, l, some)) in
      All-contains (λ (w : List ℕ). Contains all (front ++ w)) (chosen ends (row_for table r left)) (get_or ends i [])
      (subst (λ (ws : List (List ℕ)). All (λ (w : List ℕ). Contains all (front ++ w)) ws) are f)
      (contains_chosen ends (row_for table r left) i at)

  home_apart : (p q : ℕ) (w : List ℕ) → p < length h → q < length h → IsWord a w → length w ≤ k + 1 → TellsWhereDifferent h all (get_or access p []) (get_or access q [] ++ w)
  home_apart p q w lp lq ws le n =
      let u : List ℕ = get_or access p [] in
      let v : List ℕ = get_or access q [] ++ w in
      let s : ℕ = after h 0 u in
      let r : ℕ = after h 0 v in
      let ls : s < length h = after_below a h u 0 machine machine.some_state (least.words p lp).does.0 in
      let lr : r < length h = below q w lq ws in
      let first = home_ends p lp in
      ⊎_elim
      (λ (none : length w < 1).
      let f = (of_front a h k access ends table least q w lq ws le).1 in
      let whole : words_behind ends table r (k + 1 - length w) ≡ ends = all_behind ends table r (k + 1 - length w) (let l = is.has_row r lr in omega (arith, l, none)) in
      let second : All (λ (x : List ℕ). Contains all (v ++ x)) ends = subst (λ (xs : List (List ℕ)). All (λ (x : List ℕ). Contains all (v ++ x)) xs) whole f in
      let split = split_both a h ends separating s r ls lr n in
      record {
        suffix = get_or ends split.0 [];
        one = All-get_or (λ (x : List ℕ). Contains all (u ++ x)) ends split.0 [] split.1.0 first;
        other = All-get_or (λ (x : List ℕ). Contains all (v ++ x)) ends split.0 [] split.1.0 second;
        differ = split.1.1;
      })
      (λ (some : 1 ≤ length w).
      let split = is.apart r s lr ls n in
      let at = (is.covers r (k + 1 - length w) lr (omega (arith, some))).identifies split.0 split.1 in
      record {
        suffix = get_or ends split.0 [];
        one = All-get_or (λ (x : List ℕ). Contains all (u ++ x)) ends split.0 [] split.2.0 first;
        other = row_end q w split.0 lq ws (omega (arith, some)) le at;
        differ = λ e. split.2.1 (sym e);
      })
      (cases_lt (length w) 1)

  along_apart : (q : ℕ) (w : List ℕ) (i j : ℕ) → q < length h → IsWord a w → length w ≡ k + 1 → 0 < i → i < j → j ≤ k + 1
      → TellsWhereDifferent h all (get_or access q [] ++ take i w) (get_or access q [] ++ take j w)
  along_apart q w i j lq ws len some lo hi n =
      let u : List ℕ = get_or access q [] ++ take i w in
      let v : List ℕ = get_or access q [] ++ take j w in
      let x : List ℕ = drop i (take j w) in
      let s : ℕ = after h 0 u in
      let r : ℕ = after h 0 v in
      let long_i : length (take i w) ≡ i = length-take-le i w (omega (arith, len, lo, hi)) in
      let long_j : length (take j w) ≡ j = length-take-le j w (omega (arith, len, hi)) in
      let is_i : IsWord a (take i w) = All-take (λ (y : ℕ). y < a) i w ws in
      let is_j : IsWord a (take j w) = All-take (λ (y : ℕ). y < a) j w ws in
      let parts : take i w ++ x ≡ take j w = ap (λ (l : List ℕ). l ++ x) (sym (take-take i j w (omega (arith, lo)))) ∙ take-append-drop i (take j w) in
      let whole : v ≡ u ++ x = sym (append_assoc (get_or access q []) (take i w) x ∙ ap (λ (l : List ℕ). get_or access q [] ++ l) parts) in
      let leads : r ≡ after h s x = ap (after h 0) whole ∙ after-append h 0 u x in
      let ls : s < length h = below q (take i w) lq is_i in
      let lr : r < length h = below q (take j w) lq is_j in
      let long_x : length x ≡ length (take j w) - i = length-drop i (take j w) in
      let near : k + 1 - length (take i w) < k + 1 = omega (arith, long_i, some, lo, hi) in
      let far : k + 1 - length (take j w) < k + 1 = omega (arith, long_j, some, lo, hi) in
      let pair = (is.covers s (k + 1 - length (take i w)) ls near).pairs x (All-drop (λ (y : ℕ). y < a) i (take j w) is_j) (omega (arith, long_x, long_i, long_j, lo, hi)) (λ e. n (sym (leads ∙ e))) in
      let here : Contains (get_or own r []) pair.0 = subst (λ (t : ℕ). Contains (get_or own t []) pair.0) (sym leads) pair.1 in
      let second = (is.covers r (k + 1 - length (take j w)) lr far).identifies pair.0 here in
      record {
        suffix = get_or ends pair.0 [];
        one = row_end q (take i w) pair.0 lq is_i (omega (arith, long_i, some)) (omega (arith, long_i, lo, hi)) pair.2;
        other = row_end q (take j w) pair.0 lq is_j (omega (arith, long_j, some, lo)) (omega (arith, long_j, hi)) second;
        differ = λ e. pair.3.1 (turned h (get_or ends pair.0 []) r s (after h s x) leads e);
      }

  pub is_h_suite : IsHSuite a h k all
  is_h_suite = record {
    letters = are_letters a h k access ends table least separating;
    tells = record {
      access = access;
      least = least;
      has = λ q w lq ws le. (of_front a h k access ends table least q w lq ws le).0;
      apart = home_apart;
      along = along_apart;
    };
    few = counted;
  }
