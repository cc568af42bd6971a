-- Renamed machines: their identification sets and their Wp-suites are the same.
use Rattle.std.proofs.Common.{◌≡◌, ℕ, zero, suc, ◌+◌, ◌<◌, ◌≤◌, Bool, true, false, not, cond, ◌||◌, List, [], ◌∷◌, ◌++◌, length, take, map, refl, sym, ap, ap₂, ◌∙◌, arith}
use Rattle.std.specs.Str.{bytes_eq}
use Rattle.std.specs.List.{All, filter, list_any, flat_map}
use Rattle.std.proofs.lemmas.Bool.Decides.{Decides-like, same_from_decides}
use Rattle.std.proofs.lemmas.List.Elements.{All-nil, All-head, All-tail, All-append, All-take, All-filter, All-weaker}
use Rattle.std.proofs.lemmas.Slice.Eq.{bytes_eq-Decides}
use Rattle.lw_words.specs.Word.{IsWord}
use Rattle.lw_mealy.specs.Machine.{Rows, IsMachine, after, out}
use Rattle.lw_mealy.proofs.WordLemmas.{after_below}
use Rattle.lw_separate.proofs.ListLemmas.{access_are_words, ends_are_words}
use Rattle.lw_chunks.specs.Middle.{each_with, words_of_length, words_up_to, suite_of}
use Rattle.lw_chunks.proofs.LetterLemmas.{all_each, joined_words, words_of_words}
use Rattle.lw_wp.specs.Identification.{separates, with_state, identification_below, identification_of}
use Rattle.lw_wp.specs.WpSuite.{with_identification, IsWpSuite}
use Rattle.lw_renumber.specs.Renaming.{Renames, renamed_rows}
use Rattle.lw_renumber.proofs.MachineLemmas.{after_is, out_is, states_same, told_apart}
use Rattle.lw_renumber.proofs.SuiteLemmas.{access_too, separators_too}

-- lists of outputs are equal exactly where they are so renamed
same_renamed : (f g : ℕ → ℕ) → Renames f g → (o p : List ℕ) → bytes_eq (map f o) (map f p) ≡ bytes_eq o p
same_renamed f g r o p =
    same_from_decides (bytes_eq (map f o) (map f p)) (bytes_eq o p)
    (Decides-like (bytes_eq (map f o) (map f p)) (told_apart f g r o p) (λ (e : o ≡ p). ap (map f) e) (bytes_eq-Decides (map f o) (map f p)))
    (bytes_eq-Decides o p)

-- two tests that agree on each of a list
module _ {X : Type 0} (p q : X → Bool) where
  filter_same : (xs : List X) → All (λ x. p x ≡ q x) xs → filter p xs ≡ filter q xs
  filter_same [] all = refl
  filter_same (x ∷ xs) all =
      ap₂ (λ (b : Bool) (l : List X). cond b (x ∷ l) l) (All-head (λ y. p y ≡ q y) x xs all) (filter_same xs (All-tail (λ y. p y ≡ q y) x xs all))

  any_same : (xs : List X) → All (λ x. p x ≡ q x) xs → list_any p xs ≡ list_any q xs
  any_same [] all = refl
  any_same (x ∷ xs) all =
      ap₂ (λ (b c : Bool). b || c) (All-head (λ y. p y ≡ q y) x xs all) (any_same xs (All-tail (λ y. p y ≡ q y) x xs all))

-- two functions that agree on each of a list
flat_map_same : {X Y : Type 0} (f g : X → List Y) (xs : List X) → All (λ x. f x ≡ g x) xs → flat_map f xs ≡ flat_map g xs
flat_map_same f g [] all = refl
flat_map_same {X} {Y} f g (x ∷ xs) all =
    ap₂ (λ (u v : List Y). u ++ v) (All-head (λ y. f y ≡ g y) x xs all) (flat_map_same f g xs (All-tail (λ y. f y ≡ g y) x xs all))

module _ (f g : ℕ → ℕ) (r : Renames f g) (a : ℕ) (m : Rows) (machine : IsMachine a m) where
  separates_same : (q p : ℕ) (w : List ℕ) → q < length m → p < length m → IsWord a w → separates (renamed_rows f m) q p w ≡ separates m q p w
  separates_same q p w lq lp word =
      ap (λ (b : Bool). not b)
      (ap₂ (λ (o u : List ℕ). bytes_eq o u) (out_is f a m q w machine lq word) (out_is f a m p w machine lp word) ∙ same_renamed f g r (out m q w) (out m p w))

  module _ (words : List (List ℕ)) (are : All (IsWord a) words) (q : ℕ) (lq : q < length m) where
    all_same : (p : ℕ) → p < length m → (list : List (List ℕ)) → All (IsWord a) list → All (λ w. separates (renamed_rows f m) q p w ≡ separates m q p w) list
    all_same p lp list = All-weaker (IsWord a) (λ w. separates (renamed_rows f m) q p w ≡ separates m q p w) (λ w word. separates_same q p w lq lp word) list

    below_words : (n : ℕ) → All (IsWord a) (identification_below m words q n)
    below_words zero = All-nil (IsWord a)
    below_words (suc n) =
        let list : List (List ℕ) = identification_below m words q n in
        let more : List (List ℕ) = take 1 (filter (separates m q n) words) in
        elim (list_any (separates m q n) list) as (λ b. All (IsWord a) (cond b list (list ++ more))) [
          | true ↦ below_words n
          | false ↦ All-append (IsWord a) list more (below_words n) (All-take (IsWord a) 1 (filter (separates m q n) words) (All-filter (separates m q n) (IsWord a) words are))
        ]

    with_same : (p : ℕ) → p < length m → (list : List (List ℕ)) → All (IsWord a) list → with_state (renamed_rows f m) words q p list ≡ with_state m words q p list
    with_same p lp list ws =
        ap₂ (λ (b : Bool) (more : List (List ℕ)). cond b list (list ++ take 1 more))
        (any_same (separates (renamed_rows f m) q p) (separates m q p) list (all_same p lp list ws))
        (filter_same (separates (renamed_rows f m) q p) (separates m q p) words (all_same p lp words are))

    below_same : (n : ℕ) → n ≤ length m → identification_below (renamed_rows f m) words q n ≡ identification_below m words q n
    below_same zero le = refl
    below_same (suc n) le =
        ap (λ (list : List (List ℕ)). with_state (renamed_rows f m) words q n list) (below_same n (omega (arith, le)))
        ∙ with_same n (omega (arith, le)) (identification_below m words q n) (below_words n)

    identification_same : identification_of (renamed_rows f m) words q ≡ identification_of m words q
    identification_same =
        ap (λ (n : ℕ). identification_below (renamed_rows f m) words q n) (states_same f m) ∙ below_same (length m) (omega arith)

  module _ (k : ℕ) (access ends : List (List ℕ)) (us : All (IsWord a) access) (vs : All (IsWord a) ends) where
    abbrev fronts : List (List ℕ)
    fronts = each_with (λ (u v : List ℕ). u ++ v) access (words_of_length a (k + 1))

    fronts_are_words : All (IsWord a) fronts
    fronts_are_words = all_each (IsWord a) (IsWord a) (IsWord a) (λ (u v : List ℕ). u ++ v) (joined_words a) access (words_of_length a (k + 1)) us (words_of_words a (k + 1))

    abbrev behind : Rows → List ℕ → List (List ℕ)
    behind h front = map (λ end. front ++ end) ([] ∷ identification_of h ends (after h 0 front))

    behind_same : (front : List ℕ) → IsWord a front → behind (renamed_rows f m) front ≡ behind m front
    behind_same front word =
        ap (λ (list : List (List ℕ)). map (λ end. front ++ end) ([] ∷ list))
        (ap (λ (q : ℕ). identification_of (renamed_rows f m) ends q) (after_is f m 0 front)
        ∙ identification_same ends vs (after m 0 front) (after_below a m front 0 machine machine.some_state word))

    longest_same : with_identification (renamed_rows f m) ends fronts ≡ with_identification m ends fronts
    longest_same = flat_map_same (behind (renamed_rows f m)) (behind m) fronts (All-weaker (IsWord a) (λ front. behind (renamed_rows f m) front ≡ behind m front) behind_same fronts fronts_are_words)

  pub wp_suite_too : (k : ℕ) (suite : List (List ℕ)) → IsWpSuite a m k suite → IsWpSuite a (renamed_rows f m) k suite
  wp_suite_too k suite is =
      let same = longest_same k is.access is.ends (access_are_words a m is.access is.least) (ends_are_words a m is.ends is.separating) in
      record {
        access = is.access;
        ends = is.ends;
        least = access_too f a m is.access is.least;
        separating = separators_too f g r a m machine is.ends is.separating;
        words = is.words ∙ ap (λ (longest : List (List ℕ)). suite_of is.access (words_up_to a k) is.ends ++ longest) (sym same);
      }
