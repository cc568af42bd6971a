-- What holds of all words that are to be known, and of all pairs that are to be known apart.
use Rattle.std.proofs.Common.{◌≡◌, ℕ, zero, suc, ◌+◌, ◌-◌, ◌<◌, ◌≤◌, List, [], ◌∷◌, ◌++◌, length, map, get_or, take, subst, arith}
use Rattle.std.specs.List.{All, flat_map, range_with_len}
use Rattle.std.proofs.lemmas.List.Elements.{All-nil, All-cons, All-append, All-take, All-map, All-get_or, All-from_get_or, recursion_from_All}
use Rattle.lw_words.specs.Word.{IsWord}
use Rattle.lw_chunks.specs.Middle.{words_of_length, words_up_to}
use Rattle.lw_chunks.proofs.SizeLemmas.{length-words_of}
use Rattle.lw_chunks.proofs.NumberLemmas.{number_in, number_up_to}
use Rattle.lw_apart.specs.Pairs.{WordPair, fronts, with_access, along_from, along, pairs}
use Rattle.lw_apart.proofs.Lists.{all_left, all_right, map_all, all_flat, flat_all, all_range, range_all}

-- two words over the letters
abbrev pub AreWords : ℕ → WordPair → Type 0
AreWords a pair = IsWord a pair.0 × IsWord a pair.1

module _ (a : ℕ) where
  pub all_words_of : (P : List ℕ → Type 0) (n : ℕ) → ((w : List ℕ) → IsWord a w → length w ≡ n → P w) → All P (words_of_length a n)
  all_words_of P zero each = All-cons P [] [] (each [] (All-nil (λ x. x < a)) (omega arith)) (All-nil P)
  all_words_of P (suc n) each =
      all_flat P (λ x. map (λ w. x ∷ w) (words_of_length a n)) (range_with_len 0 a)
      (all_range (λ x. All P (map (λ w. x ∷ w) (words_of_length a n))) 0 a
      (λ x ge lt. All-map P (λ w. x ∷ w) (words_of_length a n)
      (all_words_of (λ w. P (x ∷ w)) n (λ w is long. each (x ∷ w) (All-cons (λ y. y < a) x w (omega (arith, lt)) is) (omega (arith, long))))))

  pub all_words_up_to : (P : List ℕ → Type 0) (n : ℕ) → ((w : List ℕ) → IsWord a w → length w ≤ n → P w) → All P (words_up_to a n)
  all_words_up_to P zero each = all_words_of P zero (λ w is long. each w is (omega (arith, long)))
  all_words_up_to P (suc n) each =
      All-append P (words_up_to a n) (words_of_length a (suc n))
      (all_words_up_to P n (λ w is le. each w is (omega (arith, le))))
      (all_words_of P (suc n) (λ w is long. each w is (omega (arith, long))))

  pub words_of_all : (P : List ℕ → Type 0) (n : ℕ) → All P (words_of_length a n) → (w : List ℕ) → IsWord a w → length w ≡ n → P w
  words_of_all P n all w is long =
      let r = number_in a w (recursion_from_All (λ x. x < a) w is) in
      let all' : All P (words_of_length a (length w)) = rw long all in
      subst P r.2 (All-get_or P (words_of_length a (length w)) r.0 [] (let lt = r.1 in rw (length-words_of a (length w)) lt) all')

  pub words_up_to_all : (P : List ℕ → Type 0) (n : ℕ) → All P (words_up_to a n) → (w : List ℕ) → IsWord a w → length w ≤ n → P w
  words_up_to_all P n all w is le =
      let r = number_up_to a n w (recursion_from_All (λ x. x < a) w is) le in
      subst P r.2 (All-get_or P (words_up_to a n) r.0 [] r.1 all)

  module _ (access : List (List ℕ)) where
    abbrev at : ℕ → List ℕ
    at q = get_or access q []

    pub all_fronts : (P : List ℕ → Type 0) (n : ℕ) → ((q : ℕ) (w : List ℕ) → q < length access → IsWord a w → length w ≤ n → P (at q ++ w)) → All P (fronts a access n)
    all_fronts P n each =
        all_flat P (λ u. map (λ w. u ++ w) (words_up_to a n)) access
        (All-from_get_or (λ u. All P (map (λ w. u ++ w) (words_up_to a n))) access []
        (λ q lq. All-map P (λ w. at q ++ w) (words_up_to a n) (all_words_up_to (λ w. P (at q ++ w)) n (λ w is le. each q w lq is le))))

    pub fronts_all : (P : List ℕ → Type 0) (n : ℕ) → All P (fronts a access n) → (q : ℕ) (w : List ℕ) → q < length access → IsWord a w → length w ≤ n → P (at q ++ w)
    fronts_all P n all q w lq is le =
        let here : All P (map (λ v. at q ++ v) (words_up_to a n)) =
        All-get_or (λ u. All P (map (λ v. u ++ v) (words_up_to a n))) access q [] lq (flat_all P (λ u. map (λ v. u ++ v) (words_up_to a n)) access all) in
        words_up_to_all (λ v. P (at q ++ v)) n (map_all P (λ v. at q ++ v) (words_up_to a n) here) w is le

    pub fronts_words : (n : ℕ) → All (IsWord a) access → All (IsWord a) (fronts a access n)
    fronts_words n words = all_fronts (IsWord a) n (λ q w lq is le. All-append (λ x. x < a) (at q) w (All-get_or (IsWord a) access q [] lq words) is)

    module _ (P : WordPair → Type 0) (n : ℕ) where
      all_along : (u w : List ℕ) → ((i j : ℕ) → 0 < i → i < j → j ≤ n → P (u ++ take i w, u ++ take j w)) → All P (along n u w)
      all_along u w each =
          all_flat P (along_from n u w) (range_with_len 1 n)
          (all_range (λ i. All P (along_from n u w i)) 1 n
          (λ i some few. All-map P (λ j. (u ++ take i w, u ++ take j w)) (range_with_len (i + 1) (n - i))
          (all_range (λ j. P (u ++ take i w, u ++ take j w)) (i + 1) (n - i) (λ j lo hi. each i j (omega (arith, some)) (omega (arith, lo)) (omega (arith, lo, hi, few))))))

      along_all : (u w : List ℕ) → All P (along n u w) → (i j : ℕ) → 0 < i → i < j → j ≤ n → P (u ++ take i w, u ++ take j w)
      along_all u w all i j some lt le =
          let here : All P (along_from n u w i) = range_all (λ i. All P (along_from n u w i)) 1 n (flat_all P (along_from n u w) (range_with_len 1 n) all) i (omega (arith, some)) (omega (arith, lt, le)) in
          range_all (λ j. P (u ++ take i w, u ++ take j w)) (i + 1) (n - i) (map_all P (λ j. (u ++ take i w, u ++ take j w)) (range_with_len (i + 1) (n - i)) here) j (omega (arith, lt)) (omega (arith, lt, le))

      pub all_pairs : ((p q : ℕ) (w : List ℕ) → p < length access → q < length access → IsWord a w → length w ≤ n → P (at p, at q ++ w))
          → ((q : ℕ) (w : List ℕ) (i j : ℕ) → q < length access → IsWord a w → length w ≡ n → 0 < i → i < j → j ≤ n → P (at q ++ take i w, at q ++ take j w))
          → All P (pairs a access n)
      all_pairs homes ways =
          All-append P (flat_map (with_access access) (fronts a access n)) (flat_map (λ u. flat_map (along n u) (words_of_length a n)) access)
          (all_flat P (with_access access) (fronts a access n)
          (all_fronts (λ v. All P (with_access access v)) n
          (λ q w lq is le. All-map P (λ u. (u, at q ++ w)) access (All-from_get_or (λ u. P (u, at q ++ w)) access [] (λ p lp. homes p q w lp lq is le)))))
          (all_flat P (λ u. flat_map (along n u) (words_of_length a n)) access
          (All-from_get_or (λ u. All P (flat_map (along n u) (words_of_length a n))) access []
          (λ q lq. all_flat P (along n (at q)) (words_of_length a n)
          (all_words_of (λ w. All P (along n (at q) w)) n (λ w is long. all_along (at q) w (λ i j some lt le. ways q w i j lq is long some lt le))))))

      homes_part : All P (pairs a access n) → All P (flat_map (with_access access) (fronts a access n))
      homes_part all = all_left P (flat_map (with_access access) (fronts a access n)) (flat_map (λ u. flat_map (along n u) (words_of_length a n)) access) all

      ways_part : All P (pairs a access n) → All P (flat_map (λ u. flat_map (along n u) (words_of_length a n)) access)
      ways_part all = all_right P (flat_map (with_access access) (fronts a access n)) (flat_map (λ u. flat_map (along n u) (words_of_length a n)) access) all

      pub pairs_homes : All P (pairs a access n) → (p q : ℕ) (w : List ℕ) → p < length access → q < length access → IsWord a w → length w ≤ n → P (at p, at q ++ w)
      pairs_homes all p q w lp lq is le =
          let here : All P (with_access access (at q ++ w)) =
          fronts_all (λ v. All P (with_access access v)) n (flat_all P (with_access access) (fronts a access n) (homes_part all)) q w lq is le in
          All-get_or (λ u. P (u, at q ++ w)) access p [] lp (map_all P (λ u. (u, at q ++ w)) access here)

      pub pairs_ways : All P (pairs a access n) → (q : ℕ) (w : List ℕ) (i j : ℕ) → q < length access → IsWord a w → length w ≡ n → 0 < i → i < j → j ≤ n → P (at q ++ take i w, at q ++ take j w)
      pairs_ways all q w i j lq is long some lt le =
          let here : All P (flat_map (along n (at q)) (words_of_length a n)) =
          All-get_or (λ u. All P (flat_map (along n u) (words_of_length a n))) access q [] lq (flat_all P (λ u. flat_map (along n u) (words_of_length a n)) access (ways_part all)) in
          along_all (at q) w (words_of_all (λ v. All P (along n (at q) v)) n (flat_all P (along n (at q)) (words_of_length a n) here) w is long) i j some lt le

    pub pairs_words : (n : ℕ) → All (IsWord a) access → All (AreWords a) (pairs a access n)
    pairs_words n words =
        let word : (q : ℕ) (w : List ℕ) → q < length access → IsWord a w → IsWord a (at q ++ w) = λ q w lq is. All-append (λ x. x < a) (at q) w (All-get_or (IsWord a) access q [] lq words) is in
        all_pairs (AreWords a) n
        (λ p q w lp lq is le. (All-get_or (IsWord a) access p [] lp words, word q w lq is))
        (λ q w i j lq is long some lt le. (word q (take i w) lq (All-take (λ x. x < a) i w is), word q (take j w) lq (All-take (λ x. x < a) j w is)))
