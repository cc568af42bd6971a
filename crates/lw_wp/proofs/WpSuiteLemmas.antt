-- A machine has one Wp-suite, of words over its letters, and of at most as many as the W-method's size says.
use Rattle.std.proofs.Common.{◌≡◌, ℕ, suc, ◌+◌, ◌*◌, ◌^◌, ◌<◌, ◌≤◌, List, [], ◌∷◌, ◌++◌, length, map, sym, ap, ap₂, ◌∙◌, subst, arith}
use Rattle.std.specs.List.{All, Contains}
use Rattle.std.proofs.Math.Nat.{mul-le-mul_right}
use Rattle.std.proofs.lemmas.List.{length-append, length-map}
use Rattle.std.proofs.lemmas.List.Elements.{All-nil, All-cons, All-append, All-map, All-weaker, All-contains}
use Rattle.lw_words.specs.Word.{IsWord}
use Rattle.lw_mealy.specs.Machine.{Rows, after}
use Rattle.lw_mealy.proofs.WordLemmas.{after_below}
use Rattle.lw_separate.proofs.OneLemmas.{one_least_access, one_separators}
use Rattle.lw_chunks.specs.Size.{powers}
use Rattle.lw_chunks.specs.Middle.{each_with, words_of_length, words_up_to, suite_of}
use Rattle.lw_chunks.proofs.EachLemmas.{length-each}
use Rattle.lw_chunks.proofs.LetterLemmas.{suite_of_words, all_each, joined_words, words_of_words}
use Rattle.lw_separate.proofs.ListLemmas.{access_are_words, ends_are_words, few_ends}
use Rattle.lw_chunks.proofs.SizeLemmas.{length-words_of, length-words_up_to, powers_more}
use Rattle.lw_wp.specs.Identification.{identification_of}
use Rattle.lw_wp.specs.WpSuite.{with_identification, wp_suite_of, OneWpSuite, WpSuiteIsOfWords, WpSuiteIsCounted}
use Rattle.lw_wp.proofs.FlatLemmas.{all_joined, joined_within}
use Rattle.lw_wp.proofs.IdentificationLemmas.{identification_identifies, identification_within}

pub one_wp_suite : OneWpSuite
one_wp_suite a h k s t hs ht =
    hs.words
    ∙ (ap₂ (λ (u v : List (List ℕ)). wp_suite_of a h k u v) (one_least_access a h hs.access ht.access hs.least ht.least) (one_separators a h hs.ends ht.ends hs.separating ht.separating)
    ∙ sym ht.words)

-- each access word with each of other words
pub front_words : (a : ℕ) (access middles : List (List ℕ)) → All (IsWord a) access → All (IsWord a) middles → All (IsWord a) (each_with (λ (u v : List ℕ). u ++ v) access middles)
front_words a access middles us vs = all_each (IsWord a) (IsWord a) (IsWord a) (λ (u v : List ℕ). u ++ v) (joined_words a) access middles us vs

module _ (a : ℕ) (h : Rows) (ends : List (List ℕ)) (all : All (IsWord a) ends) where
  identification_words : (q : ℕ) → All (IsWord a) (identification_of h ends q)
  identification_words q =
      All-weaker (Contains ends) (IsWord a) (λ (w : List ℕ) (in' : Contains ends w). All-contains (IsWord a) ends w all in') (identification_of h ends q) (identification_within h ends q)

  behind_words : (front : List ℕ) → IsWord a front → All (IsWord a) (map (λ end. front ++ end) ([] ∷ identification_of h ends (after h 0 front)))
  behind_words front is =
      let own : List (List ℕ) = [] ∷ identification_of h ends (after h 0 front) in
      All-map (IsWord a) (λ (end : List ℕ). front ++ end) own
      (All-weaker (IsWord a) (λ (end : List ℕ). IsWord a (front ++ end)) (λ (end : List ℕ) (word : IsWord a end). joined_words a front end is word) own
      (All-cons (IsWord a) [] (identification_of h ends (after h 0 front)) (All-nil (λ (x : ℕ). x < a)) (identification_words (after h 0 front))))

pub wp_suite_is_of_words : WpSuiteIsOfWords
wp_suite_is_of_words a h k suite is =
    let us = access_are_words a h is.access is.least in
    let vs = ends_are_words a h is.ends is.separating in
    let fronts : List (List ℕ) = each_with (λ (u v : List ℕ). u ++ v) is.access (words_of_length a (k + 1)) in
    subst (All (IsWord a)) (sym is.words)
    (All-append (IsWord a) (suite_of is.access (words_up_to a k) is.ends) (with_identification h is.ends fronts) (suite_of_words a k is.access is.ends us vs)
    (all_joined (λ (front : List ℕ). map (λ end. front ++ end) ([] ∷ identification_of h is.ends (after h 0 front))) (IsWord a) (IsWord a)
    (behind_words a h is.ends vs) fronts (front_words a is.access (words_of_length a (k + 1)) us (words_of_words a (k + 1)))))

pub wp_suite_is_counted : WpSuiteIsCounted
wp_suite_is_counted a h k suite machine is =
    let n : ℕ = length h in
    let us = access_are_words a h is.access is.least in
    let fronts : List (List ℕ) = each_with (λ (u v : List ℕ). u ++ v) is.access (words_of_length a (k + 1)) in
    let behind : List ℕ → List (List ℕ) = λ front. map (λ end. front ++ end) ([] ∷ identification_of h is.ends (after h 0 front)) in
    let first : length (suite_of is.access (words_up_to a k) is.ends) ≡ (n * powers a k) * suc (length is.ends) =
    length-each (λ (front end : List ℕ). front ++ end) (each_with (λ (u v : List ℕ). u ++ v) is.access (words_up_to a k)) ([] ∷ is.ends)
    ∙ ap (λ (x : ℕ). x * suc (length is.ends)) (length-each (λ (u v : List ℕ). u ++ v) is.access (words_up_to a k) ∙ ap₂ (λ (x y : ℕ). x * y) is.least.each (length-words_up_to a k)) in
    let few : length is.ends < n = few_ends a h is.ends is.separating machine.some_state in
    let up : suc (length is.ends) ≤ n = omega (arith, few) in
    let most : suc (length is.ends) * (n * powers a k) ≤ n * (n * powers a k) = mul-le-mul_right (n * powers a k) up in
    let each : (front : List ℕ) → IsWord a front → length (behind front) ≤ n = λ front word.
    let own = identification_identifies a h is.ends (after h 0 front) is.separating (after_below a h front 0 machine machine.some_state word) in
    let l = length-map ([] ∷ identification_of h is.ends (after h 0 front)) (λ (end : List ℕ). front ++ end) in
    let f = own.few in
    omega (arith, l, f) in
    let second : length (with_identification h is.ends fronts) ≤ length fronts * n = joined_within behind (IsWord a) n each fronts (front_words a is.access (words_of_length a (k + 1)) us (words_of_words a (k + 1))) in
    let long : length fronts ≡ n * a ^ (k + 1) = length-each (λ (u v : List ℕ). u ++ v) is.access (words_of_length a (k + 1)) ∙ ap₂ (λ (x y : ℕ). x * y) is.least.each (length-words_of a (k + 1)) in
    let rest : length (with_identification h is.ends fronts) ≤ n * a ^ (k + 1) * n = subst (λ (l : ℕ). length (with_identification h is.ends fronts) ≤ l * n) long second in
    let all : length suite ≡ length (suite_of is.access (words_up_to a k) is.ends) + length (with_identification h is.ends fronts) =
    ap length is.words ∙ length-append (suite_of is.access (words_up_to a k) is.ends) (with_identification h is.ends fronts) in
    let size : n * n * powers a (k + 1) ≡ n * n * (powers a k + a ^ (k + 1)) = ap (λ (x : ℕ). n * n * x) (powers_more a k) in
    omega (arith, all, first, most, rest, size)
