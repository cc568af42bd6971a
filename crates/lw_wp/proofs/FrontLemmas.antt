-- Each of one list with each of another: by a number, and where what is made of two is one thing by two ways.
use Rattle.std.proofs.Common.{◌≡◌, ℕ, zero, suc, ◌+◌, ◌*◌, ◌/◌, ◌%◌, ◌<◌, ◌≤◌, List, [], ◌∷◌, ◌++◌, length, get_or, map, All, refl, sym, ap, ap₂, ◌∙◌, arith}
use Rattle.std.specs.List.{range_with_len}
use Rattle.std.proofs.Math.Nat.{mod-lt, div-lt_iff_lt-mul}
use Rattle.std.proofs.lemmas.List.{map-append}
use Rattle.std.proofs.lemmas.List.Elements.{All-nil, All-cons, All-append, All-head, All-tail, All-weaker}
use Rattle.std.proofs.lemmas.Nat.{div-add-mod'}
use Rattle.lw_words.specs.Word.{IsWord}
use Rattle.lw_chunks.specs.Middle.{each_with, words_of_length, words_up_to}
use Rattle.lw_chunks.proofs.EachLemmas.{each_at}
use Rattle.lw_chunks.proofs.FrontLemmas.{some_middle}
use Rattle.lw_chunks.proofs.LetterLemmas.{all_each, words_of_words, middle_words}

-- each of one list with each of another, by a number
pub each_number : {Z : Type 0} (f : List ℕ → List ℕ → Z) (xs ys : List (List ℕ)) (m at : ℕ) (e : Z) → length ys ≡ m → at < length xs * m
    → (0 < m) × (at / m < length xs) × (at % m < m) × (get_or (each_with f xs ys) at e ≡ f (get_or xs (at / m) []) (get_or ys (at % m) []))
each_number {Z} f xs ys m at e long lt =
    let some : 0 < m = some_middle (length xs) m at lt in
    let first : at / m < length xs = (div-lt_iff_lt-mul some).1 lt in
    let second : at % m < m = mod-lt at some in
    let is : get_or (each_with f xs ys) (at / m * m + at % m) e ≡ f (get_or xs (at / m) []) (get_or ys (at % m) []) =
    ap (λ (l : ℕ). get_or (each_with f xs ys) (at / m * l + at % m) e) (sym long) ∙ each_at f xs ys (at / m) (at % m) [] [] e first (rw long second) in
    (some, first, second, ap (λ (k : ℕ). get_or (each_with f xs ys) k e) (sym (div-add-mod' at m)) ∙ is)

module _ {Y Z : Type 0} where
  same_map : (P : Y → Type 0) (f g : Y → Z) → ((y : Y) → P y → f y ≡ g y) → (ys : List Y) → All P ys → map f ys ≡ map g ys
  same_map P f g same [] all = refl
  same_map P f g same (y ∷ ys) all = ap₂ (λ (u : Z) (us : List Z). u ∷ us) (same y (All-head P y ys all)) (same_map P f g same ys (All-tail P y ys all))

module _ {X Y Z : Type 0} where
  -- two functions that agree on what the lists have
  pub same_each : (P : X → Type 0) (Q : Y → Type 0) (f g : X → Y → Z) → ((x : X) (y : Y) → P x → Q y → f x y ≡ g x y)
      → (xs : List X) (ys : List Y) → All P xs → All Q ys → each_with f xs ys ≡ each_with g xs ys
  same_each P Q f g same [] ys ps qs = refl
  same_each P Q f g same (x ∷ xs) ys ps qs =
      ap₂ (λ (us vs : List Z). us ++ vs) (same_map Q (f x) (g x) (λ y q. same x y (All-head P x xs ps) q) ys qs) (same_each P Q f g same xs ys (All-tail P x xs ps) qs)

module _ {X Y Z V : Type 0} (f : X → Y → Z) (g : Z → V) where
  map_twice : (x : X) (ys : List Y) → map (λ y. g (f x y)) ys ≡ map g (map (f x) ys)
  map_twice x [] = refl
  map_twice x (y ∷ ys) = ap (λ (us : List V). g (f x y) ∷ us) (map_twice x ys)

  -- something made of each with each
  pub each_mapped : (xs : List X) (ys : List Y) → each_with (λ x y. g (f x y)) xs ys ≡ map g (each_with f xs ys)
  each_mapped [] ys = refl
  each_mapped (x ∷ xs) ys = ap₂ (λ (us vs : List V). us ++ vs) (map_twice x ys) (each_mapped xs ys) ∙ sym (map-append g (map (f x) ys) (each_with f xs ys))

-- so many letters have the words of a length, and at most so many those up to one
words_long : (a n : ℕ) → All (λ w. length w ≡ n) (words_of_length a n)
words_long a zero = All-cons (λ (w : List ℕ). length w ≡ 0) [] [] refl (All-nil (λ (w : List ℕ). length w ≡ 0))
words_long a (suc n) =
    all_each (λ (x : ℕ). Unit {0}) (λ (w : List ℕ). length w ≡ n) (λ (w : List ℕ). length w ≡ suc n) (λ (x : ℕ) (w : List ℕ). x ∷ w) (λ x w u l. ap suc l) (range_with_len 0 a) (words_of_length a n) (λ i d li. tt) (words_long a n)

pub words_longest : (a n : ℕ) → All (λ w. IsWord a w × (length w ≡ n)) (words_of_length a n)
words_longest a n i d lt = (words_of_words a n i d lt, words_long a n i d lt)

words_short : (a n : ℕ) → All (λ w. length w ≤ n) (words_up_to a n)
words_short a zero = All-weaker (λ (w : List ℕ). length w ≡ 0) (λ (w : List ℕ). length w ≤ 0) (λ w l. omega (arith, l)) (words_of_length a 0) (words_long a 0)
words_short a (suc n) =
    All-append (λ (w : List ℕ). length w ≤ suc n) (words_up_to a n) (words_of_length a (suc n))
    (All-weaker (λ (w : List ℕ). length w ≤ n) (λ (w : List ℕ). length w ≤ suc n) (λ w l. omega (arith, l)) (words_up_to a n) (words_short a n))
    (All-weaker (λ (w : List ℕ). length w ≡ suc n) (λ (w : List ℕ). length w ≤ suc n) (λ w l. omega (arith, l)) (words_of_length a (suc n)) (words_long a (suc n)))

pub words_shorter : (a n : ℕ) → All (λ w. IsWord a w × (length w ≤ n)) (words_up_to a n)
words_shorter a n i d lt = (middle_words a n i d lt, words_short a n i d lt)
