-- Middle words are over the letters.
use Rattle.std.proofs.Common.{◌≡◌, ℕ, zero, suc, ◌+◌, ◌<◌, List, [], ◌∷◌, ◌++◌, length, map, arith}
use Rattle.std.specs.List.{All, range_with_len}
use Rattle.std.proofs.lemmas.List.Elements.{All-nil, All-cons, All-head, All-tail, All-append, All-map, All-weaker, All-from_get_or}
use Rattle.std.proofs.lemmas.List.FromFn.{length-range_with_len, get_or-range_with_len}
use Rattle.lw_words.specs.Word.{IsWord}
use Rattle.lw_chunks.specs.Middle.{each_with, words_of_length, words_up_to, suite_of}

-- what holds of each with each
pub all_each : {X Y Z : Type 0} (P : X → Type 0) (Q : Y → Type 0) (R : Z → Type 0) (f : X → Y → Z) → ((x : X) (y : Y) → P x → Q y → R (f x y))
    → (xs : List X) (ys : List Y) → All P xs → All Q ys → All R (each_with f xs ys)
all_each P Q R f joined [] ys ps qs = All-nil R
all_each P Q R f joined (x ∷ xs) ys ps qs =
    All-append R (map (λ y. f x y) ys) (each_with f xs ys)
    (All-map R (λ y. f x y) ys (All-weaker Q (λ y. R (f x y)) (λ y q. joined x y (All-head P x xs ps) q) ys qs))
    (all_each P Q R f joined xs ys (All-tail P x xs ps) qs)

pub joined_words : (a : ℕ) (u v : List ℕ) → IsWord a u → IsWord a v → IsWord a (u ++ v)
joined_words a u v us vs = All-append (λ x. x < a) u v us vs

letters : (a : ℕ) → All (λ x. x < a) (range_with_len 0 a)
letters a = All-from_get_or (λ x. x < a) (range_with_len 0 a) 0 (λ i lt.
    let size : length (range_with_len 0 a) ≡ a = length-range_with_len 0 a in
    let below : i < a = omega arith in
    omega (arith, below, get_or-range_with_len 0 a i 0 below))

pub words_of_words : (a n : ℕ) → All (IsWord a) (words_of_length a n)
words_of_words a zero = All-cons (IsWord a) [] [] (All-nil (λ x. x < a)) (All-nil (IsWord a))
words_of_words a (suc n) =
    all_each (λ x. x < a) (IsWord a) (IsWord a) (λ x w. x ∷ w) (λ x w lt is. All-cons (λ y. y < a) x w lt is) (range_with_len 0 a) (words_of_length a n) (letters a) (words_of_words a n)

pub middle_words : (a n : ℕ) → All (IsWord a) (words_up_to a n)
middle_words a zero = words_of_words a zero
middle_words a (suc n) = All-append (IsWord a) (words_up_to a n) (words_of_length a (suc n)) (middle_words a n) (words_of_words a (suc n))

pub suite_of_words : (a n : ℕ) (access ends : List (List ℕ)) → All (IsWord a) access → All (IsWord a) ends → All (IsWord a) (suite_of access (words_up_to a n) ends)
suite_of_words a n access ends us vs =
    all_each (IsWord a) (IsWord a) (IsWord a) (λ front end. front ++ end) (joined_words a) (each_with (λ u v. u ++ v) access (words_up_to a n)) ([] ∷ ends)
    (all_each (IsWord a) (IsWord a) (IsWord a) (λ u v. u ++ v) (joined_words a) access (words_up_to a n) us (middle_words a n))
    (All-cons (IsWord a) [] ends (All-nil (λ x. x < a)) vs)
