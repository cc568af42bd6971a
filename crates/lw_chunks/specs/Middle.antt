-- Middle words, and words that are made of a list each for their beginning, their middle and their end.
use Rattle.std.specs.Prelude.{ℕ, zero, suc, List, [], ◌∷◌, ◌++◌, map}
use Rattle.std.specs.List.{flat_map, range_with_len}

-- each of the first list with each of the second, by the first, then by the second
abbrev pub each_with : {X Y Z : Type 0} → (X → Y → Z) → List X → List Y → List Z
each_with f xs ys = flat_map (λ x. map (λ y. f x y) ys) xs

-- the words of n letters over a letters, in shortlex order
abbrev pub words_of_length : ℕ → ℕ → List (List ℕ)
words_of_length a zero = [] ∷ []
words_of_length a (suc n) = each_with (λ x w. x ∷ w) (range_with_len 0 a) (words_of_length a n)

-- the words of at most n letters, in shortlex order
abbrev pub words_up_to : ℕ → ℕ → List (List ℕ)
words_up_to a zero = words_of_length a zero
words_up_to a (suc n) = words_up_to a n ++ words_of_length a (suc n)

-- each access word with each middle word, and each of these with nothing and then with each word at the end
abbrev pub suite_of : List (List ℕ) → List (List ℕ) → List (List ℕ) → List (List ℕ)
suite_of access middles ends = each_with (λ front end. front ++ end) (each_with (λ u v. u ++ v) access middles) ([] ∷ ends)
