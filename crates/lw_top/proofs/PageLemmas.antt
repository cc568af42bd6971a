-- Texts that are made of lists, by what is seen of their items.
use Rattle.std.proofs.Common.{◌≡◌, ◌∙◌, ◌++◌, ℕ, List, [], ◌∷◌, append_assoc, codes, map, ap, ap₂, refl, sym}
use Rattle.std.specs.List.{flat_map, join_by}
use Rattle.std.proofs.lemmas.List.Folds.{flat_map-map}

-- names, joined
pub joined : {X : Type 0} (v : X → List ℕ) (between : List ℕ) (xs : List X) → join_by v between xs ≡ join_by (λ n. n) between (map v xs)
joined v between [] = refl
joined v between (x ∷ xs) = ap (λ (t : List ℕ). v x ++ t) (sym (flat_map-map (λ (n : List ℕ). between ++ n) v xs))

-- a text for each item
pub mapped : {X Y : Type 0} (f : Y → List ℕ) (v : X → Y) (xs : List X) → flat_map (λ x. f (v x)) xs ≡ flat_map f (map v xs)
mapped f v xs = sym (flat_map-map f v xs)

-- four texts, one behind the other
joined_four : (a b c d e : List ℕ) → (((a ++ b) ++ c) ++ d) ++ e ≡ a ++ (b ++ (c ++ (d ++ e)))
joined_four a b c d e = append_assoc ((a ++ b) ++ c) d e ∙ (append_assoc (a ++ b) c (d ++ e) ∙ append_assoc a b (c ++ (d ++ e)))

pub fourth : (a b c d e : List ℕ) {x y z now : List ℕ} → x ≡ a ++ b → y ≡ x ++ c → z ≡ y ++ d → now ≡ z ++ e → now ≡ a ++ (b ++ (c ++ (d ++ e)))
fourth a b c d e one two three last =
    let whole = three ∙ ap (λ (t : List ℕ). t ++ d) (two ∙ ap (λ (t : List ℕ). t ++ c) one) in
    last ∙ (ap (λ (t : List ℕ). t ++ e) whole ∙ joined_four a b c d e)

-- a text behind three others
pub third : (a b c d : List ℕ) {x now : List ℕ} → x ≡ a ++ (b ++ c) → now ≡ x ++ d → now ≡ a ++ (b ++ (c ++ d))
third a b c d first last = last ∙ (ap (λ (t : List ℕ). t ++ d) first ∙ (append_assoc a (b ++ c) d ∙ ap (λ (t : List ℕ). a ++ t) (append_assoc b c d)))

-- and two
pub fourth_behind : (a b c d e : List ℕ) {x y now : List ℕ} → x ≡ a ++ (b ++ c) → y ≡ x ++ d → now ≡ y ++ e → now ≡ a ++ (b ++ (c ++ (d ++ e)))
fourth_behind a b c d e one two last = third a b (c ++ d) e (third a b c d one two) last ∙ ap (λ (t : List ℕ). a ++ (b ++ t)) (append_assoc c d e)

-- a line behind a text
pub line_behind : (a r : List ℕ) {x s now : List ℕ} → x ≡ a → s ≡ r → now ≡ x ++ (s ++ codes "\n") → now ≡ a ++ (r ++ codes "\n")
line_behind a r one two last = last ∙ ap₂ (λ (t u : List ℕ). t ++ (u ++ codes "\n")) one two
