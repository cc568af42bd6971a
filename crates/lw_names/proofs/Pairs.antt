-- Lists of which each pair stands in a relation.
use Rattle.std.proofs.Common.{◌≡◌, ◌⊎◌, ⊎_elim, ℕ, zero, suc, ◌+◌, ◌<◌, ◌≤◌, List, ◌∷◌, length, get_or, All, subst, arith}
use Rattle.std.proofs.lemmas.Bool.{cases_lt}
use Rattle.std.specs.List.{AllPairs}

pub pairs_first : {X : Type 0} (R : X → X → Type 0) (x : X) (xs : List X) → AllPairs R (x ∷ xs) → All (R x) xs
pairs_first R x xs pairs k d lt = pairs 0 (suc k) d (omega arith) (omega arith)

pub pairs_rest : {X : Type 0} (R : X → X → Type 0) (x : X) (xs : List X) → AllPairs R (x ∷ xs) → AllPairs R xs
pairs_rest R x xs pairs i j d lt within = pairs (suc i) (suc j) d (omega arith) (omega arith)

-- what holds of neighbours holds of all pairs
pub pairs_of : {X : Type 0} (R : X → X → Type 0) → ((x y z : X) → R x y → R y z → R x z) → (xs : List X) → ((k : ℕ) (d : X) → k + 1 < length xs → R (get_or xs k d) (get_or xs (k + 1) d)) → AllPairs R xs
pairs_of R through xs next i zero d lt within = absurd (omega arith)
pairs_of R through xs next i (suc j) d lt within =
    let step : R (get_or xs j d) (get_or xs (suc j) d) = subst (λ (n : ℕ). R (get_or xs j d) (get_or xs n d)) (more j) (next j d (omega arith)) in
    by (λ before. pairs_of R through xs next i j d before (omega arith)) step (cases_lt i j)
  where
    more : (n : ℕ) → n + 1 ≡ suc n
    more n = omega arith

    by : (i < j → R (get_or xs i d) (get_or xs j d)) → R (get_or xs j d) (get_or xs (suc j) d) → (i < j) ⊎ (j ≤ i) → R (get_or xs i d) (get_or xs (suc j) d)
    by earlier step order =
        ⊎_elim
        (λ (before : i < j). through (get_or xs i d) (get_or xs j d) (get_or xs (suc j) d) (earlier before) step)
        (λ (from : j ≤ i). let same : j ≡ i = omega (arith, from, lt) in subst (λ (n : ℕ). R (get_or xs n d) (get_or xs (suc j) d)) same step)
        order
