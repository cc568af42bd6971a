-- Each of one list with each of another, read by place.
use Rattle.std.proofs.Common.{◌≡◌, ℕ, zero, suc, ◌+◌, ◌*◌, ◌<◌, List, [], ◌∷◌, ◌++◌, length, map, get_or, sym, ap, ap₂, ◌∙◌, arith}
use Rattle.std.proofs.lemmas.List.{length-append, length-map, get_or_append_left, get_or-append-add, get_or-map}
use Rattle.lw_chunks.specs.Middle.{each_with}

module _ {X Y Z : Type 0} (f : X → Y → Z) where
  pub length-each : (xs : List X) (ys : List Y) → length (each_with f xs ys) ≡ length xs * length ys
  length-each [] ys = omega arith
  length-each (x ∷ xs) ys =
      let e = length-append (map (λ y. f x y) ys) (each_with f xs ys) in
      let l = length-map ys (λ y. f x y) in
      let h = length-each xs ys in
      let m : suc (length xs) * length ys ≡ length ys + length xs * length ys = omega arith in
      e ∙ (ap₂ (λ (a b : ℕ). a + b) l h ∙ sym m)

  -- the element at i times the length of the second list, and j more
  pub each_at : (xs : List X) (ys : List Y) (i j : ℕ) (c : X) (d : Y) (e : Z) → i < length xs → j < length ys
      → get_or (each_with f xs ys) (i * length ys + j) e ≡ f (get_or xs i c) (get_or ys j d)
  each_at [] ys i j c d e li lj = absurd (omega arith)
  each_at (x ∷ xs) ys zero j c d e li lj =
      let here = map (λ y. f x y) ys in
      let lt : j < length here = rw (length-map ys (λ y. f x y)) lj in
      let at : 0 * length ys + j ≡ j = omega arith in
      ap (λ (n : ℕ). get_or (here ++ each_with f xs ys) n e) at
      ∙ (get_or_append_left here (each_with f xs ys) e j lt ∙ get_or-map (λ y. f x y) ys j d e lj)
  each_at (x ∷ xs) ys (suc i) j c d e li lj =
      let here = map (λ y. f x y) ys in
      let l : length here ≡ length ys = length-map ys (λ y. f x y) in
      let at : suc i * length ys + j ≡ length here + (i * length ys + j) = omega arith in
      ap (λ (n : ℕ). get_or (here ++ each_with f xs ys) n e) at
      ∙ (get_or-append-add here (each_with f xs ys) (i * length ys + j) e ∙ each_at xs ys i j c d e (omega arith) lj)
