-- The columns of a machine, as lists and as the vectors that hold them.
use Rattle.std.proofs.Common.{◌≡◌, ℕ, ◌<◌, List, [], ◌∷◌, ◌++◌, length, get_or, map, ap, sym, ◌∙◌, arith, subst}
use Rattle.std.proofs.lemmas.List.{get_or-map, length-map, map-append}
use Rattle.lw_mealy.specs.Machine.{Rows}
use Rattle.lw_separate.specs.bodies.Columns.{IsColumn, AreColumns}
use Rattle.lw_separate.proofs.AccessLemmas.{pushed}

module _ {X : Type 0} (f : X → List (ℕ × ℕ)) (a : ℕ) (m : Rows) (xs : List X) where
  abbrev Columns : List X → Type 0
  Columns ys = (k : ℕ) → k < length (map f ys) → IsColumn m k (get_or (map f ys) k [])

  pub columns_push : (x : ℕ) (v : X) → length xs ≡ x → Columns xs → IsColumn m x (f v) → Columns (xs ++ v ∷ [])
  columns_push x v long all here =
      let end : IsColumn m (length (map f xs)) (f v) = subst (λ (k : ℕ). IsColumn m k (f v)) (sym (length-map xs f ∙ long)) here in
      subst (λ (l : List (List (ℕ × ℕ))). (k : ℕ) → k < length l → IsColumn m k (get_or l k [])) (sym (map-append f xs (v ∷ []))) (pushed (λ k c. IsColumn m k c) (map f xs) (f v) [] all end)

  pub column_read : (x : ℕ) (o : X) (column : List (ℕ × ℕ)) → AreColumns a m (map f xs) → x < a → o ≡ get_or xs x o → column ≡ f o → IsColumn m x column
  column_read x o column s xa is read =
      let lx : x < length xs = omega (arith, s.long, length-map xs f) in
      let value : get_or (map f xs) x [] ≡ column = get_or-map f xs x o [] lx ∙ (ap f (sym is) ∙ sym read) in
      subst (λ (c : List (ℕ × ℕ)). IsColumn m x c) value (s.each x (omega (arith, s.long)))
