-- Lists that are read element by element, through a function.
use Rattle.std.proofs.Common.{◌≡◌, ℕ, ◌+◌, ◌<◌, List, [], ◌∷◌, ◌++◌, Bool, not, cond, length, map, position, get_or, take, refl, ap, sym, ◌∙◌, arith, slice_get, Some}
use Rattle.std.specs.List.{prefix_len, AllWithin}
use Rattle.std.proofs.lemmas.List.{length-map, get_or-map, map_more, take-map}
use Rattle.std.proofs.lemmas.Option.{slice_get-get_or}
use borrow.Author.Count.{below_more}

module _ {X Y : Type 0} (f : X → Y) where
  -- an element of the mapped list
  pub read-map : (xs : List X) (i : ℕ) (x : X) (d : Y) → i < length xs → x ≡ get_or xs i x → get_or (map f xs) i d ≡ f x
  read-map xs i x d lt is = get_or-map f xs i x d lt ∙ ap f (sym is)

  pub slice_get-map_at : (xs : List X) (i : ℕ) (x : X) → i < length xs → x ≡ get_or xs i x → slice_get (map f xs) i ≡ Some (f x)
  slice_get-map_at xs i x lt is =
      let lt' : i < length (map f xs) = rw length-map lt in
      slice_get-get_or (map f xs) i (f x) lt' ∙ ap (λ y. Some y) (read-map xs i x (f x) lt is)

  -- what holds of the elements before one, and of it, holds of those up to it
  pub within-map_more : (P : Y → Type 0) (xs : List X) (i : ℕ) (x : X) → i < length xs → x ≡ get_or xs i x → P (f x) → AllWithin P (map f xs) 0 i → AllWithin P (map f xs) 0 (i + 1)
  within-map_more P xs i x lt is here before k d ge below =
      let there : P (get_or (map f xs) i d) = rw (read-map xs i x d lt is) here in
      below_more (λ k. P (get_or (map f xs) k d)) i (λ k lt. before k d (omega arith) lt) there k below

  -- one element more of the mapped list
  pub take-map_more : (xs : List X) (i : ℕ) (x : X) → i < length xs → x ≡ get_or xs i x → take i (map f xs) ++ f x ∷ [] ≡ take (i + 1) (map f xs)
  take-map_more xs i x lt is =
      rw (take-map f i xs, take-map f (i + 1) xs, map_more f xs i x lt) (ap (λ (y : X). map f (take i xs) ++ f y ∷ []) is)

  prefix_len-map : (t : Y → Bool) (xs : List X) → prefix_len t (map f xs) ≡ prefix_len (λ x. t (f x)) xs
  prefix_len-map t [] = refl
  prefix_len-map t (x ∷ xs) = ap (λ (n : ℕ). cond (t (f x)) (1 + n) 0) (prefix_len-map t xs)

  pub position-map : (p : Y → Bool) (xs : List X) → position p (map f xs) ≡ position (λ x. p (f x)) xs
  position-map p xs = rw (prefix_len-map (λ y. not (p y)) xs, length-map xs f) refl
