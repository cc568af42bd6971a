-- What holds at each place of a list of vectors, after a push.
use Rattle.std.proofs.Common.{◌≡◌, ℕ, ◌<◌, List, [], ◌∷◌, ◌++◌, length, get_or, map, sym, ◌∙◌, subst}
use Rattle.std.proofs.lemmas.List.{length-map, map-append}
use Rattle.lw_separate.proofs.AccessLemmas.{pushed}

module _ {X : Type 0} (f : X → List ℕ) (P : ℕ → List ℕ → Type 0) where
  abbrev pub EachOf : List X → Type 0
  EachOf xs = (k : ℕ) → k < length (map f xs) → P k (get_or (map f xs) k [])

  pub each_push : (xs : List X) (n : ℕ) (v : X) → length xs ≡ n → EachOf xs → P n (f v) → EachOf (xs ++ v ∷ [])
  each_push xs n v long all here =
      let end : P (length (map f xs)) (f v) = subst (λ (k : ℕ). P k (f v)) (sym (length-map xs f ∙ long)) here in
      subst (λ (l : List (List ℕ)). (k : ℕ) → k < length l → P k (get_or l k [])) (sym (map-append f xs (v ∷ []))) (pushed P (map f xs) (f v) [] all end)
