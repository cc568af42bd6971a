-- What holds at each place of a list that is read off another one, after a push.
use Rattle.std.proofs.Common.{◌≡◌, ℕ, ◌<◌, List, [], ◌∷◌, ◌++◌, length, get_or, map, sym, ◌∙◌, subst}
use Rattle.std.proofs.lemmas.List.{length-map, map-append}
use Rattle.lw_separate.proofs.AccessLemmas.{pushed}

module _ {X Y : Type 0} (f : X → Y) (P : ℕ → Y → Type 0) (d : Y) where
  abbrev pub EachOf : List X → Type 0
  EachOf xs = (k : ℕ) → k < length (map f xs) → P k (get_or (map f xs) k d)

  pub each_push : (xs : List X) (n : ℕ) (v : X) → length xs ≡ n → EachOf xs → P n (f v) → EachOf (xs ++ v ∷ [])
  each_push xs n v long all here =
      let end : P (length (map f xs)) (f v) = subst (λ (k : ℕ). P k (f v)) (sym (length-map xs f ∙ long)) here in
      subst (λ (l : List Y). (k : ℕ) → k < length l → P k (get_or l k d)) (sym (map-append f xs (v ∷ []))) (pushed P (map f xs) (f v) d all end)
