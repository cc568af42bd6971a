-- A list that is made item by item: what is made so far is the front of the whole.
use Rattle.std.proofs.Common.{◌≡◌, ◌∙◌, ℕ, ◌+◌, ◌<◌, ◌≤◌, List, [], ◌∷◌, ◌++◌, length, map, take, get_or, sym}
use Rattle.std.proofs.lemmas.List.{map_push, take_all, take_more}

-- one item more, and all of them
pub taken_more : {X : Type 0} (vs ws : List X) (w : X) (xs : List X) (n : ℕ) (d : X) → ws ≡ vs ++ w ∷ [] → n < length xs → w ≡ get_or xs n d → vs ≡ take n xs → ws ≡ take (n + 1) xs
taken_more vs ws w xs n d e lt at before = rw (e, before, at) (sym (take_more xs n d lt))

pub taken_all : {X : Type 0} (vs xs : List X) (n : ℕ) → length xs ≤ n → vs ≡ take n xs → vs ≡ xs
taken_all vs xs n le before = before ∙ take_all n xs le

-- the same of items that are seen through a function
pub seen_more : {V X : Type 0} (v : V → X) (vs ws : List V) (w : V) (xs : List X) (n : ℕ) (d : X) → ws ≡ vs ++ w ∷ [] → n < length xs → v w ≡ get_or xs n d → map v vs ≡ take n xs → map v ws ≡ take (n + 1) xs
seen_more v vs ws w xs n d e lt at before = rw e (taken_more (map v vs) (map v (vs ++ w ∷ [])) (v w) xs n d (map_push v vs w) lt at before)
