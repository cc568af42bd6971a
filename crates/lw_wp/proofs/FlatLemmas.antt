-- Lists of lists, end to end.
use Rattle.std.proofs.Common.{◌≡◌, ℕ, suc, ◌+◌, ◌*◌, ◌<◌, ◌≤◌, List, [], ◌∷◌, ◌++◌, length, get_or, take, drop, map, refl, sym, ap, ◌∙◌, arith, append-nil, ◌⊎◌, ⊎_elim}
use Rattle.std.specs.List.{All, flat_map}
use Rattle.std.proofs.lemmas.List.{drop_more, drop-append-le, drop_at, take_at, take_all, drop_all, length-append}
use Rattle.std.proofs.lemmas.List.Elements.{All-nil, All-append, All-head, All-tail}

module _ {X Y : Type 0} (f : X → List Y) where
  -- the lists of each, joined
  pub joined : (xs : List X) → flat_map (λ ys. ys) (map f xs) ≡ flat_map f xs
  joined [] = refl
  joined (x ∷ xs) = ap (λ (ys : List Y). f x ++ ys) (joined xs)

  pub all_joined : (P : X → Type 0) (Q : Y → Type 0) → ((x : X) → P x → All Q (f x)) → (xs : List X) → All P xs → All Q (flat_map f xs)
  all_joined P Q each [] all = All-nil Q
  all_joined P Q each (x ∷ xs) all = All-append Q (f x) (flat_map f xs) (each x (All-head P x xs all)) (all_joined P Q each xs (All-tail P x xs all))

  pub joined_within : (P : X → Type 0) (most : ℕ) → ((x : X) → P x → length (f x) ≤ most) → (xs : List X) → All P xs → length (flat_map f xs) ≤ length xs * most
  joined_within P most each [] all = omega arith
  joined_within P most each (x ∷ xs) all =
      let l = length-append (f x) (flat_map f xs) in
      let here = each x (All-head P x xs all) in
      let rest = joined_within P most each xs (All-tail P x xs all) in
      let m : suc (length xs) * most ≡ most + length xs * most = omega arith in
      omega (arith, l, here, rest, m)

module _ {Y : Type 0} where
  abbrev pub join : List (List Y) → List Y
  join yss = flat_map (λ ys. ys) yss

  -- the element at a place of a list of lists, and what is left behind it
  pub next_of : (blocks : List (List Y)) (front place : ℕ) (d : Y) → front < length blocks → place < length (get_or blocks front [])
      → drop place (join (drop front blocks)) ≡ get_or (get_or blocks front []) place d ∷ drop (place + 1) (join (drop front blocks))
  next_of blocks front place d lf lp =
      let here : List Y = get_or blocks front [] in
      let rest : List Y = join (drop (front + 1) blocks) in
      let e : join (drop front blocks) ≡ here ++ rest = ap join (drop_more blocks front [] lf) in
      ap (λ (ys : List Y). drop place ys) e
      ∙ (drop-append-le place here rest (omega arith)
      ∙ (ap (λ (ys : List Y). ys ++ rest) (drop_more here place d lp)
      ∙ (ap (λ (ys : List Y). get_or here place d ∷ ys) (sym (drop-append-le (place + 1) here rest (omega arith)) ∙ ap (λ (ys : List Y). drop (place + 1) ys) (sym e)))))

  -- behind the last of a list stands the next list
  pub next_block : (blocks : List (List Y)) (front place : ℕ) → front < length blocks → place ≡ length (get_or blocks front [])
      → drop place (join (drop front blocks)) ≡ drop 0 (join (drop (front + 1) blocks))
  next_block blocks front place lf is =
      let e : join (drop front blocks) ≡ get_or blocks front [] ++ join (drop (front + 1) blocks) = ap join (drop_more blocks front [] lf) in
      ap (λ (ys : List Y). drop place ys) e ∙ drop_at (get_or blocks front []) (join (drop (front + 1) blocks)) place (sym is)

  -- a chunk of at most so many elements, and what is left behind it
  pub chunk_of : (chunk left all : List Y) (most : ℕ) → chunk ++ left ≡ all → length chunk ≤ most → (length chunk ≡ most) ⊎ (left ≡ []) → (chunk ≡ take most all) × (left ≡ drop most all)
  chunk_of chunk left all most is le ends =
      ⊎_elim
      (λ (full : length chunk ≡ most). (sym (take_at chunk left most full) ∙ ap (take most) is, sym (drop_at chunk left most full) ∙ ap (drop most) is))
      (λ (none : left ≡ []).
      let whole : chunk ≡ all = sym (append-nil chunk) ∙ (ap (λ (ys : List Y). chunk ++ ys) (sym none) ∙ is) in
      let few : length all ≤ most = let l : length chunk ≡ length all = ap length whole in omega (arith, l) in
      (whole ∙ sym (take_all most all few), none ∙ sym (drop_all most all few)))
      ends
