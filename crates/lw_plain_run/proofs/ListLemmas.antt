-- Lists that are made item by item.
use Rattle.std.proofs.Common.{◌≡◌, ℕ, ◌+◌, ◌<◌, ◌≤◌, Bool, true, false, List, [], ◌∷◌, ◌++◌, map, length, get_or, take, drop, drop-cons, add-one, refl, ap, sym, ◌∙◌, arith, append_assoc, append-nil, length-drop, ◌↔◌, ◌≢◌}
use Rattle.std.specs.List.{flat_map, position_or_len, range_with_len}
use Rattle.std.proofs.lemmas.List.{drop_all, get_or_default, take_all, take_more}
use Rattle.std.proofs.lemmas.List.Sums.{position_or_len_is}
use Rattle.std.proofs.lemmas.List.FromFn.{map-range_with_len_more}

drop_step : {X : Type 0} (xs : List X) (i : ℕ) (d : X) → i < length xs → drop i xs ≡ get_or xs i d ∷ drop (i + 1) xs
drop_step xs i d lt = rw (add-one, drop-cons xs i d) refl

-- one item more of a list of values, and the end
pub map_more : {X Y : Type 0} (f : X → Y) (xs : List X) (i : ℕ) (d : X) (done all : List Y) → i < length xs → done ++ map f (drop i xs) ≡ all → (done ++ f (get_or xs i d) ∷ []) ++ map f (drop (i + 1) xs) ≡ all
map_more {X} {Y} f xs i d done all lt is = rw append_assoc (ap (λ (rest : List X). done ++ map f rest) (sym (drop_step xs i d lt)) ∙ is)

pub map_end : {X Y : Type 0} (f : X → Y) (xs : List X) (done all : List Y) → done ++ map f (drop (length xs) xs) ≡ all → done ≡ all
map_end f xs done all is = rw (drop_all (length xs) xs (omega arith), append-nil) at is

-- the same where each item gives several
pub flat_more : {X Y : Type 0} (f : X → List Y) (xs : List X) (i : ℕ) (d : X) (done all : List Y) → i < length xs → done ++ flat_map f (drop i xs) ≡ all → (done ++ f (get_or xs i d)) ++ flat_map f (drop (i + 1) xs) ≡ all
flat_more {X} {Y} f xs i d done all lt is = rw append_assoc (ap (λ (rest : List X). done ++ flat_map f rest) (sym (drop_step xs i d lt)) ∙ is)

pub flat_end : {X Y : Type 0} (f : X → List Y) (xs : List X) (done all : List Y) → done ++ flat_map f (drop (length xs) xs) ≡ all → done ≡ all
flat_end f xs done all is = rw (drop_all (length xs) xs (omega arith), append-nil) at is

pub map_ended : {X Y : Type 0} (f : X → Y) (xs : List X) (i : ℕ) (done all : List Y) → length xs ≤ i → done ++ map f (drop i xs) ≡ all → done ≡ all
map_ended f xs i done all end is = rw (drop_all i xs end, append-nil) at is

-- the first place at which a test passes
pub first_place : {X : Type 0} (p : X → Bool) (xs : List X) (i : ℕ) (x d : X) → i < length xs → x ≡ get_or xs i x → ((k : ℕ) → k < i → p (get_or xs k d) ≡ false) → p x ≡ true → i ≡ position_or_len p xs
first_place p xs i x d lt is before here =
    let same : get_or xs i d ≡ x = get_or_default xs i d x lt ∙ sym is in
    sym (position_or_len_is p xs i d (omega arith) before (λ _. ap p same ∙ here))

pub no_place : {X : Type 0} (p : X → Bool) (xs : List X) (i : ℕ) (d : X) → length xs ≤ i → ((k : ℕ) → k < i → p (get_or xs k d) ≡ false) → length xs ≡ position_or_len p xs
no_place p xs i d end before = sym (position_or_len_is p xs (length xs) d (omega arith) (λ k lt. before k (omega arith)) (λ lt. absurd (omega arith)))

-- one number more
pub range_more : {Y : Type 0} (f : ℕ → Y) (k : ℕ) (start : List Y) → (start ++ map f (range_with_len 0 k)) ++ f k ∷ [] ≡ start ++ map f (range_with_len 0 (k + 1))
range_more {Y} f k start = append_assoc start (map f (range_with_len 0 k)) (f k ∷ []) ∙ ap (λ (more : List Y). start ++ more) (sym (map-range_with_len_more f 0 k k (omega arith)))

pub ruleset list_steps = (map_more, map_end, flat_more, flat_end)

-- one item more from the front of a list, and the end
pub take_one_more : {X : Type 0} (xs : List X) (i : ℕ) (x : X) → i < length xs → x ≡ get_or xs i x → take i xs ++ x ∷ [] ≡ take (i + 1) xs
take_one_more {X} xs i x lt is = ap (λ (y : X). take i xs ++ y ∷ []) is ∙ sym (take_more xs i x lt)

pub take_ended : {X : Type 0} (xs : List X) (i : ℕ) → length xs ≤ i → take i xs ≡ xs
take_ended xs i le = take_all i xs le

-- what is left of a list once some items were taken
some_length : {X : Type 0} (xs : List X) → (xs ≡ [] → ⊥) → 0 < length xs
some_length [] some = absurd (some refl)
some_length (x ∷ xs) some = omega arith

pub fewer : {X : Type 0} (n : ℕ) (left next : List X) → 0 < n → (left ≡ [] → ⊥) → next ≡ drop n left → length next < length left
fewer {X} n left next lt some is =
    let size : length next ≡ length (drop n left) = ap (λ (l : List X). length l) is in
    let some_left = some_length left some in
    let less = length-drop n left in
    omega (arith, size, some_left, less)

pub none_left : {X : Type 0} (more : Bool) (xs : List X) → (more ≡ true) ↔ (xs ≢ []) → more ≡ false → xs ≡ []
none_left more [] tells is = refl
none_left more (x ∷ xs) tells is = let yes : more ≡ true = tells.1 (λ e. (cc)) in absurd (let e : true ≡ false = sym yes ∙ is in cc)
