-- A list whose elements are read one by one, by a function that may fail.
use Rattle.std.proofs.Common.{◌≡◌, ℕ, ◌+◌, ◌<◌, ◌≤◌, List, [], ◌∷◌, ◌++◌, false, length, map, get_or, take, drop, drop-cons, add-one, suc, append_assoc, subst, refl, ap, sym, ◌∙◌, arith, Option, Some, None, option_map, option_and_then}
use Rattle.std.proofs.lemmas.List.{take_all, map_more, map-append, length-map, get_or_default}
use Rattle.std.specs.List.{AllWithin}
use Rattle.lw_words.specs.First.{FailsFirst}
use Rattle.lw_words.proofs.Lists.{read-map}
use Rattle.serde_json.specs.Data.{Data}
use Rattle.serde_json.specs.View.{items_of}
use Rattle.lw_json.specs.Formats.{each_of, cell_of_two, values, array_of}
use Rattle.serde_json.specs.Find.{as_array}
use Rattle.serde_json.specs.Written.{has_float, items_have_float}

pub values-items_of : (ds : List Data) → values (items_of ds) ≡ ds
values-items_of [] = refl
values-items_of (d ∷ ds) = ap (λ (l : List Data). d ∷ l) (values-items_of ds)

-- a list that is read through as_array
pub listed : {L : Type 0} (f : L → List Data) (r : Option L) (d : Data) → option_map (λ v. items_of (f v)) r ≡ as_array d → option_map f r ≡ array_of d
listed f None d e = ap (option_map values) e
listed f (Some v) d e = ap (λ (l : List Data). Some l) (sym (values-items_of (f v))) ∙ ap (option_map values) e

-- a list that has fewer or more than two values is no cell
pub short_no_pair : (ds : List Data) → length ds < 2 → cell_of_two ds ≡ None
short_no_pair [] lt = refl
short_no_pair (d ∷ []) lt = refl
short_no_pair (d ∷ e ∷ ds) lt = absurd (omega arith)

pub long_no_pair : (ds : List Data) → 3 ≤ length ds → cell_of_two ds ≡ None
long_no_pair [] le = refl
long_no_pair (d ∷ []) le = refl
long_no_pair (d ∷ e ∷ []) le = absurd (omega arith)
long_no_pair (d ∷ e ∷ f ∷ ds) le = refl

module _ {V X Y : Type 0} (v : V → X) (f : X → Option Y) where
  -- what was read, before what the rest gives, is what the whole gives
  abbrev pub Going : List Y → List V → List V → Type 0
  Going done rest whole = option_map (λ ys. done ++ ys) (each_of f (map v rest)) ≡ each_of f (map v whole)

  put_after : (done : List Y) (y : Y) (r : Option (List Y)) → option_map (λ ys. done ++ ys) (option_map (λ ys. y ∷ ys) r) ≡ option_map (λ ys. (done ++ y ∷ []) ++ ys) r
  put_after done y None = refl
  put_after done y (Some ys) = ap (λ (l : List Y). Some l) (sym (append_assoc done (y ∷ []) ys))

  -- one element more
  pub going_more : (done more : List Y) (whole : List V) (i : ℕ) (x : V) (y : Y) → i < length whole → x ≡ get_or whole i x → f (v x) ≡ Some y → more ≡ done ++ y ∷ [] → Going done (drop i whole) whole → Going more (drop (i + 1) whole) whole
  going_more done more whole i x y lt at here gains so_far =
      let rest : Option (List Y) = each_of f (map v (drop (suc i) whole)) in
      let front : each_of f (map v (drop i whole)) ≡ option_map (λ ys. y ∷ ys) rest =
      ap (λ (l : List V). each_of f (map v l)) (drop-cons whole i x lt ∙ ap (λ (z : V). z ∷ drop (suc i) whole) (sym at))
      ∙ ap (option_and_then (λ (z : Y). option_map (λ (ys : List Y). z ∷ ys) rest)) here in
      rw (add-one, gains) (sym (put_after done y rest) ∙ (ap (option_map (λ (ys : List Y). done ++ ys)) (sym front) ∙ so_far))

  -- nothing at an element is nothing at all
  pub going_none : (done : List Y) (whole : List V) (i : ℕ) (x : V) → i < length whole → x ≡ get_or whole i x → f (v x) ≡ None → Going done (drop i whole) whole → None ≡ each_of f (map v whole)
  going_none done whole i x lt at none so_far =
      let rest : Option (List Y) = each_of f (map v (drop (suc i) whole)) in
      let front : each_of f (map v (drop i whole)) ≡ None =
      ap (λ (l : List V). each_of f (map v l)) (drop-cons whole i x lt ∙ ap (λ (z : V). z ∷ drop (suc i) whole) (sym at))
      ∙ ap (option_and_then (λ (z : Y). option_map (λ (ys : List Y). z ∷ ys) rest)) none in
      ap (option_map (λ (ys : List Y). done ++ ys)) (sym front) ∙ so_far

-- the first place where something fails, in a list that is read through a function
module _ {V X : Type 0} (v : V → X) (P : X → Type 0) where
  pub fails_here : (xs : List V) (i : ℕ) (x : V) → i < length xs → x ≡ get_or xs i x → ¬ P (v x) → AllWithin P (map v xs) 0 i → FailsFirst P (map v xs) i
  fails_here xs i x lt at bad before = record {
    within = rw length-map lt;
    fails = λ d good. bad (subst P (read-map v xs i x d lt at) good);
    before = before;
  }

module _ {X : Type 0} where
  -- an element by any default, within the list
  pub element : (xs : List X) (i : ℕ) (d : X) → i < length xs → get_or xs i d ≡ get_or xs i (get_or xs i d)
  element xs i d lt = get_or_default xs i d (get_or xs i d) lt

-- a list that is written element by element
pub written_more : {V X D : Type 0} (v : V → D) (f : X → D) (vs ws : List V) (w : V) (xs : List X) (n : ℕ) (x d : X) → ws ≡ vs ++ w ∷ [] → v w ≡ f x → n < length xs → get_or xs n d ≡ x → map v vs ≡ map f (take n xs)
    → map v ws ≡ map f (take (n + 1) xs)
written_more v f vs ws w xs n x d gains same lt is so_far =
    ap (map v) gains
    ∙ (map-append v vs (w ∷ [])
    ∙ (ap (λ l. l ++ v w ∷ []) so_far
    ∙ (ap (λ y. map f (take n xs) ++ y ∷ []) (same ∙ ap f (sym is))
    ∙ sym (map_more f xs n d lt))))

pub written_all : {V X D : Type 0} (v : V → D) (f : X → D) (vs : List V) (xs : List X) (n : ℕ) → length xs ≤ n → map v vs ≡ map f (take n xs) → map v vs ≡ map f xs
written_all v f vs xs n le h = h ∙ ap (map f) (take_all n xs le)

-- a list of values without floats has none
pub no_float_items : {X : Type 0} (f : X → Data) → ((x : X) → has_float (f x) ≡ false) → (xs : List X) → items_have_float (items_of (map f xs)) ≡ false
no_float_items f each [] = refl
no_float_items f each (x ∷ xs) = rw (each x, no_float_items f each xs) refl
