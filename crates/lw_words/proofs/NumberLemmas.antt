-- Lists of names: what their numbers say, and what a look-up among the earlier ones says.
use Rattle.std.proofs.Common.{◌≡◌, ◌≢◌, ℕ, ◌+◌, ◌<◌, ◌⊎◌, inl, inr, List, [], ◌∷◌, ◌++◌, Bool, true, false, length, map, get_or, take, slice_get, Some, None, Option, IfSome, option_map, ◌&&◌, if◌then◌else◌, min, cond, ltb, refl, ap, sym, ◌∙◌, subst, arith, length-take, length-append}
use Rattle.std.specs.Str.{bytes_eq}
use Rattle.std.specs.List.{position_or_len, AllZip, list_any}
use Rattle.std.proofs.lemmas.Bool.{cases_Bool, false_from_ne_true}
use Rattle.std.proofs.lemmas.Bool.Decides.{Decides-ltb}
use Rattle.std.specs.Bool.{Decides}
use Rattle.std.proofs.lemmas.Slice.Eq.{bytes_eq-Decides, slice_eq-Decides}
use lib.Pointwise.{pointwise}
use Rattle.std.proofs.lemmas.List.{get_or_append_left, get_or-take, get_or-map, length-map, map-append}
use Rattle.std.proofs.lemmas.List.Folds.{list_any_at}
use Rattle.std.proofs.Math.Seq.{get_or-append_seam}
use Rattle.std.proofs.lemmas.List.Quantifiers.{position-Some, all_pairs_push}
use Rattle.std.proofs.lemmas.List.Sums.{position_or_len_is}
use Rattle.std.proofs.lemmas.Option.{slice_get-map, slice_get-get_or, slice_get_within, get_or_from_slice_get}
use Rattle.std.specs.Prelude.{String}
use Rattle.std.specs.HashMap.{HashMap, get_by_text}
use Rattle.std.specs.Map.{update}
use Rattle.lw_words.specs.Name.{RepeatsFirst}
use Rattle.lw_words.specs.Word.{number_of, AllDiffer}
use Rattle.lw_words.specs.bodies.Numbers.{AreNumbers}

-- the number that is found is the name's place
pub name_at_number : (name : List ℕ) (names : List (List ℕ)) (n : ℕ) → number_of name names ≡ Some n → slice_get names n ≡ Some name
name_at_number name names n is =
    let h = position-Some (bytes_eq name) names n name is in
    slice_get-get_or names n name h.0 ∙ ap (λ m. Some m) (sym ((bytes_eq-Decides name (get_or names n name)).0 h.1))

-- where a number is found
pub number_stands : (name : List ℕ) (names : List (List ℕ)) (found : Option ℕ) → found ≡ number_of name names → IfSome found (λ n. slice_get names n ≡ Some name)
number_stands name names (Some n) is = name_at_number name names n (sym is)
number_stands name names None is = tt

-- the place of a name is the number that is found
pub number_at_place : (names : List (List ℕ)) (n : ℕ) (name : List ℕ) → AllDiffer names → slice_get names n ≡ Some name → number_of name names ≡ Some n
number_at_place names n name differ at =
    let lt : n < length names = slice_get_within names n name at in
    let here : get_or names n name ≡ name = get_or_from_slice_get names n name name at in
    let first : position_or_len (bytes_eq name) names ≡ n =
    position_or_len_is (bytes_eq name) names n name (omega arith)
    (λ k below. false_from_ne_true _ (λ yes. differ k n name below lt (sym ((bytes_eq-Decides name (get_or names k name)).0 yes) ∙ sym here)))
    (λ _. (bytes_eq-Decides name (get_or names n name)).1 (sym here)) in
    ap (λ (p : ℕ). cond (ltb p (length names)) (Some p) None) first ∙ ap (λ (b : Bool). cond b (Some n) None) ((Decides-ltb n (length names)).1 lt)

-- what stands before a place stands at the same place of the whole list
pub slice_get-take : (xs : List (List ℕ)) (n i : ℕ) (x : List ℕ) → slice_get (take n xs) i ≡ Some x → (i < n) × (slice_get xs i ≡ Some x)
slice_get-take xs n i x at =
    let within : i < length (take n xs) = slice_get_within (take n xs) i x at in
    let long : length (take n xs) ≡ min n (length xs) = length-take n xs in
    let lt : i < n = omega arith in
    (lt, slice_get-get_or xs i x (omega arith) ∙ ap (λ y. Some y) (sym (get_or-take n xs i x lt) ∙ get_or_from_slice_get (take n xs) i x x at))

-- a name that stands among those before it
pub repeats : (names : List (List ℕ)) (first second : ℕ) (name : List ℕ) → second < length names → slice_get names second ≡ Some name → slice_get (take second names) first ≡ Some name
    → AllDiffer (take second names) → RepeatsFirst names first second
repeats names first second name within here there differ =
    let h = slice_get-take names second first name there in
    record { before = h.0; within = within; same = h.1 ∙ sym here; others = differ }

some_same : {A : Type 0} (a b : A) → Some a ≡ Some b → a ≡ b
some_same a b e = cc

-- a name behind others stands at their number, and those before it where they stood
pub slice_get-push : (xs : List (List ℕ)) (name : List ℕ) → slice_get (xs ++ name ∷ []) (length xs) ≡ Some name
slice_get-push xs name =
    slice_get-get_or (xs ++ name ∷ []) (length xs) name (rw length-append (omega arith)) ∙ ap (λ (n : List ℕ). Some n) (get_or-append_seam xs name [] name)

pub slice_get-push_before : (xs : List (List ℕ)) (name : List ℕ) (i : ℕ) (x : List ℕ) → slice_get xs i ≡ Some x → slice_get (xs ++ name ∷ []) i ≡ Some x
slice_get-push_before xs name i x at =
    let lt : i < length xs = slice_get_within xs i x at in
    slice_get-get_or (xs ++ name ∷ []) i x (rw length-append (omega arith)) ∙ ap (λ (n : List ℕ). Some n) (get_or_append_left xs (name ∷ []) x i lt ∙ get_or_from_slice_get xs i x x at)

-- what stands in them stood before, or is the name behind them
pub slice_get-push_cases : (xs : List (List ℕ)) (name : List ℕ) (i : ℕ) (x : List ℕ) → slice_get (xs ++ name ∷ []) i ≡ Some x → (slice_get xs i ≡ Some x) ⊎ ((i ≡ length xs) × (x ≡ name))
slice_get-push_cases xs name i x at =
    let within : i < length (xs ++ name ∷ []) = slice_get_within (xs ++ name ∷ []) i x at in
    let long : length (xs ++ name ∷ []) ≡ length xs + 1 = length-append xs (name ∷ []) in
    elim (cases_Bool (ltb i (length xs))) [
      | inl before ↦
          let lt : i < length xs = (Decides-ltb i (length xs)).0 before in
          inl (slice_get-get_or xs i x lt ∙ ap (λ (n : List ℕ). Some n) (sym (get_or_append_left xs (name ∷ []) x i lt) ∙ get_or_from_slice_get (xs ++ name ∷ []) i x x at))
      | inr other ↦
          let last : i ≡ length xs = grind (arith, Decides-ltb i (length xs)) in
          inr (last, some_same _ _ (sym at ∙ (ap (slice_get (xs ++ name ∷ [])) last ∙ slice_get-push xs name)))
    ]

module _ {X S : Type 0} (m : HashMap (String X) ℕ S) (xs : List (List ℕ)) (name : List ℕ) where
  -- the map with such a name at the next place
  pub numbers_more : (n : HashMap (String X) ℕ S) → AreNumbers m xs → get_by_text m name ≡ None → ((text : List ℕ) → get_by_text n text ≡ update bytes_eq (get_by_text m) name (Some (length xs)) text)
      → AreNumbers n (xs ++ name ∷ [])
  numbers_more n numbers none now =
      record {
        at = λ place text at. elim (slice_get-push_cases xs name place text at) [
          | inl before ↦
              let had : get_by_text m text ≡ Some place = numbers.at place text before in
              let other : bytes_eq name text ≡ false = false_from_ne_true _ (λ yes. let same : name ≡ text = (bytes_eq-Decides name text).0 yes in cc) in
              now text ∙ (ap (λ (b : Bool). cond b (Some (length xs)) (get_by_text m text)) other ∙ had)
          | inr here ↦
              let same : bytes_eq name text ≡ true = (bytes_eq-Decides name text).1 (sym here.1) in
              now text ∙ (ap (λ (b : Bool). cond b (Some (length xs)) (get_by_text m text)) same ∙ ap (λ (i : ℕ). Some i) (sym here.0))
        ];
        is = λ text place found. elim (cases_Bool (bytes_eq name text)) [
          | inl here ↦
              let last : length xs ≡ place = some_same _ _ (ap (λ (b : Bool). cond b (Some (length xs)) (get_by_text m text)) (sym here) ∙ (sym (now text) ∙ found)) in
              subst (λ (i : ℕ). slice_get (xs ++ name ∷ []) i ≡ Some text) last (slice_get-push xs name ∙ ap (λ (t : List ℕ). Some t) ((bytes_eq-Decides name text).0 here))
          | inr other ↦ slice_get-push_before xs name place text (numbers.is text place (ap (λ (b : Bool). cond b (Some (length xs)) (get_by_text m text)) (sym other) ∙ (sym (now text) ∙ found)))
        ];
      }

  -- a name behind others that it differs from is none of the map's
  pub none_before : (place : ℕ) → AreNumbers m (take place xs) → AllDiffer xs → slice_get xs place ≡ Some name → get_by_text m name ≡ None
  none_before place numbers differ here =
      elim (get_by_text m name) as (λ r. get_by_text m name ≡ r → r ≡ None) [
        | Some first ↦ λ is.
            let before = slice_get-take xs place first name (numbers.is name first is) in
            let within : place < length xs = slice_get_within xs place name here in
            absurd (differ first place name before.0 within
            (get_or_from_slice_get xs first name name before.1 ∙ sym (get_or_from_slice_get xs place name name here)))
        | None ↦ λ is. refl
      ] refl

  not_found : AreNumbers m xs → AllDiffer xs → number_of name xs ≡ None → get_by_text m name ≡ None
  not_found numbers differ none =
      elim (get_by_text m name) as (λ r. get_by_text m name ≡ r → r ≡ None) [
        | Some place ↦ λ is. let found : number_of name xs ≡ Some place = number_at_place xs place name differ (numbers.is name place is) in cc
        | None ↦ λ is. refl
      ] refl

  -- what the map finds is the number of the name
  pub number_found : AreNumbers m xs → AllDiffer xs → get_by_text m name ≡ number_of name xs
  number_found numbers differ =
      elim (number_of name xs) as (λ r. number_of name xs ≡ r → get_by_text m name ≡ r) [
        | Some place ↦ λ is. numbers.at place name (name_at_number name xs place is)
        | None ↦ λ is. not_found numbers differ is
      ] refl

module _ {X : Type 0} (f : X → List ℕ) where
  -- a name that a search among the earlier ones misses
  pub differ_more : (xs : List X) (x : X) → list_any (λ y. bytes_eq (f x) (f y)) xs ≡ false → AllDiffer (map f xs) → AllDiffer (map f xs ++ f x ∷ [])
  differ_more xs x none differ = all_pairs_push (λ a b. a ≢ b) (map f xs) (f x) differ (λ k d lt same.
      let lt' : k < length xs = rw length-map at lt in
      let found : list_any (λ y. bytes_eq (f x) (f y)) xs ≡ true =
      list_any_at (λ y. bytes_eq (f x) (f y)) xs k x lt' ((bytes_eq-Decides (f x) (f (get_or xs k x))).1 (sym (sym (get_or-map f xs k x d lt') ∙ same))) in
      cc)

  -- the names after one that is new, and what was found where it is not
  pub added : (xs ys : List X) (x : X) → ys ≡ (if list_any (λ y. bytes_eq (f x) (f y)) xs then xs else xs ++ x ∷ []) → list_any (λ y. bytes_eq (f x) (f y)) xs ≡ false → map f ys ≡ map f xs ++ f x ∷ []
  added xs ys x is none = ap (map f) (is ∙ ap (λ (b : Bool). if b then xs else xs ++ x ∷ []) none) ∙ map-append f xs (x ∷ [])

  pub stays : (xs ys : List X) (x : X) → ys ≡ (if list_any (λ y. bytes_eq (f x) (f y)) xs then xs else xs ++ x ∷ []) → list_any (λ y. bytes_eq (f x) (f y)) xs ≡ true → ys ≡ xs
  stays xs ys x is any = is ∙ ap (λ (b : Bool). if b then xs else xs ++ x ∷ []) any

  -- an element that is equal to x stands for its name
  pub stored_at : (ys : List X) (x y : X) (i : ℕ) → slice_get ys i ≡ Some y → bytes_eq (f x) (f y) ≡ true → slice_get (map f ys) i ≡ Some (f x)
  stored_at ys x y i at same = slice_get-map f ys i ∙ (ap (option_map f) at ∙ ap (λ n. Some n) (sym ((bytes_eq-Decides (f x) (f y)).0 same)))

  -- copies have the same names
  pub map-AllZip_same : (xs ys : List X) → AllZip (λ x y. f y ≡ f x) xs ys → map f ys ≡ map f xs
  map-AllZip_same [] [] h = refl
  map-AllZip_same [] (y ∷ ys) h = elim h [ ]
  map-AllZip_same (x ∷ xs) [] h = elim h [ ]
  map-AllZip_same (x ∷ xs) (y ∷ ys) h = rw (h.0, map-AllZip_same xs ys h.1) refl

  pointwise-map : (xs ys : List X) → pointwise (λ x y. bytes_eq (f x) (f y)) xs ys ≡ pointwise bytes_eq (map f xs) (map f ys)
  pointwise-map [] [] = refl
  pointwise-map [] (y ∷ ys) = refl
  pointwise-map (x ∷ xs) [] = refl
  pointwise-map (x ∷ xs) (y ∷ ys) = ap (λ b. bytes_eq (f x) (f y) && b) (pointwise-map xs ys)

  -- the test of two lists, name by name
  pub same_names : (xs ys : List X) (r : Bool) → r ≡ pointwise (λ x y. bytes_eq (f x) (f y)) xs ys → Decides r (map f xs ≡ map f ys)
  same_names xs ys r is = slice_eq-Decides bytes_eq-Decides (map f xs) (map f ys) r (is ∙ pointwise-map xs ys)
