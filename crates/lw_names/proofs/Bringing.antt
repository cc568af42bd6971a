-- Names that an instance brings, and outputs by their shared numbers.
use Rattle.std.proofs.Common.{◌≡◌, ◌≢◌, ℕ, ◌+◌, ◌*◌, ◌<◌, ◌≤◌, List, [], ◌∷◌, ◌++◌, length, map, get_or, set, Bool, true, false, Option, Some, None, unwrap_or, is_some, refl, ap, sym, ◌∙◌, subst, arith, append-nil, append_assoc, ⊎_elim}
use Rattle.std.specs.List.{All}
use Rattle.std.specs.Str.{bytes_eq}
use Rattle.std.proofs.lemmas.List.{get_or_append_left, length_push, length-map, length-set, map-set, map_push, set-get_or, get_or-map, set-set, get_or-set_same, map-id, set_past}
use Rattle.std.proofs.lemmas.Bool.{cases_lt}
use Rattle.std.proofs.lemmas.List.Elements.{All-head, All-tail, All-push, All-set, All-weaker, All-get_or}
use Rattle.std.proofs.lemmas.List.Quantifiers.{position-Some, all_pairs_push}
use Rattle.std.proofs.lemmas.List.Sums.{sum_by-set, sum_by-le}
use Rattle.std.proofs.lemmas.Option.{slice_get-get_or}
use Rattle.std.proofs.lemmas.Slice.Eq.{bytes_eq-Decides}
use Rattle.lw_words.specs.Word.{IsName, AllDiffer, number_of, name_at, named, number_in}
use Rattle.lw_words.proofs.NumberLemmas.{number_at_place}
use Rattle.lw_names.specs.Names.{added_name, with_name, with_names}
use Rattle.lw_names.specs.Naming.{Naming, own_names, own_by, bring, brought_more, shared, HasLists}
use Rattle.lw_names.specs.bodies.OutNames.{brought_of, HasTables, IsOutNames}

-- a number that is found names the name
pub found_name : (names : List (List ℕ)) (name : List ℕ) (n : ℕ) → number_of name names ≡ Some n → name_at names n ≡ name
found_name names name n is =
    let h = position-Some (bytes_eq name) names n [] is in
    sym ((bytes_eq-Decides name (get_or names n [])).0 h.1)

-- where all names differ, the number of a name is its place
pub number_in_place : (names : List (List ℕ)) (n : ℕ) → AllDiffer names → n < length names → number_in names (name_at names n) ≡ n
number_in_place names n differ lt =
    ap (λ (o : Option ℕ). unwrap_or o 0) (number_at_place names n (name_at names n) differ (slice_get-get_or names n [] lt))

-- the list with one name more
module _ (names : List (List ℕ)) (name : List ℕ) where
  found_cases : (P : List (List ℕ) → Type 0) → ((n : ℕ) → number_of name names ≡ Some n → P names) → (number_of name names ≡ None → P (names ++ name ∷ [])) → P (with_name names name)
  found_cases P some none = by (number_of name names) some none
    where
      by : (o : Option ℕ) → ((n : ℕ) → o ≡ Some n → P names) → (o ≡ None → P (names ++ name ∷ [])) → P (added_name names name o)
      by None some none = none refl
      by (Some n) some none = some n refl

  pub with_name_at : (y : ℕ) → y < length names → name_at (with_name names name) y ≡ name_at names y
  with_name_at y lt = found_cases (λ l. name_at l y ≡ name_at names y) (λ n e. refl) (λ e. get_or_append_left names (name ∷ []) [] y lt)

  pub with_name_long : length names ≤ length (with_name names name)
  with_name_long = found_cases (λ l. length names ≤ length l) (λ n e. omega arith) (λ e. omega (arith, length_push names name))

  pub with_name_short : length (with_name names name) ≤ length names + 1
  with_name_short = found_cases (λ l. length l ≤ length names + 1) (λ n e. omega arith) (λ e. omega (arith, length_push names name))

  pub with_name_each : All IsName names → IsName name → All IsName (with_name names name)
  with_name_each each is = found_cases (All IsName) (λ n e. each) (λ e. All-push IsName names name each is)

  pub with_name_differ : AllDiffer names → AllDiffer (with_name names name)
  with_name_differ differ = found_cases AllDiffer (λ n e. differ) (λ e. all_pairs_push (λ a b. a ≢ b) names name differ (λ k d lt same.
      let there : number_of name names ≡ Some k = number_at_place names k name differ (slice_get-get_or names k d lt ∙ ap (λ n. Some n) same) in
      let other : None ≡ Some k = sym e ∙ there in
      cc))

-- names that are brought in turn
pub with_names-append : (names xs ys : List (List ℕ)) → with_names names (xs ++ ys) ≡ with_names (with_names names xs) ys
with_names-append names [] ys = refl
with_names-append names (x ∷ xs) ys = with_names-append (with_name names x) xs ys

pub bring_none : (n : Naming) (a : ℕ) → bring n a [] ≡ n
bring_none n a = ap (λ (o : Option (List (List (List ℕ)))). let m : Naming = record { names = n.names; brought = o } in m) (by n.brought)
  where
    by : (o : Option (List (List (List ℕ)))) → brought_more o a [] ≡ o
    by None = refl
    by (Some b) = ap (λ (l : List (List (List ℕ))). Some l) (ap (λ (g : List (List ℕ)). set b a g) (append-nil (get_or b a [])) ∙ set-get_or b a [])

brought_twice : (o : Option (List (List (List ℕ)))) (a : ℕ) (xs ys : List (List ℕ)) → brought_more (brought_more o a xs) a ys ≡ brought_more o a (xs ++ ys)
brought_twice None a xs ys = refl
brought_twice (Some b) a xs ys =
    let g : List (List ℕ) = get_or b a [] in
    ap (λ (l : List (List (List ℕ))). Some l)
    (⊎_elim
    (λ (lt : a < length b).
    set-set b a (g ++ xs) (get_or (set b a (g ++ xs)) a [] ++ ys)
    ∙ ap (λ (l : List (List ℕ)). set b a l) (ap (λ (l : List (List ℕ)). l ++ ys) (get_or-set_same b a (g ++ xs) [] lt) ∙ append_assoc g xs ys))
    (λ (ge : length b ≤ a).
    set_past (set b a (g ++ xs)) a (get_or (set b a (g ++ xs)) a [] ++ ys) (omega (arith, ge, length-set b a (g ++ xs)))
    ∙ (set_past b a (g ++ xs) ge ∙ sym (set_past b a (g ++ (xs ++ ys)) ge)))
    (cases_lt a (length b)))

pub bring_more : (n : Naming) (a : ℕ) (xs ys : List (List ℕ)) → bring (bring n a xs) a ys ≡ bring n a (xs ++ ys)
bring_more n a xs ys =
    let make : List (List ℕ) → Option (List (List (List ℕ))) → Naming = λ l o. record { names = l; brought = o } in
    ap (λ (l : List (List ℕ)). make l (brought_more (brought_more n.brought a xs) a ys)) (sym (with_names-append n.names xs ys))
    ∙ ap (make (with_names n.names (xs ++ ys))) (brought_twice n.brought a xs ys)

pub bring_free : (n : Naming) (a : ℕ) (xs : List (List ℕ)) → is_some (bring n a xs).brought ≡ is_some n.brought
bring_free n a xs = by n.brought
  where
    by : (o : Option (List (List (List ℕ)))) → is_some (brought_more o a xs) ≡ is_some o
    by None = refl
    by (Some b) = refl

-- lists that a function changes alike
pub map_agree : {X Y : Type 0} (P : X → Type 0) (f g : X → Y) → ((x : X) → P x → f x ≡ g x) → (xs : List X) → All P xs → map f xs ≡ map g xs
map_agree P f g same [] all = refl
map_agree P f g same (x ∷ xs) all = rw (same x (All-head P x xs all), map_agree P f g same xs (All-tail P x xs all)) refl

-- tables keep what they name where the list of names grows
module _ (names more : List (List ℕ)) (same : (y : ℕ) → y < length names → name_at more y ≡ name_at names y) where
  same_table : (t : List ℕ) → All (λ y. y < length names) t → named more t ≡ named names t
  same_table t all = map_agree (λ y. y < length names) (name_at more) (name_at names) same t all

  same_tables : (ts : List (List ℕ)) → All (All (λ y. y < length names)) ts → map (named more) ts ≡ map (named names) ts
  same_tables ts all = map_agree (All (λ y. y < length names)) (named more) (named names) same_table ts all

free_of : (free : Bool) (names tables : List (List ℕ)) → is_some (brought_of free names tables) ≡ true → free ≡ true
free_of true names tables e = refl
free_of false names tables e = e

-- an instance brings one name
module _ (names tables : List (List ℕ)) (spare : ℕ) (spares : List ℕ) (is : IsOutNames true names tables spare spares) (a : ℕ) (lt : a < 16) (few : length (own_by names (brought_of true names tables) a) < 256) where
  pub has : HasTables names tables spare spares
  has = is.free_names refl

  pub table_within : a < length tables
  table_within = omega (arith, lt, has.count)

  pub table_named : own_by names (brought_of true names tables) a ≡ named names (get_or tables a [])
  table_named = get_or-map (named names) tables a [] [] table_within

  pub table_short : length (get_or tables a []) < 256
  table_short = omega (arith, few, ap (λ (l : List (List ℕ)). length l) table_named, length-map (get_or tables a []) (name_at names))

  pub names_few : length names < 4096
  names_few =
      let t : List ℕ = get_or tables a [] ++ 0 ∷ [] in
      let s = sum_by-set (λ (l : List ℕ). length l) tables a t [] table_within in
      let small : All (λ (l : List ℕ). length l ≤ 256) (set tables a t) = All-set (λ (l : List ℕ). length l ≤ 256) tables a t (omega (arith, table_short, length_push (get_or tables a []) 0)) is.short in
      let le = sum_by-le (λ (l : List ℕ). length l) 256 (set tables a t) small in
      let long : length (set tables a t) * 256 ≡ 4096 = ap (λ (n : ℕ). n * 256) (length-set tables a t ∙ has.count) in
      omega (arith, s, le, long, has.named, length_push (get_or tables a []) 0)

  module _ (name : List ℕ) (is_name : IsName name) (n : ℕ) (number : name_at (with_name names name) n ≡ name) (inside : n < length (with_name names name)) where
    tables_named : map (named (with_name names name)) (set tables a (get_or tables a [] ++ n ∷ [])) ≡ set (map (named names) tables) a (own_by names (brought_of true names tables) a ++ name ∷ [])
    tables_named =
        let t : List ℕ = get_or tables a [] in
        let own : named (with_name names name) (t ++ n ∷ []) ≡ named names t ++ name ∷ [] =
        map_push (name_at (with_name names name)) t n
        ∙ (ap (λ (l : List (List ℕ)). l ++ name_at (with_name names name) n ∷ []) (same_table names (with_name names name) (with_name_at names name) t (All-get_or (All (λ y. y < length names)) tables a [] table_within is.within))
        ∙ ap (λ (x : List ℕ). named names t ++ x ∷ []) number) in
        map-set (named (with_name names name)) tables a (t ++ n ∷ [])
        ∙ (ap (λ (l : List (List (List ℕ))). set l a (named (with_name names name) (t ++ n ∷ []))) (same_tables names (with_name names name) (with_name_at names name) tables is.within)
        ∙ ap (λ (l : List (List ℕ)). set (map (named names) tables) a l) (own ∙ ap (λ (l : List (List ℕ)). l ++ name ∷ []) (sym table_named)))

    pub one_brought : (let m : Naming = record { names = with_name names name; brought = brought_of true (with_name names name) (set tables a (get_or tables a [] ++ n ∷ [])) } in m)
        ≡ bring (record { names = names; brought = brought_of true names tables }) a (name ∷ [])
    one_brought = ap (λ (l : List (List (List ℕ))). let m : Naming = record { names = with_name names name; brought = Some l } in m) tables_named

    pub one_own : own_by (with_name names name) (brought_of true (with_name names name) (set tables a (get_or tables a [] ++ n ∷ []))) a ≡ own_by names (brought_of true names tables) a ++ name ∷ []
    one_own =
        ap (λ (l : List (List (List ℕ))). get_or l a []) tables_named
        ∙ get_or-set_same (map (named names) tables) a (own_by names (brought_of true names tables) a ++ name ∷ []) [] (omega (arith, table_within, length-map tables (named names)))

    pub one_kept : (capacities : List ℕ) → All (λ m. 256 ≤ m) capacities → IsOutNames true (with_name names name) (set tables a (get_or tables a [] ++ n ∷ [])) spare capacities
    one_kept capacities rooms =
        let t : List ℕ = get_or tables a [] ++ n ∷ [] in
        let grown : (y : ℕ) → y < length names → y < length (with_name names name) = λ y below. omega (arith, below, with_name_long names name) in
        let each_grown : (l : List ℕ) → All (λ y. y < length names) l → All (λ y. y < length (with_name names name)) l = All-weaker (λ y. y < length names) (λ y. y < length (with_name names name)) grown in
        record {
          each = with_name_each names name is.each is_name;
          differ = with_name_differ names name is.differ;
          few = omega (arith, names_few, with_name_short names name);
          within = All-set (All (λ y. y < length (with_name names name))) tables a t
              (All-push (λ y. y < length (with_name names name)) (get_or tables a []) n (each_grown (get_or tables a []) (All-get_or (All (λ y. y < length names)) tables a [] table_within is.within)) inside)
              (All-weaker (All (λ y. y < length names)) (All (λ y. y < length (with_name names name))) each_grown tables is.within);
          short = All-set (λ (l : List ℕ). length l ≤ 256) tables a t (omega (arith, table_short, length_push (get_or tables a []) n)) is.short;
          free_names = λ e. record {
            count = length-set tables a t ∙ has.count;
            named = let s = sum_by-set (λ (l : List ℕ). length l) tables a t [] table_within in omega (arith, s, has.named, with_name_short names name, length_push (get_or tables a []) n);
            room = has.room;
            rooms = rooms;
          };
        }

-- outputs by the shared numbers
module _ (names : List (List ℕ)) (differ : AllDiffer names) where
  pub shared_declared : (a : ℕ) (outs : List ℕ) → All (λ y. y < length names) outs → outs ≡ shared (record { names = names; brought = None }) a outs
  shared_declared a outs below =
      sym (map_agree (λ y. y < length names) (λ y. number_in names (name_at names y)) (λ y. y) (λ y lt. number_in_place names y differ lt) outs below ∙ map-id outs)

  pub shared_free : (tables : List (List ℕ)) (a : ℕ) (outs : List ℕ) → a < length tables → All (All (λ y. y < length names)) tables → All (λ y. y < length (get_or (map (named names) tables) a [])) outs
      → map (λ y. get_or (get_or tables a []) y 0) outs ≡ shared (record { names = names; brought = Some (map (named names) tables) }) a outs
  shared_free tables a outs lt within below =
      let t : List ℕ = get_or tables a [] in
      let own : get_or (map (named names) tables) a [] ≡ named names t = get_or-map (named names) tables a [] [] lt in
      let inside : All (λ y. y < length names) t = All-get_or (All (λ y. y < length names)) tables a [] lt within in
      sym
      (ap (λ (l : List (List ℕ)). map (λ y. number_in names (name_at l y)) outs) own
      ∙ map_agree (λ y. y < length t) (λ y. number_in names (name_at (named names t) y)) (λ y. get_or t y 0)
      (λ y small.
      ap (number_in names) (get_or-map (name_at names) t y 0 [] small)
      ∙ number_in_place names (get_or t y 0) differ (All-get_or (λ x. x < length names) t y 0 small inside))
      outs
      (subst (λ (k : ℕ). All (λ y. y < k) outs) (ap (λ (l : List (List ℕ)). length l) own ∙ length-map t (name_at names)) below))

-- a naming as its fields
abbrev pub naming_of : Bool → List (List ℕ) → List (List ℕ) → Naming
naming_of free names tables = record { names = names; brought = brought_of free names tables }

-- an instance brings one name, as a call sees it
module _ (free : Bool) (names tables : List (List ℕ)) (spare : ℕ) (spares : List ℕ) (w : Naming) (view : naming_of free names tables ≡ w) (is : IsOutNames free names tables spare spares) (freed : is_some w.brought ≡ true) (a : ℕ) (lt : a < 16) (few : length (own_names w a) < 256) where
  seen_free : free ≡ true
  seen_free = free_of free names tables (subst (λ (v : Naming). is_some v.brought ≡ true) (sym view) freed)

  seen : IsOutNames true names tables spare spares
  seen = subst (λ (f : Bool). IsOutNames f names tables spare spares) seen_free is

  seen_view : naming_of true names tables ≡ w
  seen_view = subst (λ (f : Bool). naming_of f names tables ≡ w) seen_free view

  seen_few : length (own_by names (brought_of true names tables) a) < 256
  seen_few = subst (λ (v : Naming). length (own_names v a) < 256) (sym seen_view) few

  pub few_names : length names < 4096
  few_names = names_few names tables spare spares seen a lt seen_few

  pub room_names : 4096 ≤ spare
  room_names = (seen.free_names refl).room

  pub inside_tables : a < length tables
  inside_tables = table_within names tables spare spares seen a lt seen_few

  pub room_table : length (get_or tables a []) < 256
  room_table = table_short names tables spare spares seen a lt seen_few

  pub rooms_tables : All (λ n. 256 ≤ n) spares
  rooms_tables = (seen.free_names refl).rooms

  module _ (name : List ℕ) (is_name : IsName name) (n : ℕ) (more tables_now : List (List ℕ)) (added : more ≡ with_name names name) (number : name_at more n ≡ name) (inside : n < length more) (put : tables_now ≡ set tables a (get_or tables a [] ++ n ∷ [])) where
    number_then : name_at (with_name names name) n ≡ name
    number_then = subst (λ (l : List (List ℕ)). name_at l n ≡ name) added number

    inside_then : n < length (with_name names name)
    inside_then = subst (λ (l : List (List ℕ)). n < length l) added inside

    now_is : naming_of free more tables_now ≡ naming_of true (with_name names name) (set tables a (get_or tables a [] ++ n ∷ []))
    now_is = ap (λ (f : Bool). naming_of f more tables_now) seen_free ∙ (ap (λ (l : List (List ℕ)). naming_of true l tables_now) added ∙ ap (naming_of true (with_name names name)) put)

    pub brings_one : naming_of free more tables_now ≡ bring w a (name ∷ [])
    brings_one =
        now_is ∙ (one_brought names tables spare spares seen a lt seen_few name is_name n number_then inside_then ∙ ap (λ (v : Naming). bring v a (name ∷ [])) seen_view)

    pub owns_one : own_names (naming_of free more tables_now) a ≡ own_names w a ++ name ∷ []
    owns_one =
        ap (λ (v : Naming). own_names v a) now_is
        ∙ (one_own names tables spare spares seen a lt seen_few name is_name n number_then inside_then ∙ ap (λ (v : Naming). own_names v a ++ name ∷ []) seen_view)

    pub keeps_one : (room : ℕ) (rooms : List ℕ) → room ≡ spare → All (λ m. 256 ≤ m) rooms → IsOutNames free more tables_now room rooms
    keeps_one room rooms same each =
        let kept = one_kept names tables spare spares seen a lt seen_few name is_name n number_then inside_then rooms each in
        subst (λ (f : Bool). IsOutNames f more tables_now room rooms) (sym seen_free)
        (subst (λ (l : List (List ℕ)). IsOutNames true l tables_now room rooms) (sym added)
        (subst (λ (l : List (List ℕ)). IsOutNames true (with_name names name) l room rooms) (sym put)
        (subst (λ (k : ℕ). IsOutNames true (with_name names name) (set tables a (get_or tables a [] ++ n ∷ [])) k rooms) (sym same) kept)))

-- one element of a list of vectors gains a number
module _ {X : Type 0} (items : X → List ℕ) (rooms : X → ℕ) (xs : List X) (a : ℕ) (old v : X) (lt : a < length xs) (at : old ≡ get_or xs a old) where
  pub old_items : get_or (map items xs) a [] ≡ items old
  old_items = get_or-map items xs a old [] lt ∙ ap items (sym at)

  pub old_room : get_or (map rooms xs) a 0 ≡ rooms old
  old_room = get_or-map rooms xs a old 0 lt ∙ ap rooms (sym at)

  pub put_items : (n : ℕ) → items v ≡ items old ++ n ∷ [] → map items (set xs a v) ≡ set (map items xs) a (get_or (map items xs) a [] ++ n ∷ [])
  put_items n pushed = map-set items xs a v ∙ ap (λ (l : List ℕ). set (map items xs) a l) (pushed ∙ ap (λ (l : List ℕ). l ++ n ∷ []) (sym old_items))

  pub put_rooms : rooms v ≡ rooms old → All (λ m. 256 ≤ m) (map rooms xs) → All (λ m. 256 ≤ m) (map rooms (set xs a v))
  put_rooms same each =
      let was : 256 ≤ get_or (map rooms xs) a 0 = All-get_or (λ m. 256 ≤ m) (map rooms xs) a 0 (omega (arith, lt, length-map xs rooms)) each in
      subst (All (λ m. 256 ≤ m)) (sym (map-set rooms xs a v)) (All-set (λ m. 256 ≤ m) (map rooms xs) a (rooms v) (omega (arith, was, old_room, same)) each)

-- outputs by the shared numbers, as a call sees them
pub shared_seen_declared : (free : Bool) (names tables : List (List ℕ)) (spare : ℕ) (spares : List ℕ) (w : Naming) → naming_of free names tables ≡ w → IsOutNames free names tables spare spares → free ≡ false → (a : ℕ) (outs : List ℕ) → All (λ y. y < length (own_names w a)) outs → outs ≡ shared w a outs
shared_seen_declared free names tables spare spares w view is off a outs below =
    let here : naming_of false names tables ≡ w = subst (λ (f : Bool). naming_of f names tables ≡ w) off view in
    subst (λ (v : Naming). outs ≡ shared v a outs) here
    (shared_declared names is.differ a outs (subst (λ (v : Naming). All (λ y. y < length (own_names v a)) outs) (sym here) below))

module _ (free : Bool) (names tables : List (List ℕ)) (spare : ℕ) (spares : List ℕ) (w : Naming) (view : naming_of free names tables ≡ w) (is : IsOutNames free names tables spare spares) (yes : free ≡ true) (a : ℕ) (lt : a < 16) (outs : List ℕ) (below : All (λ y. y < length (own_names w a)) outs) where
  here_view : naming_of true names tables ≡ w
  here_view = subst (λ (f : Bool). naming_of f names tables ≡ w) yes view

  pub here_inside : a < length tables
  here_inside = omega (arith, lt, (is.free_names yes).count)

  here_below : All (λ y. y < length (get_or (map (named names) tables) a [])) outs
  here_below = subst (λ (v : Naming). All (λ y. y < length (own_names v a)) outs) (sym here_view) below

  pub below_table : All (λ y. y < length (get_or tables a [])) outs
  below_table = subst (λ (k : ℕ). All (λ y. y < k) outs) (ap (λ (l : List (List ℕ)). length l) (get_or-map (named names) tables a [] [] here_inside) ∙ length-map (get_or tables a []) (name_at names)) here_below

  pub shared_seen_free : map (λ y. get_or (get_or tables a []) y 0) outs ≡ shared w a outs
  shared_seen_free = shared_free names is.differ tables a outs here_inside is.within here_below ∙ ap (λ (v : Naming). shared v a outs) here_view

-- where names are free there are 16 lists of them
pub sixteen_lists : (free : Bool) (names tables : List (List ℕ)) (spare : ℕ) (spares : List ℕ) (w : Naming) → naming_of free names tables ≡ w → IsOutNames free names tables spare spares → HasLists w.brought 16
sixteen_lists true names tables spare spares w view is =
    subst (λ (v : Naming). HasLists v.brought 16) view (omega (arith, (is.free_names refl).count, length-map tables (named names)))
sixteen_lists false names tables spare spares w view is = subst (λ (v : Naming). HasLists v.brought 16) view tt

pub fewer_lists : (b : Option (List (List (List ℕ)))) (m n : ℕ) → n ≤ m → HasLists b m → HasLists b n
fewer_lists None m n le lists = tt
fewer_lists (Some b) m n le lists = omega (arith, le, lists)
