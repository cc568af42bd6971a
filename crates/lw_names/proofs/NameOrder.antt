-- Names in the order of their bytes, and the numbers that they get by it.
use Rattle.std.proofs.Common.{◌≡◌, ◌≢◌, ℕ, zero, suc, ◌+◌, ◌<◌, ◌≤◌, List, [], ◌∷◌, ◌++◌, length, map, take, drop, get_or, set, All, Contains, Bool, true, false, cond, Some, refl, ap, sym, ◌∙◌, subst, arith, Ordering, Less, Equal, Greater, is_lt, nat_cmp}
use Rattle.std.specs.List.{sum_by}
use Rattle.std.specs.List.Sorted.{IsPermutation}
use Rattle.std.specs.Ordering.{ordering_reverse, is_eq}
use Rattle.std.specs.Str.{bytes_eq}
use Rattle.std.specs.Cmp.{IsStrictWeakOrder}
use Rattle.std.specs.Cmp.Lexicographic.{slice_cmp}
use Rattle.std.proofs.lemmas.Bool.{true≢false}
use Rattle.std.proofs.lemmas.Cmp.{nat_list_cmp_total, nat_list_eq_equiv}
use Rattle.std.proofs.lemmas.List.{length-map, length-take, length-drop, length-append, get_or_default, get_or-map, get_or_at, map-set, set-get_or, drop_more}
use Rattle.std.proofs.lemmas.List.Edits.{map_over_more}
use Rattle.std.proofs.lemmas.List.Elements.{All-head, All-tail, All-get_or, All-map, All-weaker, Contains-get_or}
use Rattle.std.proofs.lemmas.List.Sorted.{ranks_by, All-permutation, Contains-permutation, length_permutation, sum_by-IsPermutation}
use Rattle.std.proofs.lemmas.List.Sums.{sum_by-cons}
use Rattle.std.proofs.lemmas.Map.Keys.{IsDistinct-IsPermutation, IsDistinct-from_apart}
use Rattle.std.proofs.lemmas.Map.Made.{AllPairs-from_IsDistinct}
use Rattle.std.proofs.lemmas.Map.Text.{is_eq-slice_cmp}
use Rattle.std.proofs.lemmas.Simd.{map-map}
use Rattle.std.proofs.lemmas.Slice.Eq.{bytes_eq-Decides}
use Rattle.lw_words.specs.Word.{IsName, AllDiffer, name_at, named}
use Rattle.lw_words.specs.Renumbering.{renumbered}
use Rattle.lw_names.specs.Naming.{Naming, IsBefore, AreSorted, Renumbers}
use Rattle.lw_names.specs.bodies.OutNames.{brought_of, IsOutNames, count_before, AreRanks}
use Rattle.lw_names.proofs.Bringing.{map_agree, naming_of}
use Rattle.lw_names.proofs.Pairs.{pairs_of, pairs_first, pairs_rest}

-- names that differ do so in another order too
not_equal : (a b : List ℕ) → a ≢ b → bytes_eq a b ≡ false
not_equal a b other = by (bytes_eq a b) (bytes_eq-Decides a b).0
  where
    by : (r : Bool) → (r ≡ true → a ≡ b) → r ≡ false
    by true told = absurd (other (told refl))
    by false told = refl

pub differ_moved : (names now : List (List ℕ)) → IsPermutation names now → AllDiffer names → AllDiffer now
differ_moved names now moved differ =
    AllPairs-from_IsDistinct bytes_eq-Decides now
    (IsDistinct-IsPermutation bytes_eq (λ a b. nat_list_eq_equiv.symm a b) names now moved
    (IsDistinct-from_apart bytes_eq names (λ i j d less within. not_equal (get_or names i d) (get_or names j d) (differ i j d less within))))

-- names that a sort by their bytes leaves
pub names_rank : IsStrictWeakOrder (λ (a b : List ℕ). is_lt (slice_cmp nat_cmp a b))
names_rank = ranks_by nat_list_cmp_total (λ (a : List ℕ). a)

same_bytes : (a b : List ℕ) → slice_cmp nat_cmp a b ≡ Equal → a ≡ b
same_bytes a b e = (bytes_eq-Decides a b).0 (sym (is_eq-slice_cmp a b) ∙ ap is_eq e)

neighbours : (a b : List ℕ) → is_lt (slice_cmp nat_cmp b a) ≡ false → a ≢ b → IsBefore a b
neighbours a b less other = by (slice_cmp nat_cmp a b) refl
  where
    by : (o : Ordering) → slice_cmp nat_cmp a b ≡ o → o ≡ Less
    by Less e = refl
    by Equal e = absurd (other (same_bytes a b e))
    by Greater e = absurd (true≢false (sym (ap is_lt (nat_list_cmp_total.antisymm b a ∙ ap ordering_reverse e)) ∙ less))

pub sorted_is : (names : List (List ℕ)) → AllDiffer names → ((k : ℕ) (d : List ℕ) → k + 1 < length names → is_lt (slice_cmp nat_cmp (get_or names (k + 1) d) (get_or names k d)) ≡ false) → AreSorted names
sorted_is names differ next =
    pairs_of IsBefore nat_list_cmp_total.trans names (λ k d lt. neighbours (get_or names k d) (get_or names (k + 1) d) (next k d lt) (differ k (k + 1) d (omega arith) lt))

-- in a list that is sorted, as many names are before one as its number says
is_after : (a b : List ℕ) → IsBefore a b → is_lt (slice_cmp nat_cmp b a) ≡ false
is_after a b less = ap is_lt (nat_list_cmp_total.antisymm b a ∙ ap ordering_reverse less)

not_itself : (a : List ℕ) → is_lt (slice_cmp nat_cmp a a) ≡ false
not_itself a = by (slice_cmp nat_cmp a a) (nat_list_cmp_total.antisymm a a)
  where
    by : (o : Ordering) → o ≡ ordering_reverse o → is_lt o ≡ false
    by Less e = ap is_lt e
    by Equal e = refl
    by Greater e = refl

count_next : (x y : List ℕ) (ys : List (List ℕ)) → count_before (y ∷ ys) x ≡ cond (is_lt (slice_cmp nat_cmp y x)) 1 0 + count_before ys x
count_next x y ys = sum_by-cons (λ (n : List ℕ). cond (is_lt (slice_cmp nat_cmp n x)) 1 0) y ys

one_more : (x y : List ℕ) (ys : List (List ℕ)) → is_lt (slice_cmp nat_cmp y x) ≡ true → count_before (y ∷ ys) x ≡ count_before ys x + 1
one_more x y ys before = omega (arith, count_next x y ys, ap (λ (b : Bool). let n : ℕ = cond b 1 0 in n) before)

none_more : (x y : List ℕ) (ys : List (List ℕ)) → is_lt (slice_cmp nat_cmp y x) ≡ false → count_before (y ∷ ys) x ≡ count_before ys x
none_more x y ys before = omega (arith, count_next x y ys, ap (λ (b : Bool). let n : ℕ = cond b 1 0 in n) before)

none_before : (x : List ℕ) (ys : List (List ℕ)) → All (IsBefore x) ys → count_before ys x ≡ 0
none_before x [] all = refl
none_before x (y ∷ ys) all = none_more x y ys (is_after x y (All-head (IsBefore x) y ys all)) ∙ none_before x ys (All-tail (IsBefore x) y ys all)

pub place_counts : (xs : List (List ℕ)) → AreSorted xs → (k : ℕ) (d : List ℕ) → k < length xs → count_before xs (get_or xs k d) ≡ k
place_counts [] sorted k d lt = absurd (omega (arith, lt))
place_counts (x ∷ xs) sorted zero d lt = none_more x x xs (not_itself x) ∙ none_before x xs (pairs_first IsBefore x xs sorted)
place_counts (x ∷ xs) sorted (suc k) d lt =
    omega (arith, one_more (get_or xs k d) x xs (ap is_lt (sorted 0 (suc k) d (omega arith) lt)), place_counts xs (pairs_rest IsBefore x xs sorted) k d (omega (arith, lt)))

-- so the count of those before it is a name's new number
pub ranks_renumber : (to : List ℕ) (names now : List (List ℕ)) → AreRanks to names (length names) → IsPermutation names now → AreSorted now → Renumbers to names now
ranks_renumber to names now ranks moved sorted y lt =
    let name : List ℕ = name_at names y in
    let there : Contains now name = Contains-permutation names now name moved (Contains-get_or names y [] lt) in
    let k : ℕ = there.0 in
    let here : name_at now k ≡ name = get_or_default now k [] name there.1 ∙ there.2 in
    let same : count_before names name ≡ count_before now name = sym (sum_by-IsPermutation (λ (n : List ℕ). cond (is_lt (slice_cmp nat_cmp n name)) 1 0) names now moved) in
    let number : get_or to y 0 ≡ k = ranks y lt ∙ (same ∙ (ap (count_before now) (sym here) ∙ place_counts now sorted k [] there.1)) in
    (subst (λ (n : ℕ). n < length now) (sym number) there.1, ap (name_at now) number ∙ here)

-- tables by the new numbers
module _ (to : List ℕ) (names now : List (List ℕ)) (renumbers : Renumbers to names now) where
  same_table : (t : List ℕ) → All (λ y. y < length names) t → named now (renumbered to t) ≡ named names t
  same_table t all =
      map-map (name_at now) (λ (y : ℕ). get_or to y 0) t
      ∙ map_agree (λ y. y < length names) (λ y. name_at now (get_or to y 0)) (name_at names) (λ y lt. (renumbers y lt).1) t all

  pub same_tables : (ts : List (List ℕ)) → All (All (λ y. y < length names)) ts → map (named now) (map (renumbered to) ts) ≡ map (named names) ts
  same_tables ts all =
      map-map (named now) (renumbered to) ts
      ∙ map_agree (All (λ y. y < length names)) (λ t. named now (renumbered to t)) (named names) same_table ts all

  below_now : (t : List ℕ) → All (λ y. y < length names) t → All (λ y. y < length now) (renumbered to t)
  below_now t all =
      All-map (λ y. y < length now) (λ (y : ℕ). get_or to y 0) t
      (All-weaker (λ y. y < length names) (λ y. get_or to y 0 < length now) (λ y lt. (renumbers y lt).0) t all)

  pub all_below_now : (ts : List (List ℕ)) → All (All (λ y. y < length names)) ts → All (All (λ y. y < length now)) (map (renumbered to) ts)
  all_below_now ts all =
      All-map (All (λ y. y < length now)) (renumbered to) ts
      (All-weaker (All (λ y. y < length names)) (λ t. All (λ y. y < length now) (renumbered to t)) below_now ts all)

long_tables : (to : List ℕ) (ts : List (List ℕ)) → sum_by (λ (t : List ℕ). length t) (map (renumbered to) ts) ≡ sum_by (λ (t : List ℕ). length t) ts
long_tables to [] = refl
long_tables to (t ∷ ts) =
    omega (arith, sum_by-cons (λ (l : List ℕ). length l) (renumbered to t) (map (renumbered to) ts), sum_by-cons (λ (l : List ℕ). length l) t ts, length-map t (λ (y : ℕ). get_or to y 0), long_tables to ts)

short_tables : (to : List ℕ) (ts : List (List ℕ)) → All (λ t. length t ≤ 256) ts → All (λ t. length t ≤ 256) (map (renumbered to) ts)
short_tables to ts all =
    All-map (λ t. length t ≤ 256) (renumbered to) ts
    (All-weaker (λ t. length t ≤ 256) (λ t. length (renumbered to t) ≤ 256) (λ t few. omega (arith, few, length-map t (λ (y : ℕ). get_or to y 0))) ts all)

-- one table of vectors more
module _ {X : Type 0} (items : X → List ℕ) (rooms : X → ℕ) (to : List ℕ) (was : List (List ℕ)) (xs : List X) (i : ℕ) (x : X) (lt : i < length xs) (at : x ≡ get_or xs i x) (so_far : map items xs ≡ map (renumbered to) (take i was) ++ drop i was) where
  within_was : i < length was
  within_was =
      omega (arith, lt, ap (λ (l : List (List ℕ)). length l) so_far, length-map xs items, length-append (map (renumbered to) (take i was)) (drop i was), length-map (take i was) (renumbered to), length-take i was, length-drop i was)

  item_here : (d : List ℕ) → get_or (map items xs) i d ≡ items x
  item_here d = get_or-map items xs i x d lt ∙ ap items (sym at)

  item_was : items x ≡ get_or was i []
  item_was =
      let front : List (List ℕ) = map (renumbered to) (take i was) in
      let long : length front ≡ i = omega (arith, within_was, length-map (take i was) (renumbered to), length-take i was) in
      sym (item_here [])
      ∙ (ap (λ (l : List (List ℕ)). get_or l i []) (so_far ∙ ap (λ (l : List (List ℕ)). front ++ l) (drop_more was i [] within_was))
      ∙ get_or_at front (get_or was i []) (drop (i + 1) was) [] i long)

  pub item_below : All (All (λ y. y < length to)) was → (xs_now : List ℕ) → xs_now ≡ items x → All (λ y. y < length to) xs_now
  item_below all now is = subst (All (λ y. y < length to)) (sym (is ∙ item_was)) (All-get_or (All (λ y. y < length to)) was i [] within_was all)

  pub items_more : (v : X) → items v ≡ renumbered to (items x) → map items (set xs i v) ≡ map (renumbered to) (take (i + 1) was) ++ drop (i + 1) was
  items_more v is =
      map-set items xs i v
      ∙ (ap (λ (t : List ℕ). set (map items xs) i t) is
      ∙ map_over_more (renumbered to) was (map items xs) i (items x) within_was so_far (sym (item_here (items x))))

  pub rooms_same : (v : X) → rooms v ≡ rooms x → map rooms (set xs i v) ≡ map rooms xs
  rooms_same v same =
      map-set rooms xs i v
      ∙ (ap (λ (n : ℕ). set (map rooms xs) i n) (same ∙ sym (get_or-map rooms xs i x 0 lt ∙ ap rooms (sym at)))
      ∙ set-get_or (map rooms xs) i 0)

-- a sort, as the call sees it
module _ (free : Bool) (names tables : List (List ℕ)) (spare : ℕ) (spares : List ℕ) (w : Naming) (view : naming_of free names tables ≡ w) (is : IsOutNames free names tables spare spares) where
  pub names_seen : names ≡ w.names
  names_seen = ap (λ (v : Naming). v.names) view

  pub tables_below : (to : List ℕ) → length w.names ≤ length to → All (All (λ y. y < length to)) tables
  tables_below to room =
      let fits : length names ≤ length to = omega (arith, room, ap (λ (v : Naming). length v.names) view) in
      All-weaker (All (λ y. y < length names)) (All (λ y. y < length to))
      (All-weaker (λ y. y < length names) (λ y. y < length to) (λ y lt. omega (arith, lt, fits)))
      tables is.within

  module _ (to : List ℕ) (now tables_now : List (List ℕ)) (ranks : AreRanks to names (length names)) (moved : IsPermutation names now) (sorted : AreSorted now) (put : tables_now ≡ map (renumbered to) tables) where
    renumbers_here : Renumbers to names now
    renumbers_here = ranks_renumber to names now ranks moved sorted

    pub moved_seen : IsPermutation w.names now
    moved_seen = subst (λ (l : List (List ℕ)). IsPermutation l now) names_seen moved

    pub renumbers_seen : Renumbers to w.names now
    renumbers_seen = subst (λ (l : List (List ℕ)). Renumbers to l now) names_seen renumbers_here

    pub brought_seen : brought_of free now tables_now ≡ w.brought
    brought_seen = by free ∙ ap (λ (v : Naming). v.brought) view
      where
        by : (f : Bool) → brought_of f now tables_now ≡ brought_of f names tables
        by false = refl
        by true = ap (λ (l : List (List (List ℕ))). Some l) (ap (map (named now)) put ∙ same_tables to names now renumbers_here tables is.within)

    pub keeps_sorted : (room : ℕ) (rooms : List ℕ) → room ≡ spare → rooms ≡ spares → IsOutNames free now tables_now room rooms
    keeps_sorted room rooms room_is rooms_is =
        subst (λ (l : List (List ℕ)). IsOutNames free now l room rooms) (sym put)
        (subst (λ (n : ℕ). IsOutNames free now (map (renumbered to) tables) n rooms) (sym room_is)
        (subst (λ (l : List ℕ). IsOutNames free now (map (renumbered to) tables) spare l) (sym rooms_is) record {
          each = All-permutation IsName names now moved is.each;
          differ = differ_moved names now moved is.differ;
          few = omega (arith, is.few, length_permutation names now moved);
          within = all_below_now to names now renumbers_here tables is.within;
          short = short_tables to tables is.short;
          free_names = λ yes. let has = is.free_names yes in record {
            count = length-map tables (renumbered to) ∙ has.count;
            named = omega (arith, has.named, long_tables to tables, length_permutation names now moved);
            room = has.room;
            rooms = has.rooms;
          };
        }))
