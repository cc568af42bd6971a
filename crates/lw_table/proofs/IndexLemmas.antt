-- Tables whose rows are kept by class.
use Rattle.std.proofs.Common.{inr, ◌≡◌, ◌≢◌, ⊎_elim, ℕ, zero, suc, ◌+◌, ◌-◌, ◌<◌, ◌≤◌, List, [], ◌∷◌, ◌++◌, length, map, take, get_or, replicate, Option, Some, None, true≢false, cond, nat_eq, refl, ap, sym, ◌∙◌, subst, arith, append-nil}
use Rattle.std.specs.List.{All, AllPairs}
use Rattle.std.specs.Option.{MatchOption}
use Rattle.std.proofs.Math.ListN.{get_or-append}
use Rattle.std.proofs.lemmas.Bool.{cases_lt}
use Rattle.std.proofs.lemmas.Bool.Decides.{Decides-eqb}
use Rattle.std.proofs.lemmas.List.{length-append, length-map, length-take-le, get_or-map, get_or-take, ext_get_or, get_or-append_right, map-append}
use Rattle.std.proofs.lemmas.List.Elements.{All-append, All-from_get_or, All-replicate}
use Rattle.lw_words.specs.Word.{Answer, AreAnswers, IsWord}
use Rattle.lw_table.specs.Grown.{HasGrown}
use Rattle.lw_table.specs.Table.{TableState, row_at, access_row, IsTable, IsRow, CellsAreRead}
use Rattle.lw_table.specs.bodies.Classes.{row_of}
use Rattle.lw_table.specs.bodies.Filling.{GoesOn, GoOn, HasFilled}
use Rattle.lw_table.specs.bodies.Growing.{AreFull}
use Rattle.lw_table.specs.bodies.Numbered.{IsNumberOf, AreNumbered}
use Rattle.lw_table.specs.bodies.Rows.{IsRowWord, no_cells, class_at, cells_at, table_of, AreIndexed}
use Rattle.lw_table.specs.declared.rows.Row.{Row}
use Rattle.lw_table.proofs.FilledLemmas.{filled_is_table, filled_is_read, home_within, homes_in, rows_on, some_row_word}
use Rattle.lw_table.proofs.FillLemmas.{goes_nowhere}
use Rattle.lw_table.proofs.NumberedLemmas.{numbered_more}
use Rattle.lw_table.proofs.StepLemmas.{differ_once, row_stays}

abbrev rows_by : List (List (List ℕ)) → List Row → List (List (List ℕ))
rows_by classes rows = map (λ (r : Row). row_of classes r.class) rows

pub row_is : (classes : List (List (List ℕ))) (rows : List Row) (j : ℕ) → j < length rows → row_of (rows_by classes rows) j ≡ row_of classes (class_at rows j)
row_is classes rows j lt = get_or-map (λ (r : Row). row_of classes r.class) rows j no_cells [] lt

pub length-rows_by : (classes : List (List (List ℕ))) (rows : List Row) → length (rows_by classes rows) ≡ length rows
length-rows_by classes rows = length-map rows (λ (r : Row). row_of classes r.class)

pub within_rows : (classes : List (List (List ℕ))) (rows : List Row) (j : ℕ) → j < length (rows_by classes rows) → j < length rows
within_rows classes rows j lt = let size = length-rows_by classes rows in omega (arith, lt, size)

-- more classes leave the rows
pub rows_stay : (classes more now : List (List (List ℕ))) (rows : List Row) → now ≡ classes ++ more → All (λ r. r.class < length classes) rows → rows_by now rows ≡ rows_by classes rows
rows_stay classes more now rows grown within =
    ext_get_or [] (rows_by now rows) (rows_by classes rows) (length-rows_by now rows ∙ sym (length-rows_by classes rows)) (λ j lt.
    let inside : j < length rows = (let size = length-rows_by now rows in omega (arith, lt, size)) in
    row_is now rows j inside ∙ (row_stays classes more now (class_at rows j) grown (within j no_cells inside) ∙ sym (row_is classes rows j inside)))

module _ (classes : List (List (List ℕ))) (rows : List Row) (homes : List ℕ) (find : ℕ → Option ℕ) (ix : AreIndexed classes rows homes find) where
  count_is : (j : ℕ) → j < length rows → cells_at rows j ≡ length (row_of (rows_by classes rows) j)
  count_is j lt = ix.counts j no_cells lt ∙ ap (λ (l : List (List ℕ)). length l) (sym (row_is classes rows j lt))

  pub more_classes : (more now : List (List (List ℕ))) → now ≡ classes ++ more → AllPairs (λ r s. r ≢ s) now → AreIndexed now rows homes find
  more_classes more now grown differ =
      let size : length now ≡ length classes + length more = ap (λ (l : List (List (List ℕ))). length l) grown ∙ length-append classes more in
      record {
        some = omega (arith, ix.some, size);
        first = row_stays classes more now 0 grown ix.some ∙ ix.first;
        differ = differ;
        within = λ j d lt. omega (arith, ix.within j d lt, size);
        counts = λ j d lt. ix.counts j d lt ∙ ap (λ (l : List (List ℕ)). length l) (sym (row_stays classes more now (get_or rows j d).class grown (ix.within j d lt)));
        states = ix.states;
      }

  pub few_cells : (b : ℕ) (suffixes : List (List ℕ)) → All (IsRow b suffixes) (rows_by classes rows) → All (λ r. r.cells ≤ length suffixes) rows
  few_cells b suffixes shape =
      All-from_get_or (λ r. r.cells ≤ length suffixes) rows no_cells (λ j lt.
      let few = (shape j [] (let size = length-rows_by classes rows in omega (arith, lt, size))).few in
      omega (arith, few, count_is j lt))

  -- rows with one class are equal, and the other way round
  pub one_row : (i j : ℕ) → i < length rows → j < length rows → class_at rows i ≡ class_at rows j → row_of (rows_by classes rows) i ≡ row_of (rows_by classes rows) j
  one_row i j li lj same = row_is classes rows i li ∙ (ap (row_of classes) same ∙ sym (row_is classes rows j lj))

  pub one_class_of : (i j : ℕ) → i < length rows → j < length rows → row_of (rows_by classes rows) i ≡ row_of (rows_by classes rows) j → class_at rows i ≡ class_at rows j
  one_class_of i j li lj same = differ_once classes ix.differ (class_at rows i) (class_at rows j) (ix.within i no_cells li) (ix.within j no_cells lj) (sym (row_is classes rows i li) ∙ (same ∙ row_is classes rows j lj))

-- the table after all rows were filled
module _ (ks : List Answer) (a b most : ℕ) (access suffixes : List (List ℕ)) (classes more now : List (List (List ℕ))) (rows filled : List Row) (homes : List ℕ) (find found : ℕ → Option ℕ) (r : ℕ)
    (g : IsTable (table_of a b most access suffixes classes rows homes r)) (ix : AreIndexed classes rows homes find) (grown : now ≡ classes ++ more) (differ : AllPairs (λ r s. r ≢ s) now) (size : length filled ≡ length rows)
    (within : All (λ r. r.class < length now) filled) (counts : All (λ r. r.cells ≡ length (row_of now r.class)) filled) (whole : All (λ r. r.cells ≡ length suffixes) filled)
    (each : (j : ℕ) (w : List ℕ) → j < length rows → IsRowWord a access j w → GoesOn ks suffixes w (row_of classes (class_at rows j)) (row_of now (class_at filled j))) where
  abbrev before : TableState
  before = table_of a b most access suffixes classes rows homes r

  inside : (j : ℕ) → j < length (rows_by now filled) → j < length filled
  inside j lt = let s = length-rows_by now filled in omega (arith, lt, s)

  pub has_filled : HasFilled ks before (rows_by now filled)
  has_filled =
      record {
        size = length-rows_by now filled ∙ (size ∙ sym (length-rows_by classes rows));
        full = λ j lt. ap (λ (l : List (List ℕ)). length l) (row_is now filled j (inside j lt)) ∙ (sym (counts j no_cells (inside j lt)) ∙ whole j no_cells (inside j lt));
        each = λ j w lt is.
            let here = inside j lt in
            let there : j < length rows = omega (arith, here, size) in
            subst (GoesOn ks suffixes w (row_of (rows_by classes rows) j)) (sym (row_is now filled j here))
            (subst (λ (row : List (List ℕ)). GoesOn ks suffixes w row (row_of now (class_at filled j))) (sym (row_is classes rows j there)) (each j w there is));
      }

  pub filled_index : AreNumbered nat_eq (map (class_at filled) homes) found → AreIndexed now filled homes found
  filled_index is =
      let long : length now ≡ length classes + length more = ap (λ (l : List (List (List ℕ))). length l) grown ∙ length-append classes more in
      record { some = omega (arith, ix.some, long); first = row_stays classes more now 0 grown ix.some ∙ ix.first; differ = differ; within = within; counts = counts; states = is }

  module _ (are : AreAnswers a ks) (below : All (λ k. IsWord b k.outs) ks) where
    abbrev after : TableState
    after = table_of a b most access suffixes now filled homes r

    pub after_is_table : IsTable after
    after_is_table = filled_is_table ks before (rows_by now filled) g are below has_filled

    pub after_is_full : AreFull after
    after_is_full = has_filled.full

    homes_within : (q : ℕ) → q < length homes → get_or homes q 0 < length filled
    homes_within q lt = inside (get_or homes q 0) (home_within ks before (rows_by now filled) g are below has_filled q (omega (arith, lt, g.each_home)))

    pub homes_are_rows : All (λ home. home < length filled) homes
    homes_are_rows = All-from_get_or (λ home. home < length filled) homes 0 homes_within

    pub has_grown : CellsAreRead ks before → HasGrown ks before after
    has_grown read =
        record {
          inputs = refl;
          outputs = refl;
          most = refl;
          more = [];
          access = sym (append-nil access);
          rows = rows_on (rows_by classes rows) (rows_by now filled) (λ j lt. let w = some_word j lt in let on = has_filled.each j w.0 (omega (arith, lt, has_filled.size)) w.1 in (on.cells, on.longer));
          longer = let even = has_filled.size in omega (arith, even);
          whole = inr (λ j lt. has_filled.full j (let even = has_filled.size in omega (arith, lt, even)));
          each_new = λ j ge lt. absurd (let even = has_filled.size in omega (arith, ge, lt, even));
          homes = λ q lt. refl;
          table = after_is_table;
          read = filled_is_read ks before (rows_by now filled) g are below has_filled read;
        }
      where
        some_word : (j : ℕ) → j < length (rows_by classes rows) → (w : List ℕ) × IsRowWord a access j w
        some_word j lt = some_row_word a access j g.inputs.0 (omega (arith, lt, g.rows))

-- rows from one on are replaced by filled ones
module _ (ks : List Answer) (a : ℕ) (access suffixes : List (List ℕ)) (classes more now : List (List (List ℕ))) (rows filled : List Row) (homes : List ℕ) (find : ℕ → Option ℕ) (first : ℕ)
    (ix : AreIndexed classes rows homes find) (le : first ≤ length rows) (full : (j : ℕ) → j < first → length (row_of (rows_by classes rows) j) ≡ length suffixes)
    (grown : now ≡ classes ++ more) (all : first + length filled ≡ length rows) (on : GoOn ks a access suffixes classes rows first now filled) where
  abbrev whole_rows : List Row
  whole_rows = take first rows ++ filled

  front : length (take first rows) ≡ first
  front = length-take-le first rows le

  pub rows_as_many : length whole_rows ≡ length rows
  rows_as_many = let both = length-append (take first rows) filled in omega (arith, both, front, all)

  old_at : (j : ℕ) → j < first → get_or whole_rows j no_cells ≡ get_or rows j no_cells
  old_at j lt = get_or-append (take first rows) filled no_cells j (omega (arith, lt, front)) ∙ get_or-take first rows j no_cells lt

  new_at : (j : ℕ) → first ≤ j → get_or whole_rows j no_cells ≡ get_or filled (j - first) no_cells
  new_at j low = get_or-append_right (take first rows) filled first j no_cells front low

  stay : (class : ℕ) → class < length classes → row_of now class ≡ row_of classes class
  stay class lt = row_stays classes more now class grown lt

  of_each : (P : Row → Type 0) → ((j : ℕ) → j < first → P (get_or rows j no_cells)) → All P filled → All P whole_rows
  of_each P old new =
      All-from_get_or P whole_rows no_cells (λ j lt.
      ⊎_elim
      (λ (below : j < first). subst P (sym (old_at j below)) (old j below))
      (λ (above : first ≤ j). subst P (sym (new_at j above)) (new (j - first) no_cells (omega (arith, lt, above, rows_as_many, all))))
      (cases_lt j first))

  pub rows_within : All (λ r. r.class < length now) whole_rows
  rows_within =
      let long : length now ≡ length classes + length more = ap (λ (l : List (List (List ℕ))). length l) grown ∙ length-append classes more in
      of_each (λ r. r.class < length now) (λ j lt. omega (arith, ix.within j no_cells (omega (arith, lt, le)), long)) on.within

  pub rows_counted : All (λ r. r.cells ≡ length (row_of now r.class)) whole_rows
  rows_counted = of_each (λ r. r.cells ≡ length (row_of now r.class))
      (λ j lt. let inside : j < length rows = omega (arith, lt, le) in ix.counts j no_cells inside ∙ ap (λ (l : List (List ℕ)). length l) (sym (stay (class_at rows j) (ix.within j no_cells inside)))) on.counts

  pub rows_whole : All (λ r. r.cells ≡ length suffixes) whole_rows
  rows_whole = of_each (λ r. r.cells ≡ length suffixes) (λ j lt. count_is classes rows homes find ix j (omega (arith, lt, le)) ∙ full j lt) on.whole

  pub rows_go_on : (j : ℕ) (w : List ℕ) → j < length rows → IsRowWord a access j w → GoesOn ks suffixes w (row_of classes (class_at rows j)) (row_of now (class_at whole_rows j))
  rows_go_on j w lt is =
      ⊎_elim
      (λ (below : j < first).
      subst (GoesOn ks suffixes w (row_of classes (class_at rows j))) (sym (stay (class_at rows j) (ix.within j no_cells lt)) ∙ ap (λ (r : Row). row_of now r.class) (sym (old_at j below))) (goes_nowhere ks suffixes w (row_of classes (class_at rows j))))
      (λ (above : first ≤ j).
      let place : first + (j - first) ≡ j = omega (arith, above) in
      subst (GoesOn ks suffixes w (row_of classes (class_at rows j))) (ap (λ (r : Row). row_of now r.class) (sym (new_at j above)))
      (subst (λ (i : ℕ). GoesOn ks suffixes w (row_of classes (class_at rows i)) (row_of now (class_at filled (j - first)))) place
      (on.each (j - first) w (omega (arith, lt, above, all)) (subst (λ (i : ℕ). IsRowWord a access i w) (sym place) is))))
      (cases_lt j first)

  pub states_stay : ((q : ℕ) → q < length homes → get_or homes q 0 < first) → AreNumbered nat_eq (map (class_at whole_rows) homes) find
  states_stay early =
      subst (λ (keys : List ℕ). AreNumbered nat_eq keys find)
      (ext_get_or 0 (map (class_at rows) homes) (map (class_at whole_rows) homes) (length-map homes (class_at rows) ∙ sym (length-map homes (class_at whole_rows))) (λ q lt.
      let inside : q < length homes = (let s = length-map homes (class_at rows) in omega (arith, lt, s)) in
      get_or-map (class_at rows) homes q 0 0 inside ∙ (ap (λ (r : Row). r.class) (sym (old_at (get_or homes q 0) (early q inside))) ∙ sym (get_or-map (class_at whole_rows) homes q 0 0 inside))))
      ix.states

-- the access word with a row, by the place of its class
module _ (a b most : ℕ) (access suffixes : List (List ℕ)) (classes : List (List (List ℕ))) (rows : List Row) (homes : List ℕ) (find : ℕ → Option ℕ) (r j : ℕ)
    (g : IsTable (table_of a b most access suffixes classes rows homes r)) (ix : AreIndexed classes rows homes find) (lt : j < length rows) where
  abbrev here : TableState
  here = table_of a b most access suffixes classes rows homes r

  home_of : (q : ℕ) → q < length access → get_or homes q 0 < length rows
  home_of q le = let s = length-rows_by classes rows in let w = homes_in here g q le in omega (arith, w, s)

  abbrev class : ℕ
  class = class_at rows j

  abbrev keys : List ℕ
  keys = map (class_at rows) homes

  key_is : (q d : ℕ) → q < length access → get_or keys q d ≡ class_at rows (get_or homes q 0)
  key_is q d le = get_or-map (class_at rows) homes q 0 d (omega (arith, le, g.each_home))

  keys_many : length keys ≡ length access
  keys_many = length-map homes (class_at rows) ∙ g.each_home

  pub row_with_class : (found : Option ℕ) → found ≡ find class
      → MatchOption found ((q : ℕ) → q < length access → row_at here j ≢ access_row here q) (λ q. (q < length access) × (row_at here j ≡ access_row here q))
  row_with_class found is = by found (subst (IsNumberOf nat_eq keys class) (sym is) (ix.states class))
    where
      by : (o : Option ℕ) → IsNumberOf nat_eq keys class o
          → MatchOption o ((q : ℕ) → q < length access → row_at here j ≢ access_row here q) (λ q. (q < length access) × (row_at here j ≡ access_row here q))
      by None none = λ q le same.
          let one : class ≡ class_at rows (get_or homes q 0) = one_class_of classes rows homes find ix j (get_or homes q 0) lt (home_of q le) same in
          true≢false (sym ((Decides-eqb (get_or keys q class) class).1 (key_is q class le ∙ sym one)) ∙ none q class (omega (arith, le, keys_many)))
      by (Some q) some =
          let le : q < length access = (let at = some.0 in omega (arith, at, keys_many)) in
          let one : get_or keys q class ≡ class = (Decides-eqb (get_or keys q class) class).0 some.1 in
          (le, one_row classes rows homes find ix j (get_or homes q 0) lt (home_of q le) (sym one ∙ key_is q class le))

-- the table whose rows from one on were replaced
module _ (ks : List Answer) (a b most r : ℕ) (access suffixes : List (List ℕ)) (classes more now : List (List (List ℕ))) (rows filled : List Row) (homes : List ℕ) (find found : ℕ → Option ℕ) (first : ℕ)
    (g : IsTable (table_of a b most access suffixes classes rows homes r)) (ix : AreIndexed classes rows homes find) (le : first ≤ length rows) (full : (j : ℕ) → j < first → length (row_of (rows_by classes rows) j) ≡ length suffixes)
    (grown : now ≡ classes ++ more) (differ : AllPairs (λ r s. r ≢ s) now) (all : first + length filled ≡ length rows) (on : GoOn ks a access suffixes classes rows first now filled) where
  abbrev replaced : List Row
  replaced = take first rows ++ filled

  many : length replaced ≡ length rows
  many = rows_as_many ks a access suffixes classes more now rows filled homes find first ix le full grown all on

  within : All (λ r. r.class < length now) replaced
  within = rows_within ks a access suffixes classes more now rows filled homes find first ix le full grown all on

  counts : All (λ r. r.cells ≡ length (row_of now r.class)) replaced
  counts = rows_counted ks a access suffixes classes more now rows filled homes find first ix le full grown all on

  whole : All (λ r. r.cells ≡ length suffixes) replaced
  whole = rows_whole ks a access suffixes classes more now rows filled homes find first ix le full grown all on

  each : (j : ℕ) (w : List ℕ) → j < length rows → IsRowWord a access j w → GoesOn ks suffixes w (row_of classes (class_at rows j)) (row_of now (class_at replaced j))
  each = rows_go_on ks a access suffixes classes more now rows filled homes find first ix le full grown all on

  pub replaced_index : AreNumbered nat_eq (map (class_at replaced) homes) found → AreIndexed now replaced homes found
  replaced_index is = filled_index ks a b most access suffixes classes more now rows replaced homes find found r g ix grown differ many within counts whole each is

  pub replaced_states : ((q : ℕ) → q < length homes → get_or homes q 0 < first) → AreNumbered nat_eq (map (class_at replaced) homes) find
  replaced_states early = states_stay ks a access suffixes classes more now rows filled homes find first ix le full grown all on early

  module _ (are : AreAnswers a ks) (below : All (λ k. IsWord b k.outs) ks) where
    pub replaced_table : IsTable (table_of a b most access suffixes now replaced homes r)
    replaced_table = after_is_table ks a b most access suffixes classes more now rows replaced homes find found r g ix grown differ many within counts whole each are below

    pub replaced_full : AreFull (table_of a b most access suffixes now replaced homes r)
    replaced_full = after_is_full ks a b most access suffixes classes more now rows replaced homes find found r g ix grown differ many within counts whole each are below

    pub replaced_homes : All (λ home. home < length replaced) homes
    replaced_homes = homes_are_rows ks a b most access suffixes classes more now rows replaced homes find found r g ix grown differ many within counts whole each are below

    pub replaced_grown : CellsAreRead ks (table_of a b most access suffixes classes rows homes r) → HasGrown ks (table_of a b most access suffixes classes rows homes r) (table_of a b most access suffixes now replaced homes r)
    replaced_grown read = has_grown ks a b most access suffixes classes more now rows replaced homes find found r g ix grown differ many within counts whole each are below read

-- where only classes came, the table is as it was
module _ (a b most r : ℕ) (access suffixes : List (List ℕ)) (classes more now : List (List (List ℕ))) (rows : List Row) (homes : List ℕ) (find : ℕ → Option ℕ) (ix : AreIndexed classes rows homes find) (grown : now ≡ classes ++ more) where
  pub same_table : table_of a b most access suffixes now rows homes r ≡ table_of a b most access suffixes classes rows homes r
  same_table = ap (λ (cells : List (List (List ℕ))). record (table_of a b most access suffixes classes rows homes r) { cells = cells }) (rows_stay classes more now rows grown ix.within)

empty_rows : (classes : List (List (List ℕ))) (n : ℕ) → rows_by classes (replicate n no_cells) ≡ replicate n (row_of classes 0)
empty_rows classes zero = refl
empty_rows classes (suc n) = ap (λ (l : List (List (List ℕ))). row_of classes 0 ∷ l) (empty_rows classes n)

-- rows without cells at the end
module _ (classes : List (List (List ℕ))) (rows : List Row) (homes : List ℕ) (find : ℕ → Option ℕ) (count j : ℕ) (ix : AreIndexed classes rows homes find) (early : (q : ℕ) → q < length homes → get_or homes q 0 < length rows) (lt : j < length rows) where
  abbrev longer_rows : List Row
  longer_rows = rows ++ replicate count no_cells

  pub cells_longer : rows_by classes longer_rows ≡ rows_by classes rows ++ replicate count []
  cells_longer =
      map-append (λ (r : Row). row_of classes r.class) rows (replicate count no_cells)
      ∙ ap (λ (l : List (List (List ℕ))). rows_by classes rows ++ l) (empty_rows classes count ∙ ap (replicate count) ix.first)

  pub index_longer : (now : ℕ → Option ℕ) → ((q : ℕ) → now q ≡ cond (nat_eq (class_at rows j) q) (Some (length homes)) (find q)) → AreIndexed classes longer_rows (homes ++ j ∷ []) now
  index_longer now is =
      record {
        some = ix.some;
        first = ix.first;
        differ = ix.differ;
        within = All-append (λ r. r.class < length classes) rows (replicate count no_cells) ix.within (All-replicate (λ r. r.class < length classes) count no_cells ix.some);
        counts = All-append (λ r. r.cells ≡ length (row_of classes r.class)) rows (replicate count no_cells) ix.counts (All-replicate (λ r. r.cells ≡ length (row_of classes r.class)) count no_cells (ap (λ (l : List (List ℕ)). length l) (sym ix.first)));
        states = subst (λ (keys : List ℕ). AreNumbered nat_eq keys now) all_keys
            (numbered_more nat_eq (map (class_at rows) homes) find now (class_at rows j) (class_at rows j) ix.states (λ q. refl)
            (λ q. is q ∙ ap (λ (n : ℕ). cond (nat_eq (class_at rows j) q) (Some n) (find q)) (sym (length-map homes (class_at rows)))));
      }
    where
      same : (h : ℕ) → h < length rows → class_at longer_rows h ≡ class_at rows h
      same h le = ap (λ (r : Row). r.class) (get_or-append rows (replicate count no_cells) no_cells h le)

      old_keys : map (class_at rows) homes ≡ map (class_at longer_rows) homes
      old_keys =
          ext_get_or 0 (map (class_at rows) homes) (map (class_at longer_rows) homes) (length-map homes (class_at rows) ∙ sym (length-map homes (class_at longer_rows))) (λ q le.
          let inside : q < length homes = (let s = length-map homes (class_at rows) in omega (arith, le, s)) in
          get_or-map (class_at rows) homes q 0 0 inside ∙ (sym (same (get_or homes q 0) (early q inside)) ∙ sym (get_or-map (class_at longer_rows) homes q 0 0 inside)))

      all_keys : map (class_at rows) homes ++ class_at rows j ∷ [] ≡ map (class_at longer_rows) (homes ++ j ∷ [])
      all_keys =
          ap (λ (l : List ℕ). l ++ class_at rows j ∷ []) old_keys
          ∙ (ap (λ (c : ℕ). map (class_at longer_rows) homes ++ c ∷ []) (sym (same j lt)) ∙ sym (map-append (class_at longer_rows) homes (j ∷ [])))
