-- The word of each cell of a table is in a batch.
use Rattle.std.proofs.Common.{◌≡◌, ℕ, zero, suc, ◌+◌, ◌-◌, List, [], ◌∷◌, ◌++◌, length, map, drop, get_or, Option, Some, None, Contains, refl, ap, sym, subst, arith}
use Rattle.std.specs.List.{All}
use Rattle.std.proofs.lemmas.Grind.{flat_map-append}
use Rattle.std.proofs.lemmas.List.{flat_map_more, get_or-map, length-map}
use Rattle.std.proofs.lemmas.List.Elements.{All-nil, All-cons, All-append, All-contains_itself, Contains-append_left, Contains-append_right}
use Rattle.lw_mealy.specs.Machine.{Rows}
use Rattle.lw_plain.specs.Table.{PlainTable, Search, extensions, row_words, row_cells, cell_words, first_new, first_table, unless_empty, close, with_access_word, with_suffix, with_batches, probe_batch, search_word, split_by}
use Rattle.lw_plain.specs.Rounds.{Task, IsRefinedTimes, IsRefined, asked_words, closed_by, hypothesis_of}
use Rattle.lw_plain.specs.Laws.{HoldCells, CellsAreAsked}
use Rattle.lw_plain.proofs.LawLemmas.{close_done, close_more}

pub weaker : {X : Type 0} (P Q : X → Type 0) (xs : List X) → ((x : X) → P x → Q x) → All P xs → All Q xs
weaker P Q xs f all k d lt = f (get_or xs k d) (all k d lt)

pub each_value : {X Y : Type 0} (P : X → Type 0) (f : Y → X) (ys : List Y) (e : X) → All P (map f ys) → All (λ y. P (f y)) ys
each_value P f ys e all k d lt = subst P (get_or-map f ys k d e lt) (all k e (let long = length-map ys f in omega arith))

-- more words
asked_left : (rows suffixes words more : List (List ℕ)) → HoldCells rows suffixes words → HoldCells rows suffixes (words ++ more)
asked_left rows suffixes words more all =
    weaker (λ r. All (λ e. Contains words (r ++ e)) suffixes) (λ r. All (λ e. Contains (words ++ more) (r ++ e)) suffixes) rows
    (λ r each. weaker (λ e. Contains words (r ++ e)) (λ e. Contains (words ++ more) (r ++ e)) suffixes (λ e here. Contains-append_left words more (r ++ e) here) each) all

asked_right : (rows suffixes words more : List (List ℕ)) → HoldCells rows suffixes more → HoldCells rows suffixes (words ++ more)
asked_right rows suffixes words more all =
    weaker (λ r. All (λ e. Contains more (r ++ e)) suffixes) (λ r. All (λ e. Contains (words ++ more) (r ++ e)) suffixes) rows
    (λ r each. weaker (λ e. Contains more (r ++ e)) (λ e. Contains (words ++ more) (r ++ e)) suffixes (λ e here. Contains-append_right words more (r ++ e) here) each) all

-- the words of some cells are asked where they are a batch
row_asked : (r : List ℕ) (suffixes : List (List ℕ)) → All (λ e. Contains (row_cells suffixes r) (r ++ e)) suffixes
row_asked r suffixes = each_value (Contains (row_cells suffixes r)) (λ (e : List ℕ). r ++ e) suffixes [] (All-contains_itself (row_cells suffixes r))

cells_asked : (rows suffixes : List (List ℕ)) → HoldCells rows suffixes (cell_words rows suffixes)
cells_asked [] suffixes = All-nil (λ r. All (λ e. Contains [] (r ++ e)) suffixes)
cells_asked (r ∷ rs) suffixes =
    let words = row_cells suffixes r ++ cell_words rs suffixes in
    All-cons (λ s. All (λ e. Contains words (s ++ e)) suffixes) r rs
    (weaker (λ e. Contains (row_cells suffixes r) (r ++ e)) (λ e. Contains words (r ++ e)) suffixes (λ e here. Contains-append_left (row_cells suffixes r) (cell_words rs suffixes) (r ++ e) here) (row_asked r suffixes))
    (asked_right rs suffixes (row_cells suffixes r) (cell_words rs suffixes) (cells_asked rs suffixes))

-- a batch more
pub batch_more : (batches : List (List (List ℕ))) (batch : List (List ℕ)) → asked_words batches ++ batch ≡ asked_words (batches ++ batch ∷ [])
batch_more batches batch = flat_map_more (λ (b : List (List ℕ)). b) [] batches batch

Filled : ℕ → PlainTable → Type 0
Filled a t = HoldCells (row_words a t.access) t.suffixes (asked_words t.batches)

filled_first : (a : ℕ) (given : List (List ℕ)) → Filled a (first_table a given)
unfolding Filled
filled_first a given =
    let rows = row_words a ([] ∷ []) in
    let letters = extensions a [] in
    let cells = cell_words rows letters in
    subst (HoldCells rows letters) (batch_more (unless_empty given) cells) (asked_right rows letters (asked_words (unless_empty given)) cells (cells_asked rows letters))

filled_access : (a : ℕ) (t : PlainTable) (w : List ℕ) → Filled a t → Filled a (with_access_word a t w)
unfolding Filled
filled_access a t w all =
    let words = asked_words t.batches in
    let rows = extensions a w in
    let cells = cell_words rows t.suffixes in
    let P : List ℕ → Type 0 = λ r. All (λ e. Contains (words ++ cells) (r ++ e)) t.suffixes in
    let both : All P (row_words a t.access ++ rows) = All-append P (row_words a t.access) rows (asked_left (row_words a t.access) t.suffixes words cells all) (asked_right rows t.suffixes words cells (cells_asked rows t.suffixes)) in
    let more : row_words a t.access ++ rows ≡ row_words a (t.access ++ w ∷ []) = ap (λ (rs : List (List ℕ)). [] ∷ rs) (flat_map_more (extensions a) [] t.access w) in
    subst (HoldCells (row_words a (t.access ++ w ∷ [])) t.suffixes) (batch_more t.batches cells) (subst (All P) more both)

filled_suffix : (a : ℕ) (t : PlainTable) (e : List ℕ) → Filled a t → Filled a (with_suffix a t e)
unfolding Filled
filled_suffix a t e all =
    let words = asked_words t.batches in
    let rows = row_words a t.access in
    let cells = cell_words rows (e ∷ []) in
    let old = asked_left rows t.suffixes words cells all in
    let new = asked_right rows (e ∷ []) words cells (cells_asked rows (e ∷ [])) in
    let both : HoldCells rows (t.suffixes ++ e ∷ []) (words ++ cells) =
    λ k d lt. All-append (λ f. Contains (words ++ cells) (get_or rows k d ++ f)) t.suffixes (e ∷ []) (old k d lt) (new k d lt) in
    subst (HoldCells rows (t.suffixes ++ e ∷ [])) (batch_more t.batches cells) both

filled_batches : (a : ℕ) (t : PlainTable) (more : List (List (List ℕ))) → Filled a t → Filled a (with_batches t more)
unfolding Filled
filled_batches a t more all =
    subst (HoldCells (row_words a t.access) t.suffixes) (sym (flat_map-append (λ (b : List (List ℕ)). b) t.batches more)) (asked_left (row_words a t.access) t.suffixes (asked_words t.batches) (asked_words more) all)

filled_by : (a : ℕ) (m : Rows) (n : ℕ) (t : PlainTable) (found : Option (List ℕ)) → first_new a m t ≡ found → ((s : PlainTable) → Filled a s → Filled a (close a m n s)) → Filled a t → Filled a (close a m (suc n) t)
filled_by a m n t None is less all = subst (Filled a) (sym (close_done a m (suc n) t is)) all
filled_by a m n t (Some w) is less all = subst (Filled a) (sym (close_more a m n t w is)) (less (with_access_word a t w) (filled_access a t w all))

filled_close : (a : ℕ) (m : Rows) (n : ℕ) (t : PlainTable) → Filled a t → Filled a (close a m n t)
filled_close a m zero t all = all
filled_close a m (suc n) t all = filled_by a m n t (first_new a m t) refl (filled_close a m n) all

filled_split : (a : ℕ) (h : Rows) (t : PlainTable) (w : List ℕ) (s : Search) → Filled a t → Filled a (split_by a h t w s)
filled_split a h t w s all =
    let probes : List (List (List ℕ)) = map (probe_batch h t.access w) s.tried in
    filled_suffix a (with_batches t probes) (drop (s.low + 1) w) (filled_batches a t probes all)

filled_refined : (task : Task) (t u : PlainTable) → IsRefined task t u → Filled task.letters t → Filled task.letters u
filled_refined task t u r all =
    let a = task.letters in
    let h = hypothesis_of task t in
    let asked = with_batches t r.asked in
    let s = search_word task.machine h t.access (length r.word) r.word in
    subst (Filled a) (sym r.is) (filled_close a task.machine (task.most - length t.access) (split_by a h asked r.word s) (filled_split a h asked r.word s (filled_batches a t r.asked all)))

filled_times : (task : Task) (n : ℕ) (start t : PlainTable) → Filled task.letters start → IsRefinedTimes task n start t → Filled task.letters t
filled_times task zero start t all is = subst (Filled task.letters) (sym is) all
filled_times task (suc n) start t all (b, after, refined) = filled_refined task b t refined (filled_times task n start b all after)

pub cells_are_asked : CellsAreAsked
unfolding Filled
cells_are_asked task given n t after =
    filled_times task n (closed_by task (first_table task.letters given)) t
    (filled_close task.letters task.machine (task.most - length (first_table task.letters given).access) (first_table task.letters given) (filled_first task.letters given)) after
