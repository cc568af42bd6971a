-- The words of a table's rows, and how the table grows.
use Rattle.std.proofs.Common.{◌≡◌, ℕ, zero, suc, ◌+◌, ◌<◌, Bool, true, false, cond, List, [], ◌∷◌, ◌++◌, map, length, get_or, take, drop, Some, None, refl, sym, subst, arith, length-append}
use Rattle.std.specs.List.{All, find, flat_map, range_with_len}
use Rattle.std.proofs.lemmas.List.Elements.{All-nil, All-cons, All-head, All-tail, All-append, All-drop, All-map, All-push, All-from_get_or}
use Rattle.std.proofs.lemmas.List.FromFn.{length-range_with_len, get_or-range_with_len}
use Rattle.lw_words.specs.Word.{IsWord}
use Rattle.std.proofs.lemmas.Grind.{flat_map-append}
use Rattle.std.proofs.lemmas.List.{flat_map_more}
use Rattle.lw_mealy.specs.Machine.{Rows, after}
use Rattle.lw_cache.specs.Cut.{word_at}
use Rattle.lw_plain.specs.Table.{PlainTable, Search, extensions, row_words, row_cells, cell_words, is_new, first_new, first_table, unless_empty, with_access_word, with_suffix, with_batches, probe, probe_batch, split_by}
use Rattle.lw_plain.specs.Rounds.{asked_words}
use Rattle.lw_plain.specs.Over.{IsOver}

pub letters_below : (a : ℕ) → All (λ x. x < a) (range_with_len 0 a)
letters_below a = All-from_get_or (λ x. x < a) (range_with_len 0 a) 0 (λ i lt.
    let size : length (range_with_len 0 a) ≡ a = length-range_with_len 0 a in
    let here : get_or (range_with_len 0 a) i 0 ≡ 0 + i = get_or-range_with_len 0 a i 0 (omega arith) in
    omega arith)

pub All-weaker : {X : Type 0} (P Q : X → Type 0) (xs : List X) → ((x : X) → P x → Q x) → All P xs → All Q xs
All-weaker P Q xs f all k d lt = f (get_or xs k d) (all k d lt)

pub one_more : (a x : ℕ) (u : List ℕ) → x < a → IsWord a u → IsWord a (u ++ x ∷ [])
one_more a x u lt word = All-push (λ y. y < a) u x word lt

extensions_are_words : (a : ℕ) (u : List ℕ) → IsWord a u → All (IsWord a) (extensions a u)
extensions_are_words a u word = All-map (IsWord a) (λ (x : ℕ). u ++ x ∷ []) (range_with_len 0 a)
    (All-weaker (λ x. x < a) (λ x. IsWord a (u ++ x ∷ [])) (range_with_len 0 a) (λ x lt. one_more a x u lt word) (letters_below a))

all_extensions : (a : ℕ) (access : List (List ℕ)) → All (IsWord a) access → All (IsWord a) (flat_map (extensions a) access)
all_extensions a [] words = All-nil (IsWord a)
all_extensions a (u ∷ us) words = All-append (IsWord a) (extensions a u) (flat_map (extensions a) us) (extensions_are_words a u (All-head (IsWord a) u us words)) (all_extensions a us (All-tail (IsWord a) u us words))

pub rows_are_words : (a : ℕ) (access : List (List ℕ)) → All (IsWord a) access → All (IsWord a) (row_words a access)
rows_are_words a access words = All-cons (IsWord a) [] (flat_map (extensions a) access) (All-nil (λ x. x < a)) (all_extensions a access words)

-- what is found has what all have
found_by : {X : Type 0} (P : X → Type 0) (p : X → Bool) (x w : X) (xs : List X) (here : Bool) → p x ≡ here → P x → (find p xs ≡ Some w → P w) → cond here (Some x) (find p xs) ≡ Some w → P w
found_by P p x w xs true is holds later found = let same : x ≡ w = cc in subst P same holds
found_by P p x w xs false is holds later found = later found

pub found_has : {X : Type 0} (P : X → Type 0) (p : X → Bool) (xs : List X) (w : X) → All P xs → find p xs ≡ Some w → P w
found_has P p [] w all found = absurd (let e : None ≡ Some w = found in cc)
found_has P p (x ∷ xs) w all found = found_by P p x w xs (p x) refl (All-head P x xs all) (found_has P p xs w (All-tail P x xs all)) found

pub new_is_word : (a : ℕ) (m : Rows) (t : PlainTable) (w : List ℕ) → IsOver a t → first_new a m t ≡ Some w → IsWord a w
new_is_word a m t w over found = found_has (IsWord a) (is_new m t) (row_words a t.access) w (rows_are_words a t.access over.words) found

-- the words of the batches
abbrev Words : ℕ → List (List ℕ) → Type 0
Words a words = All (IsWord a) words

cells_of_row : (a : ℕ) (r : List ℕ) (suffixes : List (List ℕ)) → IsWord a r → Words a suffixes → Words a (row_cells suffixes r)
cells_of_row a r suffixes row all = All-map (IsWord a) (λ (e : List ℕ). r ++ e) suffixes (λ k d lt. All-append (λ x. x < a) r (get_or suffixes k d) row (all k d lt))

cells_are_words : (a : ℕ) (rows suffixes : List (List ℕ)) → Words a rows → Words a suffixes → Words a (cell_words rows suffixes)
cells_are_words a [] suffixes rows all = All-nil (IsWord a)
cells_are_words a (r ∷ rs) suffixes rows all =
    All-append (IsWord a) (row_cells suffixes r) (cell_words rs suffixes) (cells_of_row a r suffixes (All-head (IsWord a) r rs rows) all) (cells_are_words a rs suffixes (All-tail (IsWord a) r rs rows) all)

asked_push : (a : ℕ) (batches : List (List (List ℕ))) (batch : List (List ℕ)) → Words a (asked_words batches) → Words a batch → Words a (asked_words (batches ++ batch ∷ []))
asked_push a batches batch all more =
    subst (Words a) (flat_map_more (λ (b : List (List ℕ)). b) [] batches batch) (All-append (IsWord a) (asked_words batches) batch all more)

asked_batches : (a : ℕ) (batches : List (List (List ℕ))) → All (Words a) batches → Words a (asked_words batches)
asked_batches a [] all = All-nil (IsWord a)
asked_batches a (b ∷ bs) all = All-append (IsWord a) b (asked_words bs) (All-head (Words a) b bs all) (asked_batches a bs (All-tail (Words a) b bs all))

asked_more : (a : ℕ) (before more : List (List (List ℕ))) → Words a (asked_words before) → All (Words a) more → Words a (asked_words (before ++ more))
asked_more a before more all each =
    subst (Words a) (sym (flat_map-append (λ (b : List (List ℕ)). b) before more)) (All-append (IsWord a) (asked_words before) (asked_words more) all (asked_batches a more each))

pub over_access : (a : ℕ) (t : PlainTable) (w : List ℕ) → IsOver a t → IsWord a w → IsOver a (with_access_word a t w)
over_access a t w over word = record {
  some = let long = over.some in omega (arith, length-append t.access (w ∷ []));
  words = All-push (IsWord a) t.access w over.words word;
  suffixes = over.suffixes;
  asked = asked_push a t.batches (cell_words (extensions a w) t.suffixes) over.asked (cells_are_words a (extensions a w) t.suffixes (extensions_are_words a w word) over.suffixes);
}

pub over_suffix : (a : ℕ) (t : PlainTable) (e : List ℕ) → IsOver a t → IsWord a e → IsOver a (with_suffix a t e)
over_suffix a t e over word = record {
  some = over.some;
  words = over.words;
  suffixes = All-push (IsWord a) t.suffixes e over.suffixes word;
  asked = asked_push a t.batches (cell_words (row_words a t.access) (e ∷ [])) over.asked
      (cells_are_words a (row_words a t.access) (e ∷ []) (rows_are_words a t.access over.words) (All-cons (IsWord a) e [] word (All-nil (IsWord a))));
}

pub over_batches : (a : ℕ) (t : PlainTable) (more : List (List (List ℕ))) → IsOver a t → All (Words a) more → IsOver a (with_batches t more)
over_batches a t more over each = record {
  some = over.some;
  words = over.words;
  suffixes = over.suffixes;
  asked = asked_more a t.batches more over.asked each;
}

-- the first table, where the words that are given are over the letters
given_words : (a : ℕ) (given : List (List ℕ)) → Words a given → Words a (asked_words (unless_empty given))
given_words a [] all = All-nil (IsWord a)
given_words a (w ∷ ws) all = All-append (IsWord a) (w ∷ ws) [] all (All-nil (IsWord a))

pub over_first : (a : ℕ) (given : List (List ℕ)) → Words a given → IsOver a (first_table a given)
over_first a given all =
    let empty : IsWord a [] = All-nil (λ x. x < a) in
    let access : Words a ([] ∷ []) = All-cons (IsWord a) [] [] empty (All-nil (IsWord a)) in
    let letters : Words a (extensions a []) = extensions_are_words a [] empty in
    record {
      some = omega arith;
      words = access;
      suffixes = letters;
      asked = asked_push a (unless_empty given) (cell_words (row_words a ([] ∷ [])) (extensions a [])) (given_words a given all) (cells_are_words a (row_words a ([] ∷ [])) (extensions a []) (rows_are_words a ([] ∷ []) access) letters);
    }

-- probes are over the letters
word_at_word : (a : ℕ) (words : List (List ℕ)) (q : ℕ) → Words a words → IsWord a (word_at words q)
word_at_word a [] q all = All-nil (λ x. x < a)
word_at_word a (w ∷ ws) zero all = All-head (IsWord a) w ws all
word_at_word a (w ∷ ws) (suc q) all = word_at_word a ws q (All-tail (IsWord a) w ws all)

pub probe_is_word : (a : ℕ) (h : Rows) (access : List (List ℕ)) (w : List ℕ) (i : ℕ) → Words a access → IsWord a w → IsWord a (probe h access w i)
probe_is_word a h access w i words word =
    All-append (λ x. x < a) (word_at access (after h 0 (take i w))) (drop i w) (word_at_word a access (after h 0 (take i w)) words) (All-drop (λ x. x < a) i w word)

-- a table once it is split by a word
pub over_split : (a : ℕ) (h : Rows) (t : PlainTable) (w : List ℕ) (s : Search) → IsOver a t → IsWord a w → IsOver a (split_by a h t w s)
over_split a h t w s over word =
    let batch : (i : ℕ) → Words a (probe_batch h t.access w i) = λ i. All-cons (IsWord a) (probe h t.access w i) [] (probe_is_word a h t.access w i over.words word) (All-nil (IsWord a)) in
    let probes : List (List (List ℕ)) = map (probe_batch h t.access w) s.tried in
    over_suffix a (with_batches t probes) (drop (s.low + 1) w) (over_batches a t probes over (All-map (Words a) (probe_batch h t.access w) s.tried (λ k d lt. batch (get_or s.tried k d)))) (All-drop (λ x. x < a) (s.low + 1) w word)
