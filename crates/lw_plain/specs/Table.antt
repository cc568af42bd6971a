-- A learner as a function of the machine that it learns: its table. Nothing is kept, claimed or shared: each output is the machine's.
-- Source: Angluin (1987), with outputs for cells as in Niese (2003). The order of rows, cells and batches is this project's.
--
-- Everywhere m are the rows of the machine that is learned, and a is its number of letters.
use Rattle.std.specs.Prelude.{ℕ, zero, suc, ◌+◌, ◌-◌, ◌/◌, Bool, not, cond, bytes_eq, nat_lt, List, [], ◌∷◌, ◌++◌, map, take, drop, Option, option_map, unwrap_or}
use Rattle.std.specs.List.{find, flat_map, list_all, list_any, position_or_len, range_with_len}
use Rattle.lw_mealy.specs.Machine.{Rows, after, out, output, answer}
use Rattle.lw_cache.specs.Cut.{word_at}

-- the access words, the suffixes, and the batches of words that were asked. The cell of each row and each suffix is filled: its word is
-- in a batch.
pub record PlainTable : Type 0 where
  pub access : List (List ℕ)
  pub suffixes : List (List ℕ)
  pub batches : List (List (List ℕ))

-- a word followed by each letter
abbrev pub extensions : ℕ → List ℕ → List (List ℕ)
extensions a u = map (λ x. u ++ x ∷ []) (range_with_len 0 a)

-- the words of the rows: the empty word, then the extensions of each access word in turn. Each other access word is one of them.
abbrev pub row_words : ℕ → List (List ℕ) → List (List ℕ)
row_words a access = [] ∷ flat_map (extensions a) access

-- the words of the cells of a row, and of some rows, row by row
abbrev pub row_cells : List (List ℕ) → List ℕ → List (List ℕ)
row_cells suffixes r = map (λ e. r ++ e) suffixes

abbrev pub cell_words : List (List ℕ) → List (List ℕ) → List (List ℕ)
cell_words rows suffixes = flat_map (row_cells suffixes) rows

-- the cell of a row and a suffix: the outputs on the suffix behind the row's word
abbrev pub outputs_behind : Rows → List ℕ → List ℕ → List ℕ
outputs_behind m r e = out m (after m 0 r) e

abbrev pub has_same_cell : Rows → List ℕ → List ℕ → List ℕ → Bool
has_same_cell m u v e = bytes_eq (outputs_behind m u e) (outputs_behind m v e)

abbrev pub has_same_row : Rows → List (List ℕ) → List ℕ → List ℕ → Bool
has_same_row m suffixes u v = list_all (has_same_cell m u v) suffixes

-- no access word has the row of this word
abbrev pub is_new : Rows → PlainTable → List ℕ → Bool
is_new m t r = not (list_any (has_same_row m t.suffixes r) t.access)

-- the first row that is new; there is none in a closed table
abbrev pub first_new : ℕ → Rows → PlainTable → Option (List ℕ)
first_new a m t = find (is_new m t) (row_words a t.access)

-- an access word more: the cells of its extensions are asked
abbrev pub with_access_word : ℕ → PlainTable → List ℕ → PlainTable
with_access_word a t r = record {
  access = t.access ++ r ∷ [];
  suffixes = t.suffixes;
  batches = t.batches ++ cell_words (extensions a r) t.suffixes ∷ [];
}

-- a suffix more: its cell in each row is asked
abbrev pub with_suffix : ℕ → PlainTable → List ℕ → PlainTable
with_suffix a t e = record {
  access = t.access;
  suffixes = t.suffixes ++ e ∷ [];
  batches = t.batches ++ cell_words (row_words a t.access) (e ∷ []) ∷ [];
}

-- more batches, and nothing else
abbrev pub with_batches : PlainTable → List (List (List ℕ)) → PlainTable
with_batches t more = record { access = t.access; suffixes = t.suffixes; batches = t.batches ++ more }

-- a batch, unless it is empty
abbrev pub unless_empty : List (List ℕ) → List (List (List ℕ))
unless_empty [] = []
unless_empty (w ∷ ws) = (w ∷ ws) ∷ []

-- the table of the empty word, with the letters for suffixes; words that are given are asked first
abbrev pub first_table : ℕ → List (List ℕ) → PlainTable
first_table a given =
    let letters : List (List ℕ) = extensions a [] in
    record {
      access = [] ∷ [];
      suffixes = letters;
      batches = unless_empty given ++ cell_words (row_words a ([] ∷ [])) letters ∷ [];
    }

-- the table is closed: the first row that is new becomes an access word, as often as there is one, but no more than n times
abbrev pub close : ℕ → Rows → ℕ → PlainTable → PlainTable
close a m zero t = t
close a m (suc n) t = unwrap_or (option_map (λ r. close a m n (with_access_word a t r)) (first_new a m t)) t

-- the state of a row: the number of the access word that has it
abbrev pub row_state : Rows → PlainTable → List ℕ → ℕ
row_state m t r = position_or_len (has_same_row m t.suffixes r) t.access

-- what the state of an access word does at a letter, and at each
abbrev pub transition_of : Rows → PlainTable → List ℕ → ℕ → ℕ × ℕ
transition_of m t u x = (row_state m t (u ++ x ∷ []), output m (after m 0 u) x)

abbrev pub transitions_of : ℕ → Rows → PlainTable → List ℕ → List (ℕ × ℕ)
transitions_of a m t u = map (transition_of m t u) (range_with_len 0 a)

-- the machine of a closed table: a state for each access word
abbrev pub machine_of : ℕ → Rows → PlainTable → Rows
machine_of a m t = map (transitions_of a m t) t.access

-- Where a counterexample is cut. Source: the binary search of Rivest and Schapire (1993).

-- a word with its first i letters replaced by the access word of the state that they lead to
abbrev pub probe : Rows → List (List ℕ) → List ℕ → ℕ → List ℕ
probe m access w i = word_at access (after m 0 (take i w)) ++ drop i w

-- the places of a word between which the search goes on, and those that it tried
pub record Search : Type 0 where
  pub low : ℕ
  pub high : ℕ
  pub tried : List ℕ

abbrev pub middle_of : Search → ℕ
middle_of s = s.low + (s.high - s.low) / 2

-- the half that is left once the middle was tried: the lower one where the machines agree there
abbrev pub halved : (ℕ → Bool) → Search → Search
halved agrees s =
    let middle : ℕ = middle_of s in
    record {
      low = cond (agrees middle) s.low middle;
      high = cond (agrees middle) middle s.high;
      tried = s.tried ++ middle ∷ [];
    }

-- places are tried until two neighbours are left, but no more than n
abbrev pub search_cut : (ℕ → Bool) → ℕ → Search → Search
search_cut agrees zero s = s
search_cut agrees (suc n) s = cond (nat_lt 1 (s.high - s.low)) (search_cut agrees n (halved agrees s)) s

-- whether a machine h has the outputs of m on a word
abbrev pub agrees_on : Rows → Rows → List ℕ → Bool
agrees_on m h w = bytes_eq (answer h w) (answer m w)

-- the same on the probe of a word at a place
abbrev pub agrees_at : Rows → Rows → List (List ℕ) → List ℕ → ℕ → Bool
agrees_at m h access w i = agrees_on m h (probe h access w i)

-- the search over the probes of a word of n letters
abbrev pub search_word : Rows → Rows → List (List ℕ) → ℕ → List ℕ → Search
search_word m h access n w =
    let whole : Search = record { low = 0; high = n; tried = [] } in
    search_cut (agrees_at m h access w) n whole

-- the batch of a probe
abbrev pub probe_batch : Rows → List (List ℕ) → List ℕ → ℕ → List (List ℕ)
probe_batch h access w i = probe h access w i ∷ []

-- the table once a search is done: each probe was asked, then what is behind the cut becomes a suffix
abbrev pub split_by : ℕ → Rows → PlainTable → List ℕ → Search → PlainTable
split_by a h t w s = with_suffix a (with_batches t (map (probe_batch h t.access w) s.tried)) (drop (s.low + 1) w)
