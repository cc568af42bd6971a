-- Suites by a table: what stands behind an access word with a middle word, by the state that is reached and by how many letters
-- the middle word has fewer than the longest.
use Rattle.std.specs.Prelude.{ℕ, ◌+◌, ◌-◌, List, [], ◌∷◌, ◌++◌, length, map, slice_index_or, nat_lt, if◌then◌else◌}
use Rattle.std.specs.List.{flat_map}
use Rattle.lw_mealy.specs.Machine.{Rows, after}
use Rattle.lw_chunks.specs.Middle.{each_with, words_of_length, words_up_to}

-- for each state and number of letters that are left, the numbers of words
abbrev pub Table : Type 0
Table = List (List (List ℕ))

-- the row of a state for this many letters that are left
abbrev pub row_for : Table → ℕ → ℕ → List ℕ
row_for table state left = slice_index_or (slice_index_or table state []) left []

-- the words of a list with these numbers
abbrev pub chosen : List (List ℕ) → List ℕ → List (List ℕ)
chosen words numbers = map (λ i. slice_index_or words i []) numbers

-- the words of this row; where the state has no such row, all words
abbrev pub words_behind : List (List ℕ) → Table → ℕ → ℕ → List (List ℕ)
words_behind ends table state left =
    if nat_lt left (length (slice_index_or table state [])) then chosen ends (row_for table state left) else ends

-- a prefix alone, and with each of these words
abbrev pub block : List ℕ → List (List ℕ) → List (List ℕ)
block front ends = map (λ end. front ++ end) ([] ∷ ends)

-- the words whose prefix is an access word u with a middle word v, of at most k + 1 letters
abbrev pub words_with : Rows → ℕ → List (List ℕ) → Table → List ℕ → List ℕ → List (List ℕ)
words_with h k ends table u v = block (u ++ v) (words_behind ends table (after h 0 (u ++ v)) (k + 1 - length v))

-- those of each prefix, first with the middle words of at most k letters, and then with those of k + 1
abbrev pub blocks_by : ℕ → Rows → ℕ → List (List ℕ) → List (List ℕ) → Table → List (List (List ℕ))
blocks_by a h k access ends table =
    each_with (words_with h k ends table) access (words_up_to a k) ++ each_with (words_with h k ends table) access (words_of_length a (k + 1))

abbrev pub suite_by : ℕ → Rows → ℕ → List (List ℕ) → List (List ℕ) → Table → List (List ℕ)
suite_by a h k access ends table = flat_map (λ words. words) (blocks_by a h k access ends table)
