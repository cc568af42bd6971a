-- Places in a suite by a table, and the words that are left from one on.
use Rattle.std.specs.Prelude.{◌≡◌, ℕ, ◌+◌, ◌-◌, ◌^◌, ◌<◌, ◌≤◌, List, [], ◌∷◌, ◌++◌, length, drop, slice_index_or}
use Rattle.std.specs.List.{flat_map}
use Rattle.lw_words.specs.Word.{IsWord}
use Rattle.lw_mealy.specs.Machine.{IsMachine}
use Rattle.lw_separate.specs.Canonical.{AreLeastAccess}
use Rattle.lw_separate.specs.Separators.{IsSeparators}
use Rattle.lw_chunks.specs.Size.{powers, suite_size, greatest_suite}
use Rattle.lw_chunks.specs.Middle.{each_with, words_of_length, words_up_to}
use Rattle.lw_chunks.specs.declared.chunks.Place.{Place}
use Rattle.lw_wp.specs.Tables.{Table, block, blocks_by, words_behind, words_with}
use Rattle.lw_wp.specs.bodies.Tables.{IsTable, numbers_in}
use Rattle.lw_wp.specs.declared.parts.Parts.{Parts}
use Rattle.lw_wp.specs.declared.parts.Row.{Row}
use Rattle.lw_wp.specs.declared.cursor.Cursor.{Cursor}

abbrev pub table_of : Parts → Table
table_of p = numbers_in p.behind

-- the words with an access word and a middle word of at most k letters, for each such prefix
abbrev pub shorter_blocks : Parts → List (List (List ℕ))
shorter_blocks p = each_with (words_with p.machine.rows p.extra p.ends (table_of p)) p.access (words_up_to p.machine.inputs p.extra)

-- and of k + 1
abbrev pub longest_blocks : Parts → List (List (List ℕ))
longest_blocks p = each_with (words_with p.machine.rows p.extra p.ends (table_of p)) p.access (words_of_length p.machine.inputs (p.extra + 1))

-- the words of the suite, those with one prefix as a list of their own
abbrev pub blocks : Parts → List (List (List ℕ))
blocks p = blocks_by p.machine.inputs p.machine.rows p.extra p.access p.ends (table_of p)

-- the words from a place on
abbrev pub left_from : Parts → Place → List (List ℕ)
left_from p at = drop at.end (flat_map (λ words. words) (drop at.front (blocks p)))

-- all of them
abbrev pub words_of : Parts → List (List ℕ)
words_of p = flat_map (λ words. words) (blocks p)

-- the words behind a prefix, by its row of the table
abbrev pub ends_behind : Parts → Row → List (List ℕ)
ends_behind p row = words_behind p.ends (table_of p) row.state row.left

-- what stands behind the prefix at a cursor: nothing, or one of these
abbrev pub end_of : Parts → Cursor → List ℕ
end_of p c = slice_index_or ([] ∷ ends_behind p c.row) c.place.end []

-- what a suite is made of, for a machine whose suite isn't too large
pub record AreParts (p : Parts) : Type 0 where
  pub machine : IsMachine p.machine.inputs p.machine.rows
  pub letters : p.machine.inputs ≤ 64
  pub few : p.extra ≤ 4
  pub least : AreLeastAccess p.machine.inputs p.machine.rows p.access
  pub separating : IsSeparators p.machine.inputs p.machine.rows p.ends
  pub short : length p.ends < length p.machine.rows
  pub table : IsTable p.machine.rows p.ends (table_of p)
  pub shorter : p.shorter ≡ powers p.machine.inputs p.extra
  pub longest : p.longest ≡ p.machine.inputs ^ (p.extra + 1)
  pub bounded : suite_size (length p.machine.rows) p.machine.inputs p.extra ≤ greatest_suite

-- the prefix with this number is an access word and a middle word of at most k + 1 letters, by their numbers
pub record SplitsFront (p : Parts) (front access middle : ℕ) : Type 0 where
  pub access_within : access < length p.access
  pub middle_within : middle < powers p.machine.inputs (p.extra + 1)
  pub joined : slice_index_or (blocks p) front []
      ≡ words_with p.machine.rows p.extra p.ends (table_of p) (slice_index_or p.access access []) (slice_index_or (words_up_to p.machine.inputs (p.extra + 1)) middle [])

-- the word is the prefix with this number, an access word with a middle word of this many letters fewer than the
-- longest
pub record SpellsFront (p : Parts) (number : ℕ) (word : List ℕ) (left : ℕ) : Type 0 where
  pub access : List ℕ
  pub middle : List ℕ
  pub joined : word ≡ access ++ middle
  pub fewer : left ≡ p.extra + 1 - length middle
  pub letters : IsWord p.machine.inputs word
  pub words : slice_index_or (blocks p) number [] ≡ words_with p.machine.rows p.extra p.ends (table_of p) access middle

-- a place of a word, or the one behind the last word
pub record IsWithin (p : Parts) (at : Place) : Type 0 where
  pub front : at.front ≤ length (blocks p)
  pub «end» : at.front < length (blocks p) → at.end < length (slice_index_or (blocks p) at.front [])

-- the word is the prefix with this number, behind which stand the words of this row; past the last prefix it may be any
abbrev pub IsFrontAt : Parts → ℕ → List ℕ → Row → Type 0
IsFrontAt p number front row = number < length (blocks p) → slice_index_or (blocks p) number [] ≡ block front (ends_behind p row)

-- a place with its prefix and what stands behind it
pub record IsCursor (p : Parts) (c : Cursor) : Type 0 where
  pub within : IsWithin p c.place
  pub state : c.row.state < length p.machine.rows
  pub front : IsFrontAt p c.place.front c.front c.row
