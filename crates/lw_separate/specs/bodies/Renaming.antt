-- A machine with its states renamed: how equal states are merged and how states are numbered.
use Rattle.std.specs.Prelude.{◌≡◌, ℕ, ◌<◌, ◌≤◌, List, [], length, slice_index, slice_index_or, Option, Some, None}
use Rattle.lw_words.specs.Word.{IsWord}
use Rattle.lw_mealy.specs.Machine.{Rows, IsMachine, out, next, output, cell, Differ}
use Rattle.lw_separate.specs.Canonical.{IsCanonical}

-- r is the least state that agrees with q on all words
pub record StandsFor (a : ℕ) (m : Rows) (q r : ℕ) : Type 0 where
  pub state : r < length m
  pub agrees : (w : List ℕ) → IsWord a w → out m r w ≡ out m q w
  pub least : (p : ℕ) → p < r → Differ a m p q

-- each target is the state that stands for it
pub record Merges (a : ℕ) (m h : Rows) : Type 0 where
  pub machine : IsMachine a h
  pub long : length h ≡ length m
  pub outputs : (q x : ℕ) → q < length m → x < a → output h q x ≡ output m q x
  pub targets : (q x : ℕ) → q < length m → x < a → StandsFor a m (next m q x) (next h q x)

-- the machine is canonical for each of which the other is the merged one
abbrev pub Numbers : ℕ → Rows → Rows → Type 0
Numbers a h c = (m : Rows) → Merges a m h → IsCanonical a m c

-- the pair of a state at a letter, with the target renamed
abbrev pub renamed : Rows → List ℕ → ℕ → ℕ → ℕ × ℕ
renamed m names q x = (slice_index names (next m q x), output m q x)

-- these states can be the rows of a machine whose targets are renamed so
pub record CanRename (a : ℕ) (m : Rows) (states names : List ℕ) : Type 0 where
  pub some : 0 < length states
  pub few : length states ≤ 1024
  pub named : length names ≡ length m
  pub within : (k : ℕ) → k < length states → slice_index states k < length m
  pub closed : (k x : ℕ) → k < length states → x < a
      → slice_index names (next m (slice_index states k) x) < length states

-- the row of each of these states, in their order, with the targets renamed
pub record Renames (a : ℕ) (m : Rows) (states names : List ℕ) (c : Rows) : Type 0 where
  pub machine : IsMachine a c
  pub long : length c ≡ length states
  pub cells : (k x : ℕ) → k < length states → x < a
      → cell c k x ≡ renamed m names (slice_index states k) x

-- a row with its targets renamed
pub record RenamesRow (a : ℕ) (m : Rows) (names : List ℕ) (q : ℕ) (r : List (ℕ × ℕ)) : Type 0 where
  pub long : length r ≡ a
  pub cells : (x : ℕ) → x < a → slice_index_or r x (0, 0) ≡ renamed m names q x

-- one such row for each of the states
pub record RenamesRows (a : ℕ) (m : Rows) (states names : List ℕ) (rows : Rows) : Type 0 where
  pub long : length rows ≡ length states
  pub each : (k : ℕ) → k < length rows
      → RenamesRow a m names (slice_index states k) (slice_index_or rows k [])

-- each state in its place
pub record IsAllStates (m : Rows) (states : List ℕ) : Type 0 where
  pub long : length states ≡ length m
  pub each : (k : ℕ) → k < length states → slice_index states k ≡ k

-- each state is named by the one that stands for it
pub record NamesStates (a : ℕ) (m : Rows) (names : List ℕ) : Type 0 where
  pub long : length names ≡ length m
  pub each : (k : ℕ) → k < length names → StandsFor a m k (slice_index names k)

-- each state that has a place is named by it
abbrev pub NamesPlaces : List (Option ℕ) → List ℕ → Type 0
NamesPlaces places names = (q k : ℕ) → slice_index_or places q None ≡ Some k
    → slice_index names q ≡ k
