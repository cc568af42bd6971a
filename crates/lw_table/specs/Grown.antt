-- What a call that asks leaves of a table.
use Rattle.std.specs.Prelude.{◌≡◌, ◌⊎◌, ℕ, ◌+◌, ◌<◌, ◌≤◌, List, [], ◌∷◌, ◌++◌, length, Contains, Result, Err, OnOk, OnErr, ⊤}
use Rattle.lw_words.specs.Word.{Answer}
use Rattle.lw_cache.specs.Crowd.{IsCrowd}
use Rattle.lw_cache.specs.Cut.{word_at}
use Rattle.lw_cache.specs.declared.stops.GrowStop.{GrowStop}
use Rattle.lw_cache.specs.declared.stops.GrowStop.TheVariants.{Crowd}
use Rattle.lw_table.specs.Table.{TableState, row_at, home_at, IsTable, CellsAreRead, IsClosedTable}

-- the same numbers, more access words at the end, rows that go on as they began, access words whose rows are where they were,
-- and cells that are what the answers say; cells are filled together: the rows that were there are as they were, or each has a
-- cell for each suffix, and a row that is new has none or one for each
pub record HasGrown (ks : List Answer) (before now : TableState) : Type 0 where
  pub inputs : now.inputs ≡ before.inputs
  pub outputs : now.outputs ≡ before.outputs
  pub most : now.most ≡ before.most
  pub more : List (List ℕ)
  pub access : now.access ≡ before.access ++ more
  pub rows : (j : ℕ) → (cells : List (List ℕ)) × (row_at now j ≡ row_at before j ++ cells)
  pub longer : length before.cells ≤ length now.cells
  pub whole : ((j : ℕ) → row_at now j ≡ row_at before j) ⊎ ((j : ℕ) → j < length before.cells → length (row_at now j) ≡ length now.suffixes)
  pub each_new : (j : ℕ) → length before.cells ≤ j → j < length now.cells → (row_at now j ≡ []) ⊎ (length (row_at now j) ≡ length now.suffixes)
  pub homes : (q : ℕ) → q < length before.access → home_at now q ≡ home_at before q
  pub table : IsTable now
  pub read : CellsAreRead ks now

-- the words are as many as there may be states, and one more; they are the access words and an extension of one of them; and
-- any two are apart
pub record IsCrowdOf (ks : List Answer) (t : TableState) (words : List (List ℕ)) : Type 0 where
  pub count : length words ≡ t.most + 1
  pub state : ℕ
  pub letter : ℕ
  pub from : state < length t.access
  pub small : letter < t.inputs
  pub all : words ≡ t.access ++ (word_at t.access state ++ letter ∷ []) ∷ []
  pub apart : IsCrowd ks words

abbrev pub TellsCrowd : List Answer → TableState → Result ⊤ GrowStop → Type 0
TellsCrowd ks now result = (words : List (List ℕ)) → result ≡ Err (Crowd words) → IsCrowdOf ks now words

-- the word of a row: the empty one, or an access word followed by a letter, as each other access word is
abbrev pub IsWordOfRow : ℕ → List (List ℕ) → List ℕ → Type 0
IsWordOfRow a access w = (w ≡ []) ⊎ ((q : ℕ) × (x : ℕ) × (q < length access) × (x < a) × (w ≡ word_at access q ++ x ∷ []))

-- the word of a cell, over this many letters, by the access words and the suffixes: that of a row, followed by a suffix
pub record IsCellWord (a : ℕ) (access suffixes : List (List ℕ)) (w : List ℕ) : Type 0 where
  pub row : List ℕ
  pub suffix : List ℕ
  pub of_row : IsWordOfRow a access row
  pub in_table : Contains suffixes suffix
  pub word : w ≡ row ++ suffix

-- the word of a cell of a table
abbrev pub IsCellWordOf : TableState → List ℕ → Type 0
IsCellWordOf t w = IsCellWord t.inputs t.access t.suffixes w

-- a table once it was to be closed
pub record HasClosed (ks : List Answer) (before now : TableState) (result : Result ⊤ GrowStop) : Type 0 where
  pub grown : HasGrown ks before now
  pub closed : OnOk result (IsClosedTable now)
  pub suffixes : now.suffixes ≡ before.suffixes
  pub refinements : now.refinements ≡ before.refinements
  pub crowd : TellsCrowd ks now result

-- a table once it was to be refined with a suffix; where it was refused, the suffix may have been added
pub record HasRefined (ks : List Answer) (suffix : List ℕ) (before now : TableState) (result : Result ⊤ GrowStop) : Type 0 where
  pub grown : HasGrown ks before now
  pub closed : OnOk result (IsClosedTable now)
  pub split : OnOk result (length before.access < length now.access)
  pub added : OnOk result (now.suffixes ≡ before.suffixes ++ suffix ∷ [])
  pub left : OnErr result ((now.suffixes ≡ before.suffixes) ⊎ (now.suffixes ≡ before.suffixes ++ suffix ∷ []))
  pub refined : OnOk result (now.refinements ≡ before.refinements + 1)
  pub refused : OnErr result (now.refinements ≡ before.refinements)
  pub crowd : TellsCrowd ks now result
