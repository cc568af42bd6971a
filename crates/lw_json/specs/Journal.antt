-- The text of a journal: lines of JSON, of which the first is a head and the others are heads or runs.
use Rattle.std.specs.Prelude.{◌≡◌, ℕ, List, [], ◌∷◌, ◌++◌, Bool, codes, ◌==◌}
use Rattle.std.specs.List.{starts_with}
use Rattle.serde_json.specs.Data.{Data, number, unsigned, object, member, no_members}
use Rattle.serde_json.specs.Written.{compact_text}
use Rattle.lw_json.specs.MachineText.{texts_data}

-- what a journal begins with: the head of its first line
abbrev pub journal_start : List ℕ
journal_start = codes "{\"format\":3,"

-- the bytes are those of a journal
abbrev pub is_journal : List ℕ → Bool
is_journal bytes = starts_with (λ a b. a == b) bytes journal_start

-- a head: format 3, and the names of the inputs
abbrev pub head_data : List (List ℕ) → Data
head_data inputs = object (member (codes "format") (number (unsigned 3)) (member (codes "inputs") (texts_data inputs) no_members))

-- serde_json's compact text of the value, and a line feed
abbrev pub IsJournalLine : Data → List ℕ → Type 0
IsJournalLine d text = text ≡ compact_text d ++ 10 ∷ []
