-- What a log that was open does: it puts lines into its file, one behind the other, up to the first that isn't put.
use Rattle.std.specs.Prelude.{◌≡◌, ℕ, ◌==◌, ◌⊎◌, List, [], ◌∷◌, ◌++◌, length, flat_map, Option, None, Some, if◌then◌else◌}
use Rattle.lw_words.specs.Cause.{CountedFault}
use Rattle.lw_outside.specs.Logs.{LogFileState}
use Rattle.lw_log.specs.Lines.{cut_line, received_line, rest_line}
use Rattle.lw_log.specs.declared.log.LogState.{LogState}
use Rattle.lw_log.specs.declared.log.LogState.TheVariants.{Closed, Open, Failed}

-- what contracts see of a log: its file, and whether lines are put
pub record LogValue (L : Type 0) : Type 0 where
  pub file : L
  pub state : LogState

-- nothing was made and nothing put, since the file failed, which it counted
abbrev pub PutsNothing : LogFileState → LogFileState → Type 0
PutsNothing before now = (now.name ≡ before.name) × (now.text ≡ before.text) × CountedFault before.faults now.faults

-- the log of this name is made: it is open and empty, or the file failed
abbrev pub IsMade : List ℕ → LogState → LogFileState → LogFileState → Type 0
IsMade name Closed before now = ⊥
IsMade name Open before now = (now.name ≡ Some name) × (now.text ≡ []) × (now.faults ≡ before.faults)
IsMade name Failed before now = PutsNothing before now

-- lines are put: it is open and has them all behind what it had, or the file failed
abbrev pub Puts : List ℕ → LogState → LogFileState → LogFileState → Type 0
Puts lines Closed before now = ⊥
Puts lines Open before now = (now.name ≡ before.name) × (now.text ≡ before.text ++ lines) × (now.faults ≡ before.faults)
Puts lines Failed before now = PutsNothing before now

-- the same, or there was no memory for the lines, and the file wasn't touched
abbrev pub PutsIfMade : List ℕ → LogState → LogFileState → LogFileState → Type 0
PutsIfMade lines state before now = Puts lines state before now ⊎ ((state ≡ Failed) × (now ≡ before))

abbrev pub joined_lines : List (List ℕ) → List ℕ
joined_lines lines = flat_map (λ line. line) lines

-- some lines were put, from the first on, and one was not
abbrev pub PutsFront : List (List ℕ) → List ℕ → List ℕ → Type 0
PutsFront lines before now =
    (front : List (List ℕ)) × (line : List ℕ) × (rest : List (List ℕ)) × (lines ≡ front ++ line ∷ rest) × (now ≡ before ++ joined_lines front)

-- lines are put one by one: it is open and has them all, or it has a prefix of them, and the file failed or there was
-- no memory
abbrev pub PutsEach : List (List ℕ) → LogState → LogFileState → LogFileState → Type 0
PutsEach lines Closed before now = ⊥
PutsEach lines Open before now = (now.name ≡ before.name) × (now.text ≡ before.text ++ joined_lines lines) × (now.faults ≡ before.faults)
PutsEach lines Failed before now =
    (now.name ≡ before.name) × PutsFront lines before.text now.text × (CountedFault before.faults now.faults ⊎ (now.faults ≡ before.faults))

abbrev pub received_lines : Option (List ℕ) → List (List ℕ)
received_lines None = []
received_lines (Some line) = received_line line ∷ []

abbrev pub rest_lines : List ℕ → List (List ℕ)
rest_lines rest = if length rest == 0 then [] else rest_line rest ∷ []

-- the lines about a run that was cut: its letters, the last line that was received, and the bytes behind that
abbrev pub cut_lines : ℕ → List (List ℕ) → List ℕ → Option (List ℕ) → List ℕ → List (List ℕ)
cut_lines instance letters asked received rest =
    cut_line instance letters asked ∷ (received_lines received ++ rest_lines rest)
