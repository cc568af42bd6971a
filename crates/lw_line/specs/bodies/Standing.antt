-- The state of a child system.
use Rattle.std.specs.Prelude.{◌≡◌, ℕ, List, [], ◌∷◌, ◌++◌, Bool, true, false, Option, Some, None}
use Rattle.std.specs.List.{All}
use Rattle.std.specs.Str.Lines.{strip_carriage_return}
use Rattle.lw_words.specs.declared.stop.SulStop.{SulStop}
use Rattle.lw_sul.specs.declared.runs.Run.{Run}
use Rattle.lw_outside.specs.Links.{Transcript}
use Rattle.lw_outside.specs.Played.{ended_lines}
use Rattle.lw_outside.specs.Protocol.{reset_line}
use Rattle.lw_line.specs.Transcripts.{IsSentLine, exchanged}
use Rattle.lw_line.specs.Causes.{IsTranscriptOf, StopIsCounted}
use Rattle.lw_line.specs.bodies.Pieces.{NoFeed}

-- lines that were sent, each with its answer, add runs so
abbrev pub Spells : (inputs outputs : List (List ℕ)) → List Run → (sent received : List (List ℕ)) → List Run → Type 0
Spells inputs outputs rs [] [] now = rs ≡ now
Spells inputs outputs rs [] (r ∷ rr) now = ⊥
Spells inputs outputs rs (s ∷ ss) [] now = ⊥
Spells inputs outputs rs (s ∷ ss) (r ∷ rr) now = (mid : List Run) × (exchanged inputs outputs rs s (strip_carriage_return r) ≡ Some mid) × Spells inputs outputs mid ss rr now

-- the first line, where there is one, is a reset; there is one where the system began
abbrev pub BeginsWell : Bool → List (List ℕ) → Type 0
BeginsWell false [] = Unit {0}
BeginsWell true [] = ⊥
BeginsWell started (line ∷ more) = line ≡ reset_line

-- all that was sent is answered, and these bytes came early
pub record IsLive (inputs names : List (List ℕ)) (started : Bool) (held : List ℕ) (t : Transcript) : Type 0 where
  pub lines : List (List ℕ)
  pub answers : List (List ℕ)
  pub runs : List Run
  pub sent : t.sent ≡ ended_lines lines
  pub received : t.received ≡ ended_lines answers ++ held
  pub each : All (IsSentLine inputs) lines
  pub begins : BeginsWell started lines
  pub plain_lines : All NoFeed lines
  pub plain_answers : All NoFeed answers
  pub spells : Spells inputs names [] lines answers runs

-- what is observed of the link of a system that hasn't stopped
abbrev pub IsToldLive : (inputs names : List (List ℕ)) → Bool → List ℕ → Option Transcript → Type 0
IsToldLive inputs names started held None = Unit {0}
IsToldLive inputs names started held (Some t) = IsLive inputs names started held t

-- what is observed of the link of a system, until it stops and from then on
abbrev pub IsTold : (inputs names : List (List ℕ)) (most faults : ℕ) → Bool → List ℕ → Option SulStop → (cut : Bool) → Option Transcript → Type 0
IsTold inputs names most faults started held None cut told = IsToldLive inputs names started held told
IsTold inputs names most faults started held (Some stop) cut told = IsTranscriptOf inputs names most faults (Some stop) cut told

pub record Stands (inputs names : List (List ℕ)) (most faults ends : ℕ) (started : Bool) (held : List ℕ) (stop : Option SulStop) (cut : Bool) (told : Option Transcript) : Type 0 where
  pub counted : StopIsCounted faults ends stop
  pub link : IsTold inputs names most faults started held stop cut told
