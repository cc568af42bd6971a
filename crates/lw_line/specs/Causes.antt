-- Why a child system stopped.
use Rattle.std.specs.Prelude.{◌≡◌, ◌≢◌, ◌⊎◌, ℕ, ◌+◌, List, [], ◌∷◌, ◌++◌, length, slice_get, Contains, Bool, Option, Some, None}
use Rattle.std.specs.List.{All}
use Rattle.std.specs.Str.Lines.{strip_carriage_return}
use Rattle.lw_words.specs.Cause.{CountedFault}
use Rattle.lw_words.specs.Word.{IsName}
use Rattle.lw_words.specs.declared.stop.SulStop.{SulStop}
use Rattle.lw_words.specs.declared.stop.SulStop.TheVariants.{Failed, BadLine, Gone}
use Rattle.lw_outside.specs.Lines.{lines_of, rest_of}
use Rattle.lw_outside.specs.Links.{Transcript}
use Rattle.lw_outside.specs.Protocol.{reset_line, ready_line, in_line, out_line}
use Rattle.lw_line.specs.Transcripts.{BreaksIn, IsProper, SpellsAll}

-- an answer is in the grammar for its place: a child is ready after a reset, and names an output after a letter
abbrev pub IsFormed : (sent answer : List ℕ) → Type 0
IsFormed sent answer = ((sent ≡ reset_line) × (answer ≡ ready_line)) ⊎ ((sent ≢ reset_line) × ((name : List ℕ) × IsName name × (answer ≡ out_line name)))

-- an answer names an output that isn't in the list, which may have no more names
abbrev pub IsUnknown : List (List ℕ) → ℕ → List ℕ → Type 0
IsUnknown names most answer = (name : List ℕ) × IsName name × (answer ≡ out_line name) × (¬ Contains names name) × (length names ≡ most)

-- the answer to a letter named this output
abbrev pub IsToldName : Transcript → List ℕ → Type 0
IsToldName t name =
    (i : ℕ)
    × ((letter raw : List ℕ) × (slice_get (lines_of t.sent) i ≡ Some (in_line letter)) × (slice_get (lines_of t.received) i ≡ Some raw)
    × (strip_carriage_return raw ≡ out_line name))

-- where it is observed what went over a link, answers to letters named all of these outputs
abbrev pub AreToldNames : List (List ℕ) → Option Transcript → Type 0
AreToldNames names None = Unit {0}
AreToldNames names (Some t) = All (IsToldName t) names

abbrev pub IsBadAnswer : List (List ℕ) → ℕ → (sent answer : List ℕ) → Type 0
IsBadAnswer names most sent answer = (¬ IsFormed sent answer) ⊎ IsUnknown names most answer

-- what was received for the last sent line is this bad answer, or these 256 bytes without an end
pub record IsRefusedLine (names : List (List ℕ)) (most : ℕ) (t : Transcript) (line : List ℕ) : Type 0 where
  pub before : List (List ℕ)
  pub last : List ℕ
  pub sent : lines_of t.sent ≡ before ++ last ∷ []
  pub received :
      ((raw : List ℕ) × (slice_get (lines_of t.received) (length before) ≡ Some raw) × (line ≡ strip_carriage_return raw) × IsBadAnswer names most last line)
      ⊎ ((length (lines_of t.received) ≡ length before) × (rest_of t.received ≡ line) × (length line ≡ 256))

-- the end came within the line that answers the last sent one
abbrev pub EndsWithin : Transcript → Type 0
EndsWithin t = length (lines_of t.sent) ≡ length (lines_of t.received) + 1

-- a system's stop is borne out by the counts of its link
abbrev pub StopIsCounted : (faults ends : ℕ) → Option SulStop → Type 0
StopIsCounted faults ends None = Unit {0}
StopIsCounted faults ends (Some Failed) = CountedFault 0 faults
StopIsCounted faults ends (Some Gone) = CountedFault 0 ends
StopIsCounted faults ends (Some (BadLine line)) = Unit {0}

-- and by what went over it
abbrev pub IsSpelled : List (List ℕ) → ℕ → Transcript → Option SulStop → Type 0
IsSpelled names most t None = Unit {0}
IsSpelled names most t (Some Failed) = Unit {0}
IsSpelled names most t (Some Gone) = EndsWithin t
IsSpelled names most t (Some (BadLine line)) = IsRefusedLine names most t line

-- all that was sent is lines of the runs, but for the line of the step, or of the reset, in which the system stopped
abbrev pub TranscriptIsCovered : (inputs names : List (List ℕ)) (faults : ℕ) → Transcript → Option SulStop → (cut : Bool) → Type 0
TranscriptIsCovered inputs names faults t None cut = SpellsAll inputs names t
TranscriptIsCovered inputs names faults t (Some stop) cut = BreaksIn inputs names faults cut t

-- what is observed of a link to a child that was asked for letters of these names and named its outputs so: its
-- transcript is proper, bears out the stop, and is covered by the runs that it spells, but for the line at which it
-- broke: a letter's exactly where the stop cut a run off
abbrev pub IsTranscriptOf : (inputs names : List (List ℕ)) (most faults : ℕ) → Option SulStop → (cut : Bool) → Option Transcript → Type 0
IsTranscriptOf inputs names most faults stop cut None = Unit {0}
IsTranscriptOf inputs names most faults stop cut (Some t) = IsProper inputs faults t × IsSpelled names most t stop × TranscriptIsCovered inputs names faults t stop cut
