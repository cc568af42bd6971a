-- The runs that went over a link, and which transcripts a learner leaves.
use Rattle.std.specs.Prelude.{◌≡◌, ◌≢◌, ◌⊎◌, ℕ, ◌+◌, ◌≤◌, List, [], ◌∷◌, ◌++◌, length, codes, Contains, Bool, true, false, Option, Some, None, option_and_then, if◌then◌else◌}
use Rattle.std.specs.List.{All, sum_by}
use Rattle.std.specs.Str.{bytes_eq}
use Rattle.std.specs.Str.Lines.{strip_carriage_return}
use Rattle.lw_words.specs.Cause.{CountedFault}
use Rattle.lw_words.specs.Word.{number_of, IsPrefix}
use Rattle.lw_sul.specs.Runs.{after_reset, after_step}
use Rattle.lw_sul.specs.declared.runs.Run.{Run}
use Rattle.lw_outside.specs.Lines.{lines_of, rest_of}
use Rattle.lw_outside.specs.Links.{Transcript}
use Rattle.lw_outside.specs.Protocol.{bytes_behind, reset_line, in_line, ready_line}

-- the number of the name that stands behind these bytes in a line
abbrev pub number_behind : List ℕ → List (List ℕ) → List ℕ → Option ℕ
number_behind front names line = option_and_then (λ name. number_of name names) (bytes_behind front line)

abbrev pub ready_runs : List Run → List ℕ → Option (List Run)
ready_runs rs answer = if bytes_eq answer ready_line then Some (after_reset rs) else None

abbrev pub stepped_runs : List Run → Option ℕ → Option ℕ → Option (List Run)
stepped_runs rs (Some x) (Some y) = Some (after_step x y rs)
stepped_runs rs (Some x) None = None
stepped_runs rs None y = None

-- the runs once a line was sent and answered so; none where they aren't in the grammar, or name what is in neither list
abbrev pub exchanged : (inputs outputs : List (List ℕ)) → List Run → (sent answer : List ℕ) → Option (List Run)
exchanged inputs outputs rs sent answer = if bytes_eq sent reset_line then ready_runs rs answer else stepped_runs rs (number_behind (codes "in ") inputs sent) (number_behind (codes "out ") outputs answer)

abbrev pub spelled_on : List Run → Option (List Run) → (List Run → List Run) → List Run
spelled_on rs None on = rs
spelled_on rs (Some now) on = on now

-- the runs after more lines, the i-th of which is answered by the i-th received one, as long as these are in the grammar
abbrev pub spelled_from : (inputs outputs : List (List ℕ)) → List Run → (sent received : List (List ℕ)) → List Run
spelled_from inputs outputs rs [] received = rs
spelled_from inputs outputs rs (s ∷ ss) [] = rs
spelled_from inputs outputs rs (s ∷ ss) (r ∷ rr) = spelled_on rs (exchanged inputs outputs rs s (strip_carriage_return r)) (λ now. spelled_from inputs outputs now ss rr)

-- the runs that a transcript spells, by the numbers of two lists of names: a run is a reset with its answer and the letters
-- with their outputs up to the next reset
abbrev pub spelled : (inputs outputs : List (List ℕ)) → Transcript → List Run
spelled inputs outputs t = spelled_from inputs outputs [] (lines_of t.sent) (lines_of t.received)

-- the line of a step, which names a letter, or of a reset
abbrev pub IsLineOf : (inputs : List (List ℕ)) (step : Bool) → List ℕ → Type 0
IsLineOf inputs true line = (name : List ℕ) × Contains inputs name × (line ≡ in_line name)
IsLineOf inputs false line = line ≡ reset_line

-- what a learner sends: a reset, or a letter
abbrev pub IsSentLine : List (List ℕ) → List ℕ → Type 0
IsSentLine inputs line = IsLineOf inputs false line ⊎ IsLineOf inputs true line

-- what a learner leaves on a link: whole lines were sent, the first of them a reset, each but the last once all before it were
-- answered; and a part of a line only where the link failed
pub record IsProper (inputs : List (List ℕ)) (faults : ℕ) (t : Transcript) : Type 0 where
  pub each : All (IsSentLine inputs) (lines_of t.sent)
  pub first : (line : List ℕ) (more : List (List ℕ)) → lines_of t.sent ≡ line ∷ more → line ≡ reset_line
  pub answered : length (lines_of t.sent) ≤ length (lines_of t.received) + 1
  pub whole : rest_of t.sent ≢ [] → CountedFault 0 faults

-- the lines that runs take: a reset each, and their letters
abbrev pub lines_taken_by : List Run → ℕ
lines_taken_by runs = sum_by (λ r. 1 + length r.word) runs

-- all that was sent is lines of the runs that it spells
abbrev pub SpellsAll : (inputs outputs : List (List ℕ)) → Transcript → Type 0
SpellsAll inputs outputs t = (length (lines_of t.sent) ≡ lines_taken_by (spelled inputs outputs t)) × (rest_of t.sent ≡ [])

-- the line at which a link broke, which none of the runs has: the last one that was sent; or one whose sending failed, and then
-- what follows the last one is a prefix of it, perhaps of no bytes
abbrev pub BreaksAt : (inputs outputs : List (List ℕ)) (faults : ℕ) → Transcript → List ℕ → Type 0
BreaksAt inputs outputs faults t line =
    ((length (lines_of t.sent) ≡ lines_taken_by (spelled inputs outputs t) + 1)
    × ((before : List (List ℕ)) × (lines_of t.sent ≡ before ++ line ∷ []))
    × (rest_of t.sent ≡ []))
    ⊎ ((length (lines_of t.sent) ≡ lines_taken_by (spelled inputs outputs t)) × IsPrefix (rest_of t.sent) line × CountedFault 0 faults)

-- a link broke in a step, or in a reset
abbrev pub BreaksIn : (inputs outputs : List (List ℕ)) (faults : ℕ) (step : Bool) → Transcript → Type 0
BreaksIn inputs outputs faults step t = (line : List ℕ) × IsLineOf inputs step line × BreaksAt inputs outputs faults t line
