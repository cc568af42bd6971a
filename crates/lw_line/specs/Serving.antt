-- What `serve` writes and how it ends, where its input is observed.
use Rattle.std.specs.Prelude.{◌≡◌, ℕ, List, [], ◌++◌, Option, Some, None, Result, Ok, Err}
use Rattle.lw_json.specs.declared.files.Machine.{Machine}
use Rattle.lw_outside.specs.Lines.{lines_of}
use Rattle.lw_outside.specs.Played.{Play, PlayEnd, AtQuit, AtEnd, AtLimit, AtBadLine, played, played_from, ended_lines}
use Rattle.lw_outside.specs.Streams.{TakesAll, TakesSome}
use Rattle.lw_line.specs.declared.serving.Served.{Served}
use Rattle.lw_line.specs.declared.serving.ServedCause.{ServedCause}
use Rattle.lw_line.specs.declared.serving.ServedCause.TheVariants.{Quit, EndOfInput, Limit}
use Rattle.lw_line.specs.declared.serving.ServeFault.{ServeFault}
use Rattle.lw_line.specs.declared.serving.ServeFault.TheVariants.{SourceFault, SinkFault, BadLine}

abbrev pub IsCause : ServedCause → PlayEnd → Type 0
IsCause Quit end = end ≡ AtQuit
IsCause EndOfInput end = end ≡ AtEnd
IsCause Limit end = end ≡ AtLimit

-- serving ended as the child's play does, where no stream failed
abbrev pub EndsAs : Result Served ServeFault → Play → Type 0
EndsAs (Ok served) play = (served.lines ≡ play.lines) × IsCause served.cause play.end
EndsAs (Err SourceFault) play = Unit {0}
EndsAs (Err SinkFault) play = Unit {0}
EndsAs (Err (BadLine number)) play = play.end ≡ AtBadLine number

-- the text was taken, and where a stream failed a prefix of it
abbrev pub Takes : Result Served ServeFault → List ℕ → Option (List ℕ) → Option (List ℕ) → Type 0
Takes (Ok served) text before now = TakesAll text before now
Takes (Err SourceFault) text before now = TakesSome text before now
Takes (Err SinkFault) text before now = TakesSome text before now
Takes (Err (BadLine number)) text before now = TakesAll text before now

-- where the input is observed, serving a machine ends as a child's play on it does, and writes its answers
abbrev pub Plays : Machine → Option (List ℕ) → Result Served ServeFault → Option (List ℕ) → Option (List ℕ) → Type 0
Plays m None result before now = Unit {0}
Plays m (Some bytes) result before now = EndsAs result (played m bytes) × Takes result (ended_lines (played m bytes).answers) before now

-- where the input is observed, no line that was read of it ends the play
abbrev pub GoesOn : Machine → Option (List ℕ) → Option (List ℕ) → Type 0
GoesOn m None after = Unit {0}
GoesOn m (Some bytes) after = (read left : List ℕ) × (after ≡ Some left) × (bytes ≡ read ++ left) × ((played_from m 0 0 (lines_of read) []).end ≡ AtEnd)
