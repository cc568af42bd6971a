-- The exit status of each outcome, and which outcomes may come when.
use Rattle.std.specs.Prelude.{◌≡◌, ◌⊎◌, ℕ}
use Rattle.lw_report.specs.declared.comparison.Comparison.{Comparison}
use Rattle.lw_report.specs.declared.comparison.Comparison.TheVariants.{Equal, Differ, OtherInputs}
use Rattle.lw_report.specs.declared.outcome.Outcome.{Outcome}
use Rattle.lw_report.specs.declared.outcome.Outcome.TheVariants.{Learned, Trial, Yes, Served, No, Usage, BadFile, Alphabets, FileTooLong, Nondeterministic, NoMemory, SulFailed, Gone, BadLine, BadAsk, TooManyStates, SuiteTooLarge, FileFault, SourceFault, SinkFault, Compared, Asked, Helped, Rechecked, UnknownLetter, Unstarted, Accepted, BadAcceptor, NotAcceptor}

-- 1 where two models differ, as of answers that do not fix a model, and 3 where one has an input that the other one lacks
abbrev pub comparison_status : Comparison → ℕ
comparison_status Equal = 0
comparison_status (Differ difference) = 1
comparison_status (OtherInputs first second) = 3

abbrev pub status_of : Outcome → ℕ
status_of (Learned model refinements) = 0
status_of (Accepted states refinements) = 0
status_of (Trial tried) = 0
status_of (Yes states) = 0
status_of (Served served) = 0
status_of Asked = 0
status_of Helped = 0
status_of (Rechecked answers) = 0
status_of (Compared comparison) = comparison_status comparison
status_of (No verdict) = 1
status_of Usage = 2
status_of (BadFile role fault) = 3
status_of (BadAcceptor fault) = 3
status_of (Alphabets role) = 3
status_of (FileTooLong role) = 3
status_of (UnknownLetter word place) = 3
status_of (Nondeterministic clash) = 4
status_of NoMemory = 5
status_of (Unstarted cause) = 6
status_of (SulFailed instance) = 6
status_of (Gone instance) = 6
status_of (BadLine instance line) = 6
status_of (BadAsk number) = 6
status_of (TooManyStates words) = 7
status_of (SuiteTooLarge states number) = 7
status_of (FileFault role) = 8
status_of SourceFault = 8
status_of SinkFault = 8
status_of (NotAcceptor state letter) = 9

-- making its text takes memory
abbrev pub HasOwnText : Outcome → Type 0
HasOwnText (Learned model refinements) = Unit {0}
HasOwnText (Accepted states refinements) = Unit {0}
HasOwnText (Trial tried) = Unit {0}
HasOwnText (Yes states) = Unit {0}
HasOwnText (No verdict) = Unit {0}
HasOwnText (BadFile role fault) = Unit {0}
HasOwnText (Nondeterministic clash) = Unit {0}
HasOwnText (SulFailed instance) = Unit {0}
HasOwnText (Gone instance) = Unit {0}
HasOwnText (BadLine instance line) = Unit {0}
HasOwnText (BadAsk number) = Unit {0}
HasOwnText (TooManyStates words) = Unit {0}
HasOwnText (SuiteTooLarge states number) = Unit {0}
HasOwnText (Unstarted cause) = Unit {0}
HasOwnText (Compared comparison) = Unit {0}
HasOwnText (Rechecked answers) = Unit {0}
HasOwnText (UnknownLetter word place) = Unit {0}
HasOwnText (BadAcceptor fault) = Unit {0}
HasOwnText (NotAcceptor state letter) = Unit {0}
HasOwnText _ = ⊥

-- an outcome as it was, or out of memory in place of one whose text takes memory
abbrev pub StandsOrWants : Outcome → Outcome → Type 0
StandsOrWants outcome result = (result ≡ outcome) ⊎ (HasOwnText outcome × (result ≡ NoMemory))
