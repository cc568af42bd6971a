-- Which outcomes of `compare` are answers, and which are refusals.
use Rattle.std.specs.Prelude.{◌≡◌, ◌⊎◌}
use Rattle.lw_report.specs.declared.comparison.Comparison.{Comparison}
use Rattle.lw_report.specs.declared.comparison.Comparison.TheVariants.{Equal, Differ, OtherInputs}
use Rattle.lw_report.specs.declared.outcome.Outcome.{Outcome}
use Rattle.lw_report.specs.declared.outcome.Outcome.TheVariants.{BadFile, Compared, FileFault, FileTooLong, NoMemory, SinkFault}
use Rattle.lw_report.specs.declared.role.Role.{Role}

-- equal, or a word on which they differ
abbrev pub IsComparisonVerdict : Comparison → Type 0
IsComparisonVerdict Equal = Unit {0}
IsComparisonVerdict (Differ difference) = Unit {0}
IsComparisonVerdict (OtherInputs first second) = ⊥

-- a verdict, whose text goes to `out`
abbrev pub IsAnswered : Outcome → Type 0
IsAnswered (Compared comparison) = IsComparisonVerdict comparison
IsAnswered _ = ⊥

-- nothing was compared
abbrev pub ComparesNothing : Outcome → Type 0
ComparesNothing (BadFile role fault) = Unit {0}
ComparesNothing (FileTooLong role) = Unit {0}
ComparesNothing (FileFault role) = Unit {0}
ComparesNothing NoMemory = Unit {0}
ComparesNothing _ = ⊥

-- the models were compared, or memory ran out
abbrev pub IsUntroubled : Outcome → Type 0
IsUntroubled (Compared comparison) = Unit {0}
IsUntroubled NoMemory = Unit {0}
IsUntroubled _ = ⊥

-- the comparison, or a fault or memory came between
abbrev pub ComesAs : Comparison → Outcome → Type 0
ComesAs comparison outcome = (outcome ≡ Compared comparison) ⊎ ((outcome ≡ NoMemory) ⊎ ((outcome ≡ SinkFault) ⊎ ((role : Role) × (outcome ≡ FileFault role))))
