-- A log file in memory.
use Rattle.std.specs.Prelude.{ℕ, zero, suc, List, Bool, true, false, Option, None, Some}
use Rattle.lw_outside.specs.Logs.{LogFileState}
use Rattle.lw_log.specs.Putting.{joined_lines}

-- its name, its lines, how many calls come before the one that is to fail, and how often one failed
pub record MemoryLogState : Type 0 where
  pub name : Option (List ℕ)
  pub lines : List (List ℕ)
  pub plan : Option ℕ
  pub faults : ℕ

-- as every log file tells it
abbrev pub told_log : MemoryLogState → LogFileState
told_log l = record { name = l.name; text = joined_lines l.lines; faults = l.faults }

-- whether the next call is to fail
abbrev pub fails_next : Option ℕ → Bool
fails_next None = false
fails_next (Some zero) = true
fails_next (Some (suc n)) = false

-- the plan after the next call
abbrev pub plan_after : Option ℕ → Option ℕ
plan_after None = None
plan_after (Some zero) = None
plan_after (Some (suc n)) = Some n
