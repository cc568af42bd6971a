-- Logs: what was put into a log's file, and how often it failed.
use Rattle.std.specs.Prelude.{◌≡◌, ℕ, ◌≤◌, List, [], ◌++◌, Option, Some, Result, OnOk, OnErr, ⊤}
use Rattle.lw_words.specs.Cause.{CountedFault}

-- what contracts see of a log's file: the name that it was made by last, the lines that were put since, one behind the other,
-- and how often it failed
pub record LogFileState : Type 0 where
  pub name : Option (List ℕ)
  pub text : List ℕ
  pub faults : ℕ

-- what making the log of this name does
pub record LogFileOpen {E : Type 0} (called : List ℕ) (before now : LogFileState) (result : Result ⊤ E) : Type 0 where
  pub made : OnOk result ((now.name ≡ Some called) × (now.text ≡ []))
  pub kept : OnErr result ((now.name ≡ before.name) × (now.text ≡ before.text))
  pub failed : OnErr result (CountedFault before.faults now.faults)
  pub quiet : OnOk result (now.faults ≡ before.faults)
  pub counts : before.faults ≤ now.faults

-- what putting this line does
pub record LogFilePut {E : Type 0} (line : List ℕ) (before now : LogFileState) (result : Result ⊤ E) : Type 0 where
  pub put : OnOk result (now.text ≡ before.text ++ line)
  pub kept : OnErr result (now.text ≡ before.text)
  pub failed : OnErr result (CountedFault before.faults now.faults)
  pub quiet : OnOk result (now.faults ≡ before.faults)
  pub counts : before.faults ≤ now.faults
  pub same : now.name ≡ before.name
