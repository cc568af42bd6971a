-- What came of probing the files that are written, and of reading before that.
use Rattle.std.specs.Prelude.{◌≡◌, ◌⊎◌, ◌≤◌, List, [], Some, Result, IfOk, IfErr, OnOk, ⊤}
use Rattle.lw_outside.specs.Files.{FilesState}
use Rattle.lw_outside.specs.declared.files.WriteStop.{WriteStop}
use Rattle.lw_outside.specs.declared.files.WriteStop.TheVariants as stop
use Rattle.lw_report.specs.declared.outcome.Outcome.{Outcome}
use Rattle.lw_report.specs.declared.outcome.Outcome.TheVariants.{FileFault, NoMemory}
use Rattle.lw_report.specs.declared.role.Role.{Role}
use Rattle.lw_learn.specs.Arguments.{LearnValues}
use Rattle.lw_learn.specs.Asking.{IsWordlessTask}
use Rattle.lw_learn.specs.Probes.{IsUnprobed, IsUnwritable, Written, probes_of, written_files}
use Rattle.lw_learn.specs.Unread.{IsUnreadBy}
use Rattle.lw_learn.specs.bodies.Stages.{SaysWorded}
use Rattle.lw_learn.specs.bodies.UnreadState.{UnreadState}
use Rattle.lw_learn.specs.declared.task.WordedTask.{WordedTask}
use Rattle.lw_system.specs.Reads.{MadeReads, gained}

-- the outcome of a probe of the file in a role that didn't pass
abbrev pub unprobed_outcome : Role → WriteStop → Outcome
unprobed_outcome role stop.Failed = FileFault role
unprobed_outcome role stop.NoMemory = NoMemory

-- what came of probing these files
pub record HasProbed (files : List Written) (before now : FilesState) (result : Result ⊤ Outcome) : Type 0 where
  pub ok : OnOk result (now.calls ≡ gained (probes_of files) before.calls)
  pub quiet : OnOk result (now.faults ≡ before.faults)
  pub err : IfErr result (IsUnprobed files before now)
  pub same : now.holds ≡ before.holds
  pub reads : now.reads ≡ before.reads
  pub counts : before.faults ≤ now.faults

-- of probing the files that a task's learning writes
pub record HasTried (a : LearnValues) (t : WordedTask) (before now : FilesState) (result : Result WordedTask UnreadState) : Type 0 where
  pub ok : IfOk result (λ w. w ≡ t)
  pub calls : OnOk result (now.calls ≡ gained (probes_of (written_files a)) before.calls)
  pub quiet : OnOk result (now.faults ≡ before.faults)
  pub err : IfErr result (λ u. (u.system ≡ Some t.task.system) × (u.kept ≡ []) × IsUnprobed (written_files a) before now u.outcome)
  pub same : now.holds ≡ before.holds
  pub reads : now.reads ≡ before.reads
  pub counts : before.faults ≤ now.faults

-- of reading what is to be learned and the words that are asked first, and then probing
pub record IsProbedStage (a : LearnValues) (files_before files_now : FilesState) (result : Result WordedTask UnreadState) : Type 0 where
  pub ok : IfOk result (SaysWorded a files_before files_now)
  pub made : OnOk result (MadeReads files_before files_now (probes_of (written_files a)))
  pub quiet : OnOk result (files_now.faults ≡ files_before.faults)
  pub err : IfErr result (λ u. IsUnreadBy a files_before files_now u.system u.kept u.outcome ⊎ (IsWordlessTask a files_before files_now u.system u.kept u.outcome ⊎ IsUnwritable a files_before files_now u.system u.kept u.outcome))
  pub same : files_now.holds ≡ files_before.holds
  pub counts : files_before.faults ≤ files_now.faults
