-- What the command read: the file of the first model, then that of the second.
use Rattle.std.specs.Prelude.{◌≡◌, ◌⊎◌, ℕ, ◌<◌, ◌≤◌, List, length, Bool, true, false, Option, Some, None}
use Rattle.lw_words.specs.Cause.{CountedFault}
use Rattle.lw_json.specs.Formats.{IsMachineFile}
use Rattle.lw_json.specs.MachineFault.{IsMachineFault}
use Rattle.lw_json.specs.declared.files.Machine.{Machine}
use Rattle.lw_outside.specs.Files.{Call, File, HoldsLong, file_at, longest_of, noted, read_call, FilesState, ReadsFile}
use Rattle.lw_system.specs.Reading.{ReadsBadFile, TellsBad, TellsFile}
use Rattle.lw_report.specs.declared.role.Role.TheVariants.{Model, Second}
use Rattle.lw_report.specs.declared.outcome.Outcome.{Outcome}
use Rattle.lw_report.specs.declared.outcome.Outcome.TheVariants.{BadFile, FileTooLong, FileFault, NoMemory}

-- the calls after the read of the first file, and after that of the second, which failed or not
abbrev pub first_read : List ℕ → Bool → FilesState → Option (List Call)
first_read one failed before = noted (read_call one failed) before.calls

abbrev pub second_read : List ℕ → List ℕ → Bool → FilesState → Option (List Call)
second_read one two failed before = noted (read_call two failed) (first_read one false before)

-- one read gave the file of the first model
abbrev pub ReadsFirst : List ℕ → FilesState → List File → Type 0
ReadsFirst one before reads = (m : Machine) × ReadsFile IsMachineFile one before.holds before.reads reads m

-- one read gave the file of the first model, and a second one that of the second, and the files counted no fault
pub record ReadsModels (one two : List ℕ) (before now : FilesState) (first second : Machine) : Type 0 where
  pub middle : List File
  pub first_file : ReadsFile IsMachineFile one before.holds before.reads middle first
  pub second_file : ReadsFile IsMachineFile two before.holds middle now.reads second
  pub calls : now.calls ≡ second_read one two false before
  pub quiet : now.faults ≡ before.faults

-- why they were not read
abbrev pub IsUnread : List ℕ → List ℕ → FilesState → FilesState → Outcome → Type 0
IsUnread one two before now (BadFile Model fault) =
    ReadsBadFile IsMachineFile IsMachineFault one before.holds before.reads now.reads fault × (now.calls ≡ first_read one false before)
IsUnread one two before now (BadFile Second fault) =
    ((middle : List File) × (m : Machine) × ReadsFile IsMachineFile one before.holds before.reads middle m × ReadsBadFile IsMachineFile IsMachineFault two before.holds middle now.reads fault)
    × (now.calls ≡ second_read one two false before)
IsUnread one two before now (FileTooLong Model) = HoldsLong before.holds one × (now.calls ≡ first_read one false before) × (now.reads ≡ before.reads)
IsUnread one two before now (FileTooLong Second) = HoldsLong before.holds two × (now.calls ≡ second_read one two false before) × ReadsFirst one before now.reads
IsUnread one two before now (FileFault Model) = CountedFault before.faults now.faults × (now.calls ≡ first_read one true before) × (now.reads ≡ before.reads)
IsUnread one two before now (FileFault Second) = CountedFault before.faults now.faults × (now.calls ≡ second_read one two true before) × ReadsFirst one before now.reads
IsUnread one two before now NoMemory = (now.calls ≡ before.calls) ⊎ ((now.calls ≡ first_read one false before) ⊎ (now.calls ≡ second_read one two false before))
IsUnread one two before now _ = ⊥

-- it is observed that the file of this model stands under the name, and it isn't too long
abbrev pub TellsModel : Option (List File) → List ℕ → Machine → Type 0
TellsModel holds name m = TellsFile IsMachineFile holds name m

-- it is observed that the file of no model stands under the name, or one that is too long
abbrev pub TellsNoModel : Option (List File) → List ℕ → Type 0
TellsNoModel holds name = TellsBad IsMachineFile holds name
