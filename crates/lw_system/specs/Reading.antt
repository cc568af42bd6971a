-- What a call of the program read, for a kind of file: a relation between bytes and a value, and one between bytes and their
-- first fault.
use Rattle.std.specs.Prelude.{◌≡◌, ◌⊎◌, ℕ, ◌<◌, ◌≤◌, List, length, true, false, Option, Some, None, Result, Err, IfOk, OnOk}
use Rattle.lw_words.specs.Cause.{CountedFault}
use Rattle.lw_outside.specs.Files.{File, file_at, HoldsLong, longest_of, noted, read_call, FilesState, WasRead, ReadsFile}
use Rattle.lw_system.specs.declared.stops.ReadStop.{ReadStop}
use Rattle.lw_system.specs.declared.stops.ReadStop.TheVariants as stop

-- the bytes that were read are the file of no value, and this is their first fault
pub record ReadsBadFile {V F : Type 0} (IsFile : List ℕ → V → Type 0) (HasFirst : List ℕ → F → Type 0) (name : List ℕ) (holds : Option (List File)) (before after : List File) (fault : F) : Type 0 where
  pub bytes : List ℕ
  pub read : WasRead holds before after name bytes
  pub first : HasFirst bytes fault
  pub bad : (v : V) → ¬ IsFile bytes v

-- what came of one read of a file of this kind: files stood as before, and stand as now
pub record HasRead {V F : Type 0} (IsFile : List ℕ → V → Type 0) (HasFirst : List ℕ → F → Type 0) (name : List ℕ) (before now : FilesState) (result : Result V (ReadStop F)) : Type 0 where
  -- the file of the value, read with no fault
  pub ok : IfOk result (ReadsFile IsFile name before.holds before.reads now.reads)
  pub ok_call : OnOk result (now.calls ≡ noted (read_call name false) before.calls)
  pub quiet : OnOk result (now.faults ≡ before.faults)
  -- the file of no value, with its first fault
  pub bad : (fault : F) → result ≡ Err (stop.Bad fault) →
      ReadsBadFile IsFile HasFirst name before.holds before.reads now.reads fault
  pub bad_call : (fault : F) → result ≡ Err (stop.Bad fault) →
      now.calls ≡ noted (read_call name false) before.calls
  -- a file that is too long, and isn't read
  pub long : result ≡ Err stop.TooLong → HoldsLong before.holds name
  pub long_call : result ≡ Err stop.TooLong → now.calls ≡ noted (read_call name false) before.calls
  pub long_unread : result ≡ Err stop.TooLong → now.reads ≡ before.reads
  -- a read that failed
  pub failed : result ≡ Err stop.Failed → CountedFault before.faults now.faults
  pub failed_call : result ≡ Err stop.Failed → now.calls ≡ noted (read_call name true) before.calls
  pub failed_unread : result ≡ Err stop.Failed → now.reads ≡ before.reads
  -- memory that ran out, before the read or behind it
  pub memory : result ≡ Err stop.NoMemory → (now.calls ≡ before.calls) ⊎
      (now.calls ≡ noted (read_call name false) before.calls)
  -- and however it ended, at most one read gave bytes, faults were only counted up, and what the files hold stays
  pub reads : (now.reads ≡ before.reads) ⊎
      ((bytes : List ℕ) × WasRead before.holds before.reads now.reads name bytes)
  pub counts : before.faults ≤ now.faults
  pub same : now.holds ≡ before.holds

-- it is observed that the file of this value stands under the name, and it isn't too long
abbrev pub TellsFile : {V : Type 0} → (List ℕ → V → Type 0) → Option (List File) → List ℕ → V → Type 0
TellsFile IsFile None name v = ⊥
TellsFile IsFile (Some fs) name v = (bytes : List ℕ) × (file_at name fs ≡ Some bytes) × (length bytes ≤ longest_of bytes) × IsFile bytes v

-- it is observed that a file that is too long, or of no value, stands under the name
abbrev pub TellsBad : {V : Type 0} → (List ℕ → V → Type 0) → Option (List File) → List ℕ → Type 0
TellsBad IsFile None name = ⊥
TellsBad IsFile (Some fs) name = (bytes : List ℕ) × (file_at name fs ≡ Some bytes) × ((longest_of bytes < length bytes) ⊎ ((v : _) → ¬ IsFile bytes v))
