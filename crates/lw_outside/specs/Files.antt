-- Files by name, the calls on them, and the bytes that the reads gave.
use Rattle.std.specs.Prelude.{◌≡◌, ◌≢◌, ℕ, ◌<◌, ◌≤◌, List, [], ◌∷◌, ◌++◌, length, Bool, false, true, Option, Some, None, Result, Err, IfOk, OnOk, OnErr, option_map, if◌then◌else◌, ⊤}
use Rattle.std.specs.Str.{bytes_eq}
use Rattle.lw_json.specs.Journal.{is_journal}
use Rattle.lw_words.specs.Cause.{CountedFault}
use Rattle.lw_outside.specs.declared.files.CallKind.{CallKind}
use Rattle.lw_outside.specs.declared.files.CallKind.TheVariants as kind
use Rattle.lw_outside.specs.declared.files.FilesStop.{FilesStop}
use Rattle.lw_outside.specs.declared.files.FilesStop.TheVariants as unread
use Rattle.lw_outside.specs.declared.files.WriteStop.{WriteStop}
use Rattle.lw_outside.specs.declared.files.WriteStop.TheVariants as unwritten

-- a name and the bytes that stand under it
abbrev pub File : Type 0
File = List ℕ × List ℕ

-- the greatest number of bytes of a file that is read, if these are its bytes, or its first ones: a journal may be longer than
-- all others
unfoldable pub longest_of : List ℕ → ℕ
longest_of bytes = if is_journal bytes then 4294967296 else 16777216

-- the first of two that is there
abbrev pub first_present : Option (List ℕ) → Option (List ℕ) → Option (List ℕ)
first_present None other = other
first_present (Some bytes) other = Some bytes

-- the bytes under a name: a later file of the same name wins
abbrev pub file_at : List ℕ → List File → Option (List ℕ)
file_at name [] = None
file_at name (f ∷ fs) = first_present (file_at name fs) (if bytes_eq name f.0 then Some f.1 else None)

-- these bytes stand under the name, where it is observed what files hold
abbrev pub Holds : Option (List File) → List ℕ → List ℕ → Type 0
Holds None name bytes = Unit {0}
Holds (Some fs) name bytes = file_at name fs ≡ Some bytes

-- a file that is too long to be read stands under the name, where it is observed what files hold
abbrev pub HoldsLong : Option (List File) → List ℕ → Type 0
HoldsLong None name = Unit {0}
HoldsLong (Some fs) name = (bytes : List ℕ) × (file_at name fs ≡ Some bytes) × (longest_of bytes < length bytes)

-- what is observed of the other files stays
abbrev pub StaysBeside : List ℕ → Option (List File) → Option (List File) → Type 0
StaysBeside name None after = after ≡ None
StaysBeside name (Some fs) after = (gs : List File) × (after ≡ Some gs) × ((other : List ℕ) → other ≢ name → file_at other gs ≡ file_at other fs)

-- a call that was answered other than out of memory: the file's name, what it did, whether it failed
pub record Call : Type 0 where
  pub name : List ℕ
  pub kind : CallKind
  pub failed : Bool

abbrev pub read_call : List ℕ → Bool → Call
read_call name failed = record { name = name; kind = kind.Reads; failed = failed }

abbrev pub write_call : List ℕ → Bool → Call
write_call name failed = record { name = name; kind = kind.Writes; failed = failed }

abbrev pub probe_call : List ℕ → Bool → Call
probe_call name failed = record { name = name; kind = kind.Probes; failed = failed }

-- observed calls, and one more
abbrev pub noted : Call → Option (List Call) → Option (List Call)
noted call calls = option_map (λ cs. cs ++ call ∷ []) calls

-- what contracts see of files: what they hold, and the calls that were answered other than out of memory, where that is
-- observed; the names of the reads that gave bytes, with the bytes, in their order; and how often a call failed
pub record FilesState : Type 0 where
  pub holds : Option (List File)
  pub calls : Option (List Call)
  pub reads : List File
  pub faults : ℕ

-- what a read of a file does, by its answer, of which `items` are the bytes: no more than a file that begins so may have
pub record FilesRead {X : Type 0} (items : X → List ℕ) (name : List ℕ) (before now : FilesState) (result : Result X FilesStop) : Type 0 where
  pub told : IfOk result (λ x. Holds before.holds name (items x))
  pub given : IfOk result (λ x. now.reads ≡ before.reads ++ (name, items x) ∷ [])
  pub short : IfOk result (λ x. length (items x) ≤ longest_of (items x))
  pub ok : OnOk result (now.calls ≡ noted (read_call name false) before.calls)
  pub long : result ≡ Err unread.TooLong → HoldsLong before.holds name
  pub long_call : result ≡ Err unread.TooLong → now.calls ≡ noted (read_call name false) before.calls
  pub failed : result ≡ Err unread.Failed → CountedFault before.faults now.faults
  pub failed_call : result ≡ Err unread.Failed → now.calls ≡ noted (read_call name true) before.calls
  pub memory : result ≡ Err unread.NoMemory → now.calls ≡ before.calls
  pub withheld : OnErr result (now.reads ≡ before.reads)
  pub quiet : OnOk result (now.faults ≡ before.faults)
  pub counts : before.faults ≤ now.faults
  pub same : now.holds ≡ before.holds

-- what a write of these bytes under a name does; where it is refused, anything may stand there
pub record FilesWrite (name bytes : List ℕ) (before now : FilesState) (result : Result ⊤ WriteStop) : Type 0 where
  pub told : OnOk result (Holds now.holds name bytes)
  pub beside : StaysBeside name before.holds now.holds
  pub ok : OnOk result (now.calls ≡ noted (write_call name false) before.calls)
  pub failed : result ≡ Err unwritten.Failed → CountedFault before.faults now.faults
  pub failed_call : result ≡ Err unwritten.Failed → now.calls ≡ noted (write_call name true) before.calls
  pub memory : result ≡ Err unwritten.NoMemory → now.calls ≡ before.calls
  pub reads : now.reads ≡ before.reads
  pub quiet : OnOk result (now.faults ≡ before.faults)
  pub counts : before.faults ≤ now.faults

-- what a probe does, which asks whether a write under the name could be made: nothing changes that stands there
pub record FilesProbe (name : List ℕ) (before now : FilesState) (result : Result ⊤ WriteStop) : Type 0 where
  pub ok : OnOk result (now.calls ≡ noted (probe_call name false) before.calls)
  pub failed : result ≡ Err unwritten.Failed → CountedFault before.faults now.faults
  pub failed_call : result ≡ Err unwritten.Failed → now.calls ≡ noted (probe_call name true) before.calls
  pub memory : result ≡ Err unwritten.NoMemory → now.calls ≡ before.calls
  pub reads : now.reads ≡ before.reads
  pub quiet : OnOk result (now.faults ≡ before.faults)
  pub counts : before.faults ≤ now.faults
  pub same : now.holds ≡ before.holds

-- one read gave these bytes of the named file, no more than a file that begins so may have; and they are there, where that is
-- observed
pub record WasRead (holds : Option (List File)) (before after : List File) (name bytes : List ℕ) : Type 0 where
  pub given : after ≡ before ++ (name, bytes) ∷ []
  pub short : length bytes ≤ longest_of bytes
  pub held : Holds holds name bytes

-- the bytes that were read are the file of this value
pub record ReadsFile {V : Type 0} (IsFile : List ℕ → V → Type 0) (name : List ℕ) (holds : Option (List File)) (before after : List File) (v : V) : Type 0 where
  pub bytes : List ℕ
  pub read : WasRead holds before after name bytes
  pub file : IsFile bytes v
