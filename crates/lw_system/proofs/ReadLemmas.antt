-- Files that are read: their value, their fault, or why they were not read.
use Rattle.std.proofs.Common.{◌≡◌, ◌≢◌, List, ℕ, ◌≤◌, false, Err, Result, inr, subst}
use Rattle.lw_json.proofs.FilesNoFault.{all_answers, machines, setups}
use Rattle.lw_json.specs.Formats.{IsAnswersFile, IsMachineFile}
use Rattle.lw_json.specs.AnswersFault.{HasAnswersFault}
use Rattle.lw_json.specs.declared.files.Answers.{Answers}
use Rattle.lw_json.specs.MachineFault.{HasMachineFault}
use Rattle.lw_json.specs.SetupFile.{HasSetupFault, IsSetupFile}
use Rattle.lw_json.specs.declared.files.Machine.{Machine}
use Rattle.lw_json.specs.declared.setup.Setup.{Setup}
use Rattle.lw_json.specs.declared.fault.JsonFault.{JsonFault}
use Rattle.lw_json.specs.declared.fault.JsonFault.TheVariants.{NotJson, Shape, Inputs, Outputs, UnknownOutput, Mealy, BadWord, Lengths, NoMemory}
use Rattle.lw_outside.specs.Files.{noted, read_call, FilesState, WasRead}
use Rattle.lw_system.specs.Reading.{HasRead}
use Rattle.lw_system.specs.Stops.{read_stop}
use Rattle.lw_system.specs.declared.stops.ReadStop.{ReadStop}
use Rattle.lw_system.specs.declared.stops.ReadStop.TheVariants.{Bad, Failed, TooLong, NoMemory as NoMemoryToRead}

pub err_is : {V F : Type 0} (one two : ReadStop F) → ◌≡◌ {A = Result V (ReadStop F)} (Err one) (Err two) → one ≡ two
err_is one two e = cc

-- bytes with a fault other than out of memory are no machine's
pub no_machine : (bytes : List ℕ) (fault : JsonFault) → HasMachineFault bytes fault → fault ≢ NoMemory → (m : Machine) → ¬ IsMachineFile bytes m
no_machine bytes fault has own m file = own (machines bytes m fault file has)

pub no_answers : (bytes : List ℕ) (fault : JsonFault) → HasAnswersFault bytes fault → fault ≢ NoMemory → (a : Answers) → ¬ IsAnswersFile bytes a
no_answers bytes fault has own a file = own (all_answers bytes a fault file has)

pub no_setup : (bytes : List ℕ) (fault : JsonFault) → HasSetupFault bytes fault → fault ≢ NoMemory → (s : Setup) → ¬ IsSetupFile bytes s
no_setup bytes fault has own s file = own (setups bytes s fault file has)

-- why bytes that were read say no value: their first fault, or memory ran out
abbrev pub IsOfBytes : {V F : Type 0} → (List ℕ → V → Type 0) → (List ℕ → F → Type 0) → List ℕ → ReadStop F → Type 0
IsOfBytes {V} IsFile HasFirst bytes (Bad fault) = HasFirst bytes fault × ((v : V) → ¬ IsFile bytes v)
IsOfBytes IsFile HasFirst bytes NoMemoryToRead = Unit {0}
IsOfBytes IsFile HasFirst bytes Failed = ⊥
IsOfBytes IsFile HasFirst bytes TooLong = ⊥

-- a reader's own fault, of a kind of file that has none
module _ {V : Type 0} (IsFile : List ℕ → V → Type 0) (HasFirst : List ℕ → JsonFault → Type 0) (no_value : (bytes : List ℕ) (fault : JsonFault) → HasFirst bytes fault → fault ≢ NoMemory → (v : V) → ¬ IsFile bytes v) (bytes : List ℕ) where
  abbrev Strict : List ℕ → JsonFault → Type 0
  Strict b fault = HasFirst b fault × (fault ≢ NoMemory)

  own_fault : (own : JsonFault) → HasFirst bytes own → own ≢ NoMemory → IsOfBytes IsFile Strict bytes (Bad own)
  own_fault own has other = ((has, other), no_value bytes own has other)

  pub stops_of_bytes : (own : JsonFault) → HasFirst bytes own → IsOfBytes IsFile Strict bytes (read_stop own)
  stops_of_bytes NotJson has = own_fault NotJson has (λ n. cc)
  stops_of_bytes (Shape f) has = own_fault (Shape f) has (λ n. cc)
  stops_of_bytes (Inputs f) has = own_fault (Inputs f) has (λ n. cc)
  stops_of_bytes (Outputs f) has = own_fault (Outputs f) has (λ n. cc)
  stops_of_bytes (UnknownOutput q x) has = own_fault (UnknownOutput q x) has (λ n. cc)
  stops_of_bytes (Mealy f) has = own_fault (Mealy f) has (λ n. cc)
  stops_of_bytes (BadWord i) has = own_fault (BadWord i) has (λ n. cc)
  stops_of_bytes (Lengths i) has = own_fault (Lengths i) has (λ n. cc)
  stops_of_bytes NoMemory has = tt

-- a read that gave bytes
pub record GivesBytes (name bytes : List ℕ) (before now : FilesState) : Type 0 where
  pub read : WasRead before.holds before.reads now.reads name bytes
  pub calls : now.calls ≡ noted (read_call name false) before.calls
  pub quiet : now.faults ≡ before.faults
  pub counts : before.faults ≤ now.faults
  pub same : now.holds ≡ before.holds

-- bytes that were read and say no value
pub has_fault : {V F : Type 0} (IsFile : List ℕ → V → Type 0) (HasFirst : List ℕ → F → Type 0) (name : List ℕ) (before now : FilesState) (bytes : List ℕ) (one : ReadStop F) → GivesBytes name bytes before now
    → IsOfBytes IsFile HasFirst bytes one → HasRead IsFile HasFirst name before now (Err one)
has_fault IsFile HasFirst name before now bytes one gives of = record {
  ok = tt;
  ok_call = tt;
  quiet = tt;
  bad = λ fault e.
      let here : IsOfBytes IsFile HasFirst bytes (Bad fault) = subst (IsOfBytes IsFile HasFirst bytes) (err_is one (Bad fault) e) of in
      record { bytes = bytes; read = gives.read; first = here.0; bad = here.1 };
  bad_call = λ fault e. gives.calls;
  long = λ e. absurd (subst (IsOfBytes IsFile HasFirst bytes) (err_is one TooLong e) of);
  long_call = λ e. gives.calls;
  long_unread = λ e. absurd (subst (IsOfBytes IsFile HasFirst bytes) (err_is one TooLong e) of);
  failed = λ e. absurd (subst (IsOfBytes IsFile HasFirst bytes) (err_is one Failed e) of);
  failed_call = λ e. absurd (subst (IsOfBytes IsFile HasFirst bytes) (err_is one Failed e) of);
  failed_unread = λ e. absurd (subst (IsOfBytes IsFile HasFirst bytes) (err_is one Failed e) of);
  memory = λ e. inr gives.calls;
  reads = inr (bytes, gives.read);
  counts = gives.counts;
  same = gives.same;
}
