-- The recorded answers, saved in the file that is named for them, before a model is written.
use Rattle.std.specs.Prelude.{◌≡◌, ℕ, ◌≤◌, List, [], ◌∷◌, true, false, Option, Some, None}
use Rattle.lw_words.specs.Cause.{CountedFault}
use Rattle.lw_words.specs.declared.kept.KeptAnswer.{KeptAnswer}
use Rattle.lw_json.specs.AnswersText.{IsAnswersText}
use Rattle.lw_outside.specs.Files.{File, Holds, noted, write_call, FilesState}
use Rattle.lw_report.specs.declared.outcome.Outcome.{Outcome}
use Rattle.lw_report.specs.declared.outcome.Outcome.TheVariants.{FileFault, NoMemory}
use Rattle.lw_report.specs.declared.role.Role.TheVariants.{Kept}
use Rattle.lw_learn.specs.Outcomes.{IsLearnedOutcome}
use Rattle.lw_learn.specs.Writing.{StaysBesides}
use Rattle.lw_learn.specs.declared.saving.Saved.{Saved}
use Rattle.lw_learn.specs.declared.saving.Saved.TheVariants as saving

-- the bytes were written under the name, or that failed, or memory ran out before it
abbrev pub IsWritten : List ℕ → (bytes : List ℕ) → (files_before files_now : FilesState) → Saved → Type 0
IsWritten name bytes files_before files_now saving.Stand = Holds files_now.holds name bytes × (files_now.calls ≡ noted (write_call name false) files_before.calls) × (files_now.faults ≡ files_before.faults)
IsWritten name bytes files_before files_now saving.Failed = (files_now.calls ≡ noted (write_call name true) files_before.calls) × CountedFault files_before.faults files_now.faults
IsWritten name bytes files_before files_now saving.NoMemory = files_now.calls ≡ files_before.calls

-- so was a text of recorded answers, where one could be made
abbrev pub IsTextWritten : List ℕ → (inputs outputs : List (List ℕ)) → List KeptAnswer → (files_before files_now : FilesState) → Saved → Type 0
IsTextWritten name inputs outputs kept files_before files_now saving.Stand = (text : List ℕ) × IsAnswersText inputs outputs kept text × IsWritten name text files_before files_now saving.Stand
IsTextWritten name inputs outputs kept files_before files_now saving.Failed = IsWritten name [] files_before files_now saving.Failed
IsTextWritten name inputs outputs kept files_before files_now saving.NoMemory = IsWritten name [] files_before files_now saving.NoMemory

-- where a file is named and something is kept; else nothing is done
abbrev pub IsKeptWritten : Option (List ℕ) → (inputs outputs : List (List ℕ)) → List KeptAnswer → (files_before files_now : FilesState) → Saved → Type 0
IsKeptWritten None inputs outputs kept files_before files_now was = (files_now ≡ files_before) × (was ≡ saving.Stand)
IsKeptWritten (Some name) inputs outputs [] files_before files_now was = (files_now ≡ files_before) × (was ≡ saving.Stand)
IsKeptWritten (Some name) inputs outputs (k ∷ ks) files_before files_now was = IsTextWritten name inputs outputs (k ∷ ks) files_before files_now was

-- what saving did: no other file changed, and none was read
pub record HasSaved (file : Option (List ℕ)) (inputs outputs : List (List ℕ)) (kept : List KeptAnswer) (files_before files_now : FilesState) (was : Saved) : Type 0 where
  pub written : IsKeptWritten file inputs outputs kept files_before files_now was
  pub beside : StaysBesides file None None files_before.holds files_now.holds
  pub reads : files_now.reads ≡ files_before.reads
  pub counts : files_before.faults ≤ files_now.faults

-- a text of what is kept stands in the file, where one is named and something is kept
abbrev pub KeptStand : Option (List ℕ) → Option (List File) → (inputs outputs : List (List ℕ)) → List KeptAnswer → Type 0
KeptStand None holds inputs outputs kept = Unit {0}
KeptStand (Some name) holds inputs outputs [] = Unit {0}
KeptStand (Some name) holds inputs outputs (k ∷ ks) = (text : List ℕ) × IsAnswersText inputs outputs (k ∷ ks) text × Holds holds name text

-- saving had some end, and memory that ran out for it is the outcome
pub record IsSaved (file : Option (List ℕ)) (inputs outputs : List (List ℕ)) (kept : List KeptAnswer) (files_before files_now : FilesState) (outcome : Outcome) : Type 0 where
  pub was : Saved
  pub saved : HasSaved file inputs outputs kept files_before files_now was
  pub wants : was ≡ saving.NoMemory → outcome ≡ NoMemory

-- the outcome of a call without a model: memory that ran out is reported, and a file that failed is not
abbrev pub saved_outcome : Saved → Outcome → Outcome
saved_outcome saving.Stand outcome = outcome
saved_outcome saving.Failed outcome = outcome
saved_outcome saving.NoMemory outcome = NoMemory

-- which outcomes may come: a model is reported only where saving did not fail, its failure only where it did, and
-- memory that ran out is reported
pub record MayTell (was : Saved) (outcome : Outcome) : Type 0 where
  pub learned : IsLearnedOutcome outcome → was ≡ saving.Stand
  pub failed : outcome ≡ FileFault Kept → was ≡ saving.Failed
  pub wants : was ≡ saving.NoMemory → outcome ≡ NoMemory
