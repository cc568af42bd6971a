-- The machine of the last learner that was closed, which is written at an end without a model.
use Rattle.std.specs.Prelude.{◌≡◌, ◌⊎◌, ℕ, ◌≤◌, List, ◌++◌, codes, drop, Option, Some, None, Result, Ok, Err}
use Rattle.lw_mealy.specs.Machine.{IsWithinLimits, MealyMachine}
use Rattle.lw_json.specs.MachineText.{written_text}
use Rattle.lw_json.specs.declared.files.Machine.{Machine}
use Rattle.lw_outside.specs.Files.{FilesState}
use Rattle.lw_rounds.specs.declared.learned.Learned.{Learned}
use Rattle.lw_rounds.specs.declared.stops.LearnStop.{LearnStop}
use Rattle.lw_learn.specs.Saving.{IsWritten}
use Rattle.lw_learn.specs.Writing.{StaysBesides}
use Rattle.lw_learn.specs.declared.saving.Saved.{Saved}

-- the text of a machine file with one member more, its first: that the machine is a hypothesis
abbrev pub hypothesis_text : Machine → List ℕ
hypothesis_text m = codes "{\"hypothesis\":true," ++ drop 1 (written_text m)

-- a complete machine of these letters and outputs was written under the name, or that failed, or memory ran out before it
pub record WritesHypothesis (name : List ℕ) (inputs outputs : List (List ℕ)) (files_before files_now : FilesState) : Type 0 where
  pub machine : Machine
  pub complete : IsWithinLimits machine.mealy
  pub inputs_are : machine.inputs ≡ inputs
  pub outputs_are : machine.outputs ≡ outputs
  pub was : Saved
  pub written : IsWritten name (hypothesis_text machine) files_before files_now was
  pub beside : StaysBesides (Some name) None None files_before.holds files_now.holds

-- so it is where a file is named and there is no model; or nothing was left, or there was no memory for it. Else nothing is done
abbrev pub LeavesHypothesis : Option (List ℕ) → Option MealyMachine → (inputs outputs : List (List ℕ)) → (files_before files_now : FilesState) → Type 0
LeavesHypothesis None model inputs outputs files_before files_now = files_now ≡ files_before
LeavesHypothesis (Some name) (Some model) inputs outputs files_before files_now = files_now ≡ files_before
LeavesHypothesis (Some name) None inputs outputs files_before files_now = (files_now ≡ files_before) ⊎ WritesHypothesis name inputs outputs files_before files_now

-- what leaving it did: nothing was read
pub record LeavesLast (file : Option (List ℕ)) (model : Option MealyMachine) (inputs outputs : List (List ℕ)) (files_before files_now : FilesState) : Type 0 where
  pub left : LeavesHypothesis file model inputs outputs files_before files_now
  pub reads : files_now.reads ≡ files_before.reads
  pub counts : files_before.faults ≤ files_now.faults

-- the model that a learning answered, if it did
abbrev pub model_learned : Result Learned LearnStop → Option MealyMachine
model_learned (Ok l) = Some l.model
model_learned (Err stop) = None
