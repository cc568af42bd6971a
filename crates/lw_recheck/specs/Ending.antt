-- What the end of `recheck` carries, and what is put to its streams.
use Rattle.std.specs.Prelude.{◌≡◌, ◌⊎◌, ℕ, List, Option, None}
use Rattle.lw_words.specs.Cause.{CountedFault}
use Rattle.lw_words.specs.declared.kept.KeptAnswer.{KeptAnswer}
use Rattle.lw_report.specs.Ends.{IsWithoutLearner}
use Rattle.lw_report.specs.Outcomes.{StandsOrWants}
use Rattle.lw_outside.specs.Streams.{SinkState}
use Rattle.lw_report.specs.Text.{rechecked_line}
use Rattle.lw_report.specs.Writing.{TakesAll, TakesSome, said_text}
use Rattle.lw_report.specs.declared.«end».End.{End}
use Rattle.lw_report.specs.declared.outcome.Outcome.{Outcome}
use Rattle.lw_report.specs.declared.outcome.Outcome.TheVariants.{NoMemory, Rechecked, SinkFault}

-- no model, no learner, and these answers
pub record IsBare (kept : List KeptAnswer) (end : End) : Type 0 where
  pub model : end.model ≡ None
  pub learner : IsWithoutLearner end
  pub kept_is : end.kept.answers ≡ kept
  pub outputs : end.outputs ≡ None

-- a text was put to `err`, whole where that counts no fault, and else in part
pub record IsSaid (text : List ℕ) (err_before err_now : SinkState) : Type 0 where
  pub said : ¬ CountedFault err_before.faults err_now.faults → TakesAll text err_before.taken err_now.taken
  pub part : TakesSome text err_before.taken err_now.taken

-- the outcome's text was put to `err`, by these names of inputs and outputs, where there are some; but there may be no memory
-- for it
pub record IsTold (inputs outputs : Option (List (List ℕ))) (why : Outcome) (kept : List KeptAnswer) (out_before out_now err_before err_now : SinkState) (end : End) : Type 0 where
  pub outcome : StandsOrWants why end.outcome
  pub unput : out_now ≡ out_before
  pub said : IsSaid (said_text inputs outputs kept 0 end.outcome) err_before err_now

-- the line that this many answers are the same was put to `out`
pub record IsPut (answers : ℕ) (out_before out_now err_before err_now : SinkState) (end : End) : Type 0 where
  pub outcome : end.outcome ≡ Rechecked answers
  pub line : TakesAll (rechecked_line answers) out_before.taken out_now.taken
  pub quiet : out_now.faults ≡ out_before.faults
  pub unsaid : err_now ≡ err_before

-- there was no memory for it
pub record IsUnput (kept : List KeptAnswer) (out_before out_now err_before err_now : SinkState) (end : End) : Type 0 where
  pub outcome : end.outcome ≡ NoMemory
  pub unput : out_now ≡ out_before
  pub said : IsSaid (said_text None None kept 0 NoMemory) err_before err_now

-- `out` refused it, or some of it
pub record IsCutOff (answers : ℕ) (kept : List KeptAnswer) (out_before out_now err_before err_now : SinkState) (end : End) : Type 0 where
  pub outcome : end.outcome ≡ SinkFault
  pub refused : CountedFault out_before.faults out_now.faults
  pub part : TakesSome (rechecked_line answers) out_before.taken out_now.taken
  pub said : IsSaid (said_text None None kept 0 SinkFault) err_before err_now

-- each of this many answers was given again
abbrev pub EndsSame : ℕ → List KeptAnswer → (out_before out_now err_before err_now : SinkState) → End → Type 0
EndsSame answers kept out_before out_now err_before err_now end = IsPut answers out_before out_now err_before err_now end ⊎ (IsUnput kept out_before out_now err_before err_now end ⊎ IsCutOff answers kept out_before out_now err_before err_now end)

-- how the outcome was reported
abbrev pub EndsBy : (inputs outputs : Option (List (List ℕ))) → Outcome → List KeptAnswer → (out_before out_now err_before err_now : SinkState) → End → Type 0
EndsBy inputs outputs (Rechecked answers) kept out_before out_now err_before err_now end = EndsSame answers kept out_before out_now err_before err_now end
EndsBy inputs outputs why kept out_before out_now err_before err_now end = IsTold inputs outputs why kept out_before out_now err_before err_now end

-- a call ended with these answers and this outcome
pub record IsEnd (inputs outputs : Option (List (List ℕ))) (why : Outcome) (kept : List KeptAnswer) (out_before out_now err_before err_now : SinkState) (end : End) : Type 0 where
  pub bare : IsBare kept end
  pub told : EndsBy inputs outputs why kept out_before out_now err_before err_now end
