-- What a call of `help` did.
use Rattle.std.specs.Prelude.{◌≡◌, ◌⊎◌, ℕ, List, [], None}
use Rattle.lw_words.specs.Cause.{CountedFault}
use Rattle.lw_outside.specs.Streams.{SinkState}
use Rattle.lw_report.specs.Ends.{IsWithoutLearner}
use Rattle.lw_report.specs.Writing.{TakesAll, TakesSome, said_text}
use Rattle.lw_report.specs.declared.«end».End.{End}
use Rattle.lw_report.specs.declared.outcome.Outcome.{Outcome}
use Rattle.lw_report.specs.declared.outcome.Outcome.TheVariants.{Helped, NoMemory, SinkFault}

-- the text was put to `out` whole
pub record IsHelped (text : List ℕ) (out_before out_now err_before err_now : SinkState) (outcome : Outcome) : Type 0 where
  pub outcome_is : outcome ≡ Helped
  pub put : TakesAll text out_before.taken out_now.taken
  pub quiet : out_now.faults ≡ out_before.faults
  pub silent : err_now ≡ err_before

-- `out` refused the text, or the rest of it
pub record IsRefusedHelp (text : List ℕ) (out_before out_now : SinkState) (outcome : Outcome) : Type 0 where
  pub outcome_is : outcome ≡ SinkFault
  pub fault : CountedFault out_before.faults out_now.faults
  pub part : TakesSome text out_before.taken out_now.taken

-- memory ran out, and nothing was put to `out`
pub record LacksMemory (out_before out_now : SinkState) (outcome : Outcome) : Type 0 where
  pub outcome_is : outcome ≡ NoMemory
  pub unwritten : out_now ≡ out_before

-- one of these; nothing is said but the outcome's text, on `err`, which is empty where the text was put
pub record IsHelpRun (text : List ℕ) (out_before out_now err_before err_now : SinkState) (end : End) : Type 0 where
  pub no_model : end.model ≡ None
  pub no_learner : IsWithoutLearner end
  pub nothing_kept : end.kept.answers ≡ []
  pub no_outputs : end.outputs ≡ None
  pub comes :
      IsHelped text out_before out_now err_before err_now end.outcome
      ⊎ (IsRefusedHelp text out_before out_now end.outcome ⊎ LacksMemory out_before out_now end.outcome)
  pub said : ¬ CountedFault err_before.faults err_now.faults →
      TakesAll (said_text None None [] 0 end.outcome) err_before.taken err_now.taken
  pub part : TakesSome (said_text None None [] 0 end.outcome) err_before.taken err_now.taken
