-- What a call of the program did, by the call that its arguments make.
use Rattle.std.specs.Prelude.{◌≡◌, ◌⊎◌, ◌++◌, ℕ, List, [], Option, Some, None}
use Rattle.lw_words.specs.Cause.{CountedFault}
use Rattle.lw_outside.specs.declared.links.StartFailure.{StartFailure}
use Rattle.lw_report.specs.Ends.{IsWithoutLearner}
use Rattle.lw_report.specs.Outcomes.{status_of}
use Rattle.lw_report.specs.Text.{usage_lines}
use Rattle.lw_report.specs.Writing.{TakesAll, TakesSome, said_text}
use Rattle.lw_report.specs.declared.«end».End.{End}
use Rattle.lw_report.specs.declared.outcome.Outcome.{Outcome}
use Rattle.lw_report.specs.declared.outcome.Outcome.TheVariants.{NoMemory, Unstarted, Usage}
use Rattle.lw_outside.specs.Streams.{SinkState}
use Rattle.lw_ask.specs.Arguments.{AskValues}
use Rattle.lw_ask.specs.AskRun.{IsAskRun}
use Rattle.lw_check.specs.CheckRun.{IsCheckRun}
use Rattle.lw_compare.specs.CompareRun.{IsCompareRun}
use Rattle.lw_learn.specs.Arguments.{AsBegun, LearnValues}
use Rattle.lw_learn.specs.LearnRun.{IsLearnRun}
use Rattle.lw_recheck.specs.Arguments.{RecheckValues}
use Rattle.lw_recheck.specs.RecheckRun.{IsRecheckRun}
use Rattle.lw_serve.specs.ServeRun.{IsServeRun}
use Rattle.lw_trial.specs.Arguments.{TrialValues}
use Rattle.lw_trial.specs.TrialRun.{IsTrialRun}
use Rattle.lw_top.specs.Call.{CallValues, Learn, Check, Trial, Serve, Ask, Compare, Recheck, Help, call_of}
use Rattle.lw_top.specs.CheckCommand.{CheckValues}
use Rattle.lw_top.specs.FilePairs.{PairValues}
use Rattle.lw_top.specs.HelpRun.{IsHelpRun}
use Rattle.lw_top.specs.Untaken.{reason_line}
use Rattle.lw_top.specs.World.{WorldState, CountsOn}
use Rattle.lw_top.specs.declared.values.ArgumentStop.{ArgumentStop}
use Rattle.lw_top.specs.declared.values.ArgumentStop.TheVariants as stop

-- the outcome of arguments that weren't taken
abbrev pub argument_outcome : ArgumentStop → Outcome
argument_outcome stop.Usage = Usage
argument_outcome stop.NoMemory = NoMemory

-- an end with nothing but its outcome, whose text was put to `err`
pub record TellsOutcome (before now : SinkState) (end : End) : Type 0 where
  pub model : end.model ≡ None
  pub learner : IsWithoutLearner end
  pub kept : end.kept.answers ≡ []
  pub outputs : end.outputs ≡ None
  pub said : ¬ CountedFault before.faults now.faults →
      TakesAll (said_text None None [] 0 end.outcome) before.taken now.taken
  pub part : TakesSome (said_text None None [] 0 end.outcome) before.taken now.taken

-- an end with nothing but the usage, whose text was put to `err`, and behind it the line that tells why no command takes the
-- arguments
pub record TellsReason (words : List (List ℕ)) (before now : SinkState) (end : End) : Type 0 where
  pub outcome : end.outcome ≡ Usage
  pub model : end.model ≡ None
  pub learner : IsWithoutLearner end
  pub kept : end.kept.answers ≡ []
  pub outputs : end.outputs ≡ None
  pub said : ¬ CountedFault before.faults now.faults →
      TakesAll (usage_lines ++ reason_line words) before.taken now.taken
  pub part : TakesSome (usage_lines ++ reason_line words) before.taken now.taken

-- an end out of memory, with nothing but that text
pub record TellsNoMemory (before now : SinkState) (end : End) : Type 0 where
  pub outcome : end.outcome ≡ NoMemory
  pub tells : TellsOutcome before now end

-- arguments were not taken: nothing was read, started, asked for, written or put to `err` but the usage with the reason, or that
-- memory ran out
pub record ArgumentsAreRefused (words : List (List ℕ)) (before now : WorldState) (end : End) : Type 0 where
  pub outcome : (end.outcome ≡ Usage) ⊎ (end.outcome ≡ NoMemory)
  pub files : now.files ≡ before.files
  pub spawner : now.spawner ≡ before.spawner
  pub input : now.input ≡ before.input
  pub out : now.out ≡ before.out
  pub ended : TellsReason words before.err now.err end ⊎ TellsNoMemory before.err now.err end

-- why no child was started, where that is the outcome, is what the spawner tells
abbrev pub TellsCause : WorldState → Outcome → Type 0
TellsCause now outcome = (cause : StartFailure) → outcome ≡ Unstarted cause → cause ≡ now.spawner.cause

-- what each command did, and what it didn't touch
pub record RunsLearn (arguments : LearnValues) (before now : WorldState) (end : End) : Type 0 where
  pub ran : AsBegun arguments (λ a. IsLearnRun a before.files now.files before.spawner now.spawner
      before.out now.out before.err now.err now.log end)
  pub input : now.input ≡ before.input

pub record RunsCheck (arguments : CheckValues) (before now : WorldState) (end : End) : Type 0 where
  pub ran : IsCheckRun arguments.goal arguments.suite arguments.model arguments.answers arguments.extra
      before.files now.files before.out now.out before.err now.err end
  pub spawner : now.spawner ≡ before.spawner
  pub input : now.input ≡ before.input
  pub log : now.log ≡ before.log

pub record RunsTrial (arguments : TrialValues) (before now : WorldState) (end : End) : Type 0 where
  pub ran : IsTrialRun arguments before.out now.out before.err now.err end
  pub files : now.files ≡ before.files
  pub spawner : now.spawner ≡ before.spawner
  pub input : now.input ≡ before.input
  pub log : now.log ≡ before.log

pub record RunsServe (model : List ℕ) (before now : WorldState) (end : End) : Type 0 where
  pub ran : IsServeRun model before.files now.files before.input now.input before.out now.out
      before.err now.err end
  pub spawner : now.spawner ≡ before.spawner
  pub log : now.log ≡ before.log

pub record RunsAsk (arguments : AskValues) (before now : WorldState) (end : End) : Type 0 where
  pub ran : IsAskRun arguments before.files now.files before.spawner now.spawner
      before.out now.out before.err now.err end
  pub cause : TellsCause now end.outcome
  pub input : now.input ≡ before.input
  pub log : now.log ≡ before.log

pub record RunsCompare (models : PairValues) (before now : WorldState) (end : End) : Type 0 where
  pub ran : IsCompareRun models.first models.second before.files now.files before.out now.out
      before.err now.err end
  pub spawner : now.spawner ≡ before.spawner
  pub input : now.input ≡ before.input
  pub log : now.log ≡ before.log

pub record RunsRecheck (arguments : RecheckValues) (before now : WorldState) (end : End) : Type 0 where
  pub ran : IsRecheckRun arguments before.files now.files before.spawner now.spawner
      before.out now.out before.err now.err end
  pub cause : TellsCause now end.outcome
  pub input : now.input ≡ before.input
  pub log : now.log ≡ before.log

pub record RunsHelp (text : List ℕ) (before now : WorldState) (end : End) : Type 0 where
  pub ran : IsHelpRun text before.out now.out before.err now.err end
  pub files : now.files ≡ before.files
  pub spawner : now.spawner ≡ before.spawner
  pub input : now.input ≡ before.input
  pub log : now.log ≡ before.log

-- by the call that the arguments make
abbrev pub Runs : List (List ℕ) → Option CallValues → WorldState → WorldState → End → Type 0
Runs words None before now end = ArgumentsAreRefused words before now end
Runs words (Some (Learn arguments)) before now end = RunsLearn arguments before now end
Runs words (Some (Check arguments)) before now end = RunsCheck arguments before now end
Runs words (Some (Trial arguments)) before now end = RunsTrial arguments before now end
Runs words (Some (Serve model)) before now end = RunsServe model before now end
Runs words (Some (Ask arguments)) before now end = RunsAsk arguments before now end
Runs words (Some (Compare models)) before now end = RunsCompare models before now end
Runs words (Some (Recheck arguments)) before now end = RunsRecheck arguments before now end
Runs words (Some (Help text)) before now end = RunsHelp text before now end

-- a call of the program with these arguments
pub record IsRun (words : List (List ℕ)) (before now : WorldState) (end : End) : Type 0 where
  pub status : end.status ≡ status_of end.outcome
  pub ran : Runs words (call_of words) before now end
  -- the usage exactly where no command takes the arguments, but that memory may run out
  pub usage : end.outcome ≡ Usage → call_of words ≡ None
  pub counts : CountsOn before now
