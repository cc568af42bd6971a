-- What a call of `ask` did.
use Rattle.std.specs.Prelude.{◌≡◌, ◌⊎◌, ℕ, List, [], Some, None, Result, Err}
use Rattle.lw_words.specs.Cause.{CountedFault}
use Rattle.lw_words.specs.declared.kept.KeptAnswer.{KeptAnswer}
use Rattle.lw_words.specs.declared.stop.SulStop.{SulStop}
use Rattle.lw_json.specs.declared.files.Machine.{Machine}
use Rattle.lw_json.specs.declared.setup.Command.{Command}
use Rattle.lw_outside.specs.declared.links.StartFailure.{StartFailure}
use Rattle.lw_outside.specs.declared.links.StartStop.{StartStop}
use Rattle.lw_sul.specs.declared.runs.Run.{Run}
use Rattle.lw_outside.specs.Links.{SpawnerState}
use Rattle.lw_outside.specs.Files.{FilesState}
use Rattle.lw_outside.specs.Streams.{SinkState}
use Rattle.lw_system.specs.Finding.{HasHint}
use Rattle.lw_system.specs.Goals.{IsNoSystemFor, ReadsSystemFor}
use Rattle.lw_system.specs.Reads.{MadeReads}
use Rattle.lw_system.specs.Spawners.{HasNotStarted}
use Rattle.lw_system.specs.Systems.{letters_of}
use Rattle.lw_system.specs.declared.stops.NoSystem.{NoSystem}
use Rattle.lw_system.specs.declared.system.System.{System}
use Rattle.lw_system.specs.declared.system.System.TheVariants.{Table, Children}
use Rattle.lw_report.specs.Ends.{IsWithoutLearner}
use Rattle.lw_report.specs.Outcomes.{StandsOrWants}
use Rattle.lw_report.specs.Stops.{no_system_outcome, start_outcome}
use Rattle.lw_report.specs.Writing.{TakesAll, TakesSome, said_text}
use Rattle.lw_report.specs.declared.«end».End.{End}
use Rattle.lw_report.specs.declared.outcome.Outcome.{Outcome}
use Rattle.lw_wordlist.specs.Words.{IsFirstUnknown, words_of_texts}
use Rattle.lw_wordlist.specs.declared.words.WordStop.{WordStop}
use Rattle.lw_wordlist.specs.declared.words.WordStop.TheVariants.{Unknown}
use Rattle.lw_ask.specs.Arguments.{AskValues}
use Rattle.lw_ask.specs.Asking.{HasPut}
use Rattle.lw_ask.specs.Child.{AsksChild}
use Rattle.lw_ask.specs.Hints.{TakesHint}
use Rattle.lw_ask.specs.Outcomes.{came_outcome, word_outcome}
use Rattle.lw_ask.specs.declared.stop.AskingStop.{AskingStop}
use Rattle.lw_ask.specs.declared.stop.AskingStop.TheVariants.{Sul}

-- a machine was asked, which doesn't stop
pub record AsksMachine (m : Machine) (words : List (List ℕ)) (out_before out_now : SinkState) (kept : List KeptAnswer) (why : Outcome) : Type 0 where
  pub came : Result (Unit {0}) AskingStop
  pub outcome : why ≡ came_outcome came
  pub runs : List Run
  pub put : HasPut (Some m.mealy.rows) m.inputs words m.outputs runs kept out_before out_now came
  pub sound : (why : SulStop) → ¬ (came ≡ Err (Sul why))

-- a child was asked
pub record AsksStarted (c : Command) (words : List (List ℕ)) (spawner_before spawner_now : SpawnerState) (out_before out_now : SinkState) (kept : List KeptAnswer) (why : Outcome) : Type 0 where
  pub came : Result (Unit {0}) AskingStop
  pub outcome : why ≡ came_outcome came
  pub asks : AsksChild c.words c.inputs c.outputs words spawner_before spawner_now out_before out_now kept came

-- no child was asked, for this cause, or because memory ran out
pub record AsksNone (c : Command) (spawner_before spawner_now : SpawnerState) (out_before out_now : SinkState) (kept : List KeptAnswer) (why : Outcome) : Type 0 where
  pub stop : StartStop
  pub cause : StartFailure
  pub outcome : why ≡ start_outcome cause stop
  pub spawner : HasNotStarted c.words spawner_before spawner_now stop
  pub nothing : kept ≡ []
  pub unput : out_now ≡ out_before

abbrev pub AsksCommand : Command → (words : List (List ℕ)) → (spawner_before spawner_now : SpawnerState) → (out_before out_now : SinkState) → List KeptAnswer → Outcome → Type 0
AsksCommand c words spawner_before spawner_now out_before out_now kept why = AsksStarted c words spawner_before spawner_now out_before out_now kept why ⊎ AsksNone c spawner_before spawner_now out_before out_now kept why

-- a system was asked words, over a spawner and `out`; these answers are kept
abbrev pub AsksSystem : System → (words : List (List ℕ)) → (spawner_before spawner_now : SpawnerState) → (out_before out_now : SinkState) → List KeptAnswer → Outcome → Type 0
AsksSystem (Table m) words spawner_before spawner_now out_before out_now kept why = (spawner_now ≡ spawner_before) × AsksMachine m words out_before out_now kept why
AsksSystem (Children c) words spawner_before spawner_now out_before out_now kept why = AsksCommand c words spawner_before spawner_now out_before out_now kept why

-- the texts are no words of a system, or there is no memory for these: nothing is asked
pub record HasNoWords (s : System) (texts : List (List ℕ)) (spawner_before spawner_now : SpawnerState) (out_before out_now : SinkState) (kept : List KeptAnswer) (why : Outcome) : Type 0 where
  pub stop : WordStop
  pub outcome : why ≡ word_outcome stop
  pub unknown : (word place : ℕ) → stop ≡ Unknown word place →
      IsFirstUnknown (letters_of s) texts word place
  pub nothing : kept ≡ []
  pub unstarted : spawner_now ≡ spawner_before
  pub unput : out_now ≡ out_before

-- the texts are words of a system, which was asked them
pub record AsksWords (s : System) (texts : List (List ℕ)) (spawner_before spawner_now : SpawnerState) (out_before out_now : SinkState) (kept : List KeptAnswer) (why : Outcome) : Type 0 where
  pub words : List (List ℕ)
  pub spells : words_of_texts (letters_of s) texts ≡ Some words
  pub asks : AsksSystem s words spawner_before spawner_now out_before out_now kept why

abbrev pub AsksTexts : System → (texts : List (List ℕ)) → (spawner_before spawner_now : SpawnerState) → (out_before out_now : SinkState) → List KeptAnswer → Outcome → Type 0
AsksTexts s texts spawner_before spawner_now out_before out_now kept why = AsksWords s texts spawner_before spawner_now out_before out_now kept why ⊎ HasNoWords s texts spawner_before spawner_now out_before out_now kept why

-- the files say no system, with this hint: nothing is asked
pub record HasNoSystem (a : AskValues) (files_before files_now : FilesState) (spawner_before spawner_now : SpawnerState) (out_before out_now : SinkState) (hint : List ℕ) (kept : List KeptAnswer) (why : Outcome) : Type 0 where
  pub stop : NoSystem
  pub outcome : why ≡ no_system_outcome stop
  pub cause : IsNoSystemFor a.goal a.source a.system files_before files_now hint stop
  pub nothing : kept ≡ []
  pub unstarted : spawner_now ≡ spawner_before
  pub unput : out_now ≡ out_before

-- the files say a system, by reads of which none failed, and this hint
pub record HasSystem (a : AskValues) (files_before files_now : FilesState) (spawner_before spawner_now : SpawnerState) (out_before out_now : SinkState) (hint : List ℕ) (kept : List KeptAnswer) (why : Outcome) : Type 0 where
  pub system : System
  pub reads : ReadsSystemFor a.goal a.source a.system files_before.holds files_before.reads files_now.reads system
  pub made : MadeReads files_before files_now []
  pub quiet : files_now.faults ≡ files_before.faults
  pub told : HasHint a.source a.system files_before.reads files_now.reads hint
  pub asks : AsksTexts system a.words spawner_before spawner_now out_before out_now kept why

-- a call ended with these answers, its outcome's text put to `err`; but there may be no memory for that text
pub record IsEnd (why : Outcome) (kept : List KeptAnswer) (err_before err_now : SinkState) (end : End) : Type 0 where
  pub outcome : StandsOrWants why end.outcome
  pub model : end.model ≡ None
  pub learner : IsWithoutLearner end
  pub kept_is : end.kept.answers ≡ kept
  pub outputs : end.outputs ≡ None
  pub said : ¬ CountedFault err_before.faults err_now.faults →
      TakesAll (said_text None None kept 0 end.outcome) err_before.taken err_now.taken
  pub part : TakesSome (said_text None None kept 0 end.outcome) err_before.taken err_now.taken

-- a call with these arguments changed files, a spawner, `out` and `err` so, and came to the end; the hint stands first on `err`
pub record IsAskRun (a : AskValues) (files_before files_now : FilesState) (spawner_before spawner_now : SpawnerState) (out_before out_now err_before err_now : SinkState) (end : End) : Type 0 where
  pub why : Outcome
  pub kept : List KeptAnswer
  pub hint : List ℕ
  pub err_hinted : SinkState
  pub came : HasSystem a files_before files_now spawner_before spawner_now out_before out_now hint kept why ⊎ HasNoSystem a files_before files_now spawner_before spawner_now out_before out_now hint kept why
  pub hinted : TakesHint hint err_before err_hinted
  pub ended : IsEnd why kept err_hinted err_now end
  pub holds : files_now.holds ≡ files_before.holds
