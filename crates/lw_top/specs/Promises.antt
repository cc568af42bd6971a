-- What the program promises, a sentence each: clauses of `run`, by the call that its arguments make.
use Rattle.std.specs.Prelude.{◌≡◌, ◌≢◌, ◌⊎◌, ℕ, ◌+◌, ◌<◌, ◌≤◌, List, [], ◌∷◌, ◌++◌, length, Option, Some, None, IfSome}
use Rattle.lw_words.specs.Word.{Answer, answer_at, answer_of, answers_of}
use Rattle.lw_words.specs.Cause.{CountedFault}
use Rattle.lw_words.specs.declared.kept.KeptAnswer.{KeptAnswer}
use Rattle.lw_words.specs.declared.stop.SulStop.{SulStop}
use Rattle.lw_names.specs.Naming.{Naming}
use Rattle.lw_mealy.specs.Machine.{Gives, MealyMachine, IsWithinLimits, Rows, IsMinimal, Sure}
use Rattle.lw_separate.specs.Canonical.{IsCanonical}
use Rattle.lw_chunks.specs.Size.{greatest_suite, suite_size}
use Rattle.lw_cache.specs.Clash.{ClashAt}
use Rattle.lw_cache.specs.FirstClash.{IsFirstClash}
use Rattle.lw_cache.specs.declared.stops.Clash.{Clash}
use Rattle.lw_rounds.specs.Learned.{IsTooMany}
use Rattle.lw_accept.specs.Acceptor.{Automaton, IsAcceptor, IsNamedAcceptor, NamedAcceptor}
use Rattle.lw_accept.specs.AcceptorFile.{IsAcceptorFile}
use Rattle.lw_accept.specs.AcceptorText.{acceptor_written}
use Rattle.lw_accept.specs.Laws.{FixAcceptor}
use Rattle.lw_accept.specs.View.{IsFirstUnviewed, asked_names, viewed, viewed_machine}
use Rattle.lw_json.specs.Formats.{IsAnswersFile}
use Rattle.lw_json.specs.declared.files.Answers.{Answers}
use Rattle.lw_json.specs.declared.files.Machine.{Machine}
use Rattle.lw_json.specs.declared.setup.Command.{Command}
use Rattle.lw_outside.specs.Files.{File, FilesState, ReadsFile}
use Rattle.lw_outside.specs.Links.{LinkState, SpawnerState}
use Rattle.lw_outside.specs.declared.links.StartFailure.{StartFailure}
use Rattle.lw_system.specs.NewLines.{count_of}
use Rattle.lw_system.specs.Spawners.{StartsAndRetires}
use Rattle.lw_system.specs.AcceptorSystems.{IsViewOf}
use Rattle.lw_system.specs.Goals.{IsModelFile, ReadsSystemFor}
use Rattle.lw_system.specs.Systems.{declared_of, letters_of}
use Rattle.lw_system.specs.declared.goal.Goal.{Goal}
use Rattle.lw_system.specs.declared.goal.Goal.TheVariants as aim
use Rattle.lw_system.specs.declared.system.System.{System}
use Rattle.lw_system.specs.declared.system.System.TheVariants as system
use Rattle.lw_workers.specs.Machines.{IsWithin, KeepsRuns}
use Rattle.lw_children.specs.Children.{IsChildStop}
use Rattle.lw_children.specs.Keeping.{KeepsChildren}
use Rattle.lw_report.specs.Learnings.{HasLargeSuite, system_outcome}
use Rattle.lw_report.specs.declared.«end».End.{End}
use Rattle.lw_report.specs.declared.outcome.Outcome.{Outcome}
use Rattle.lw_report.specs.declared.outcome.Outcome.TheVariants.{Accepted, Alphabets, BadAcceptor, BadFile, FileFault, FileTooLong, Learned, NoMemory, Nondeterministic, NotAcceptor, SinkFault, SourceFault, SuiteTooLarge, TooManyStates, UnknownLetter, Unstarted, Usage, Yes}
use Rattle.lw_report.specs.declared.role.Role.{Role}
use Rattle.lw_learn.specs.Arguments.{AsBegun, LearnValues}
use Rattle.lw_learn.specs.Asking.{SaysWords}
use Rattle.lw_learn.specs.Ending.{EndsPlainly, IsSoundSystem, IsUncountedSystem}
use Rattle.lw_learn.specs.Outcomes.{IsBadLine, IsReachedOutcome}
use Rattle.lw_learn.specs.Tasks.{ReadsTask}
use Rattle.lw_learn.specs.Writing.{NothingFailed, PutsAll, StandsInFile}
use Rattle.lw_recheck.specs.Arguments.{RecheckValues}
use Rattle.lw_recheck.specs.Reading.{ReadsBoth}
use Rattle.lw_trial.specs.TrialRun.{IsReachedTrial, IsTriedPlainly, drawn_machine}
use Rattle.lw_top.specs.Call.{CallValues, Learn, Check, Trial, Serve, Ask, Compare, Recheck, Help}
use Rattle.lw_top.specs.CheckCommand.{CheckValues}
use Rattle.lw_top.specs.World.{WorldState}

-- a model is complete, minimal and in canonical form, and agrees with the answers; and every machine of at most k
-- states more that agrees with them equals it on all words
pub record ModelIsRight (k : ℕ) (ks : List Answer) (h : MealyMachine) : Type 0 where
  pub complete : IsWithinLimits h
  pub minimal : IsMinimal h.inputs h.rows
  pub canonical : IsCanonical h.inputs h.rows h.rows
  pub gives : Gives h.rows ks
  pub sure : Sure h.inputs h.rows ks k

-- the model that is reported is the one that is handed back, after as many refinements, and that is right by the
-- recorded answers
pub record HandsModel (k : ℕ) (end : End) : Type 0 where
  pub told : (h : MealyMachine) (refinements : ℕ) → end.outcome ≡ Learned h refinements →
      (end.model ≡ Some h) × (refinements ≡ end.refinements)
  pub right : IfSome end.model (ModelIsRight k (answers_of end.kept.answers))

-- a learned model is right, of `learn` for the extra states of its arguments, and of `trial` for one; other calls have none
abbrev pub LearnedIsRight : Option CallValues → End → Type 0
LearnedIsRight (Some (Learn a)) end = HandsModel a.extra end
LearnedIsRight (Some (Trial a)) end = HandsModel 1 end
LearnedIsRight (Some (Check a)) end = end.model ≡ None
LearnedIsRight (Some (Serve model)) end = end.model ≡ None
LearnedIsRight (Some (Ask a)) end = end.model ≡ None
LearnedIsRight (Some (Compare models)) end = end.model ≡ None
LearnedIsRight (Some (Recheck a)) end = end.model ≡ None
LearnedIsRight (Some (Help text)) end = end.model ≡ None
LearnedIsRight None end = end.model ≡ None

-- answers fix a model: the names of letters and outputs are the same, the model is minimal and agrees with the answers,
-- and every machine that agrees with them and has at most k states more than the model equals it on all words
pub record FixModel (m : Machine) (a : Answers) (k : ℕ) : Type 0 where
  pub inputs : a.inputs ≡ m.inputs
  pub outputs : a.outputs ≡ m.outputs
  pub minimal : IsMinimal m.mealy.inputs m.mealy.rows
  pub gives : Gives m.mealy.rows (answers_of a.kept.answers)
  pub sure : Sure m.mealy.inputs m.mealy.rows (answers_of a.kept.answers) k

-- where an acceptor is checked, the bytes are its file, the model is the machine in its place, and the answers fix it among
-- acceptors: it says as they tell, and every acceptor that does so and has at most k states more accepts the same words
abbrev pub FixFile : Goal → List ℕ → Machine → Answers → ℕ → Type 0
FixFile aim.Machine bytes m a k = Unit {0}
FixFile aim.Acceptor bytes m a k =
    (acceptor : NamedAcceptor) × IsAcceptorFile bytes acceptor × IsViewOf acceptor m × FixAcceptor (length acceptor.inputs) k acceptor.automaton (answers_of a.kept.answers)

-- a model and answers are those of the two files as they were read, one after the other; and the answers fix the model
pub record AnswersFixModel (a : CheckValues) (before now : FilesState) : Type 0 where
  pub model : Machine
  pub answers : Answers
  pub between : List File
  pub model_file : ReadsFile (IsModelFile a.goal) a.model before.holds before.reads between model
  pub answers_file : ReadsFile IsAnswersFile a.answers before.holds between now.reads answers
  pub fixed : FixModel model answers a.extra
  pub among : FixFile a.goal model_file.bytes model answers a.extra

-- a yes is right, and tells the number of the model's states
abbrev pub YesIsRight : Option CallValues → (before now : FilesState) → Outcome → Type 0
YesIsRight (Some (Check a)) before now outcome =
    (states : ℕ) → outcome ≡ Yes states → (fixes : AnswersFixModel a before now) × (states ≡ length fixes.model.mealy.rows)
YesIsRight _ before now outcome = Unit {0}

-- a model, where there is one, has this many letters
abbrev pub IsOverLetters : ℕ → Option MealyMachine → Type 0
IsOverLetters inputs model = IfSome model (λ h. h.inputs ≡ inputs)

-- the names of outputs by which a call's recorded answers are numbered: those that were declared, and those that it
-- hands back
abbrev pub AreNamesOf : (declared : Option (List (List ℕ))) → (outputs : Option Naming) → List (List ℕ) → Type 0
AreNamesOf declared outputs names = IfSome declared (λ own. names ≡ own) × IfSome outputs (λ naming. naming.names ≡ names)

-- what is kept of children, behind prior answers: one link for each that was started, no more than workers, all retired in that
-- order; and what went over each, where it tells that
pub record KeepsLinks (c : Command) (workers : ℕ) (outputs : Option Naming) (prior : List KeptAnswer) (before now : SpawnerState) (kept : List KeptAnswer) : Type 0 where
  pub links : List LinkState
  pub spawner : StartsAndRetires c.words before now links
  pub few : length links ≤ workers
  pub names : List (List ℕ)
  pub named : AreNamesOf c.outputs outputs names
  pub runs : KeepsChildren c.inputs c.outputs names prior kept links

-- what is kept of a system: the runs of instances of a table's machine, or of children
abbrev pub KeepsSystem : ℕ → System → Option Naming → (prior : List KeptAnswer) → (before now : SpawnerState) → (kept : List KeptAnswer) → Type 0
KeepsSystem workers (system.Table m) outputs prior before now kept = (now ≡ before) × KeepsRuns m.mealy workers prior kept
KeepsSystem workers (system.Children c) outputs prior before now kept = KeepsLinks c workers outputs prior before now kept

-- the bytes that the call read say this system and these earlier answers; it may have read more behind them
pub record SaysTask (a : LearnValues) (before now : FilesState) (s : System) (prior : List KeptAnswer) : Type 0 where
  pub between : List File
  pub more : List File
  pub task : ReadsTask a before.holds before.reads between s prior
  pub reads : now.reads ≡ between ++ more

-- the files said a system, earlier answers and words that are asked first, and it was learned; the recorded answers
-- are the earlier ones and its runs, and a model has its letters. A model of a table that was learned by the W-method
-- with no earlier answers is the plain learner's, and so are the refinements and the words of the recorded answers, at
-- every number of workers and in every schedule
pub record KeepsLearned (a : LearnValues) (before now : WorldState) (end : End) : Type 0 where
  pub system : System
  pub prior : List KeptAnswer
  pub task : SaysTask a before.files now.files system prior
  pub keeps : KeepsSystem a.workers system end.outputs prior before.spawner now.spawner end.kept.answers
  pub letters : IsOverLetters (length (letters_of system)) end.model
  pub words : List (List ℕ)
  pub asked : SaysWords a (letters_of system) before.files.holds task.between now.files.reads words
  pub plainly : EndsPlainly a (length (letters_of system)) words prior end

-- a file was refused or can't be written, earlier answers clash, or memory ran out
abbrev pub IsBeforeAsking : Outcome → Type 0
IsBeforeAsking (BadFile role fault) = Unit {0}
IsBeforeAsking (BadAcceptor fault) = Unit {0}
IsBeforeAsking (Alphabets role) = Unit {0}
IsBeforeAsking (FileTooLong role) = Unit {0}
IsBeforeAsking (FileFault role) = Unit {0}
IsBeforeAsking (UnknownLetter word place) = Unit {0}
IsBeforeAsking (Nondeterministic clash) = Unit {0}
IsBeforeAsking NoMemory = Unit {0}
IsBeforeAsking _ = ⊥

-- nothing is kept, or the earlier answers that the bytes which were read say
abbrev pub KeepsPrior : LearnValues → (before now : FilesState) → List KeptAnswer → Type 0
KeepsPrior a before now kept = (kept ≡ []) ⊎ ((s : System) × SaysTask a before now s kept)

-- so no child was started, there is no model, and nothing is kept but earlier answers
pub record AsksNothing (a : LearnValues) (before now : WorldState) (end : End) : Type 0 where
  pub outcome : IsBeforeAsking end.outcome
  pub model : end.model ≡ None
  pub unstarted : now.spawner ≡ before.spawner
  pub kept : KeepsPrior a before.files now.files end.kept.answers

-- the recorded answers are the runs of the instances, behind those of a file of earlier answers, of `learn` and of
-- `trial`; a trial's, too, are the plain learner's of the drawn machine, where a table was learned by the W-method
abbrev pub KeptAreRuns : Option CallValues → WorldState → WorldState → End → Type 0
KeptAreRuns (Some (Learn v)) before now end = AsBegun v (λ a. KeepsLearned a before now end ⊎ AsksNothing a before now end)
KeptAreRuns (Some (Trial a)) before now end =
    KeepsRuns (drawn_machine a) a.workers [] end.kept.answers × IsOverLetters a.inputs end.model × IfSome end.model (λ h. IsTriedPlainly a h.rows end.refinements end.kept.answers)
KeptAreRuns _ before now end = Unit {0}

-- of the system that was learned: where no file, stream or start of a child failed, and some machine of n states that
-- agrees with the recorded answers is within the limits, a model comes within n - 1 refinements, or memory runs out; of
-- `accept` an acceptor comes so, or that there is none. This is where each link counted no fault and no end, and tells
-- that no line came over it that is none; where none counted one, observed or not, it is so too, or an instance said a
-- bad line
pub record ReachesModel (a : LearnValues) (before now : WorldState) (end : End) : Type 0 where
  pub system : System
  pub prior : List KeptAnswer
  pub task : SaysTask a before.files now.files system prior
  pub reached : (m : Rows)
      → NothingFailed (before.files.faults, now.files.faults) (before.out.faults, now.out.faults) (before.err.faults, now.err.faults)
      → IsSoundSystem system before.spawner now.spawner
      → IsWithin (length (letters_of system)) a.extra a.max_states m
      → Gives m (answers_of end.kept.answers)
      → IsReachedOutcome a.goal (length m) end.outcome
  pub counted : (m : Rows)
      → NothingFailed (before.files.faults, now.files.faults) (before.out.faults, now.out.faults) (before.err.faults, now.err.faults)
      → IsUncountedSystem system before.spawner now.spawner
      → IsWithin (length (letters_of system)) a.extra a.max_states m
      → Gives m (answers_of end.kept.answers)
      → IsReachedOutcome a.goal (length m) end.outcome ⊎ IsBadLine a.workers end.outcome

-- a model is reached, of `trial` where the suite of the drawn machine isn't too large
abbrev pub ModelIsReached : Option CallValues → WorldState → WorldState → End → Type 0
ModelIsReached (Some (Learn v)) before now end = AsBegun v (λ a. ReachesModel a before now end ⊎ AsksNothing a before now end)
ModelIsReached (Some (Trial a)) before now end =
    suite_size a.states a.inputs 1 ≤ greatest_suite → ¬ CountedFault before.out.faults now.out.faults → ¬ CountedFault before.err.faults now.err.faults → IsReachedTrial a.states end.outcome
ModelIsReached _ before now end = Unit {0}

-- an acceptor that is reported: the system that was learned has the letters `?` and the acceptor's, and the model is
-- the machine in the acceptor's place; the recorded answers fix it among acceptors; and its text was put to `out`, or
-- stands in the file that is named for it
pub record TellsAcceptor (a : LearnValues) (before now : WorldState) (end : End) (states : ℕ) : Type 0 where
  pub acceptor : NamedAcceptor
  pub named : IsNamedAcceptor acceptor
  pub system : System
  pub prior : List KeptAnswer
  pub task : SaysTask a before.files now.files system prior
  pub letters : letters_of system ≡ asked_names acceptor.inputs
  pub model : end.model ≡ Some (viewed_machine (length acceptor.inputs) acceptor.automaton)
  pub states_are : states ≡ length acceptor.automaton.targets
  pub fixed : FixAcceptor (length acceptor.inputs) a.extra acceptor.automaton (answers_of end.kept.answers)
  pub put : PutsAll a.model (acceptor_written acceptor) before.out.taken now.out.taken
  pub stands : a.model ≢ a.answers → StandsInFile a.model now.files.holds (acceptor_written acceptor)

-- that there is no acceptor: the pair is the first of the model that no acceptor's machine has, and each acceptor whose machine
-- agrees with the recorded answers has more than k states more than the model
pub record TellsNoAcceptor (a : LearnValues) (end : End) (state letter : ℕ) : Type 0 where
  pub model : MealyMachine
  pub model_is : end.model ≡ Some model
  pub letters : ℕ
  pub inputs : model.inputs ≡ letters + 1
  pub first : IsFirstUnviewed model.rows state letter
  pub larger : (m : Automaton) → IsAcceptor letters m → Gives (viewed m) (answers_of end.kept.answers) →
      length model.rows + a.extra < length m.targets

-- an acceptor, or that there is none, is reported only where one is to be learned, and is so
pub record AcceptorIsRight (a : LearnValues) (before now : WorldState) (end : End) : Type 0 where
  pub told : (states refinements : ℕ) → end.outcome ≡ Accepted states refinements →
      (a.goal ≡ aim.Acceptor) × TellsAcceptor a before now end states
  pub none : (state letter : ℕ) → end.outcome ≡ NotAcceptor state letter →
      (a.goal ≡ aim.Acceptor) × TellsNoAcceptor a end state letter

-- neither an acceptor is reported nor that there is none
abbrev pub TellsNeither : Outcome → Type 0
TellsNeither outcome = ((states refinements : ℕ) → ¬ (outcome ≡ Accepted states refinements)) × ((state letter : ℕ) → ¬ (outcome ≡ NotAcceptor state letter))

-- an acceptor that is reported is right, and so is that there is none; no command but `accept` reports either
abbrev pub AcceptedIsRight : Option CallValues → WorldState → WorldState → End → Type 0
AcceptedIsRight (Some (Learn v)) before now end = AsBegun v (λ a. AcceptorIsRight a before now end)
AcceptedIsRight _ before now end = TellsNeither end.outcome

-- a fault that is reported was counted: of the files, of the input, of a stream, or of a start, whose cause is what the
-- spawner tells
pub record FaultsAreCounted (before now : WorldState) (outcome : Outcome) : Type 0 where
  pub file : (role : Role) → outcome ≡ FileFault role → CountedFault before.files.faults now.files.faults
  pub source : outcome ≡ SourceFault → CountedFault before.input.faults now.input.faults
  pub sink : outcome ≡ SinkFault → CountedFault before.out.faults now.out.faults ⊎ CountedFault before.err.faults now.err.faults
  pub start : (cause : StartFailure) → outcome ≡ Unstarted cause → CountedFault before.spawner.faults now.spawner.faults × (cause ≡ now.spawner.cause)

-- the bytes that the call read say this system
abbrev pub FilesSaySystem : Option CallValues → (before now : FilesState) → System → Type 0
FilesSaySystem (Some (Learn v)) before now s = AsBegun v (λ a. (prior : List KeptAnswer) × SaysTask a before now s prior)
FilesSaySystem (Some (Ask a)) before now s = ReadsSystemFor a.goal a.source a.system before.holds before.reads now.reads s
FilesSaySystem (Some (Recheck a)) before now s = (answers : Answers) × ReadsBoth a.setup a.answers before.holds before.reads now.reads s answers
FilesSaySystem _ before now s = ⊥

-- how many instances of the system that files say a call may ask, where it asks any
abbrev pub workers_of : Option CallValues → ℕ
workers_of (Some (Learn a)) = a.workers
workers_of _ = 1

-- an instance of the system that the files say stopped so: it could not be started, or its link, one of those that were
-- retired, says that, where it tells what went over it
pub record InstanceStopped (call : Option CallValues) (before now : WorldState) (instance : ℕ) (stop : SulStop) : Type 0 where
  pub system : System
  pub says : FilesSaySystem call before.files now.files system
  pub within : instance < workers_of call
  pub links : List LinkState
  pub retired : now.spawner.retired ≡ before.spawner.retired ++ links
  pub why : IsChildStop (declared_of system) before.spawner now.spawner links instance stop

-- the answers of the file are kept, and behind them one that came otherwise: it clashes with one of them
pub record CameOtherwise (a : RecheckValues) (before now : FilesState) (kept : List KeptAnswer) (clash : Clash) : Type 0 where
  pub system : System
  pub answers : Answers
  pub reads : ReadsBoth a.setup a.answers before.holds before.reads now.reads system answers
  pub last : KeptAnswer
  pub kept_is : kept ≡ answers.kept.answers ++ last ∷ []
  pub clashes : (clash.first < length answers.kept.answers) × (clash.second ≡ length answers.kept.answers) × ClashAt (answer_at (answers_of answers.kept.answers) clash.first) (answer_of last) clash.place

-- a clash of two recorded answers: the first one, or that of an answer of `recheck` which came otherwise
abbrev pub IsClashOf : Option CallValues → (before now : FilesState) → List KeptAnswer → Clash → Type 0
IsClashOf (Some (Recheck a)) before now kept clash = CameOtherwise a before now kept clash
IsClashOf _ before now kept clash = IsFirstClash (answers_of kept) clash

-- words that are too many, of which any two are apart: one more than there may be states
abbrev pub IsCrowdFor : Option CallValues → List Answer → List (List ℕ) → Type 0
IsCrowdFor (Some (Learn a)) kept words = IsTooMany a.max_states kept words
IsCrowdFor _ kept words = ⊥

-- no machine of fewer states than these agrees with the recorded answers of a system, and the suite of one with this
-- many is too large
pub record LargeForSystem (a : LearnValues) (before now : FilesState) (kept : List KeptAnswer) (states number : ℕ) : Type 0 where
  pub system : System
  pub prior : List KeptAnswer
  pub task : SaysTask a before now system prior
  pub large : HasLargeSuite (length (letters_of system)) (count_of (declared_of system)) a.extra a.max_states (answers_of kept) states number

-- the suite of the model that was read is too large
pub record LargeForModel (a : CheckValues) (before now : FilesState) (states number : ℕ) : Type 0 where
  pub model : Machine
  pub answers : Answers
  pub between : List File
  pub model_file : ReadsFile (IsModelFile a.goal) a.model before.holds before.reads between model
  pub answers_file : ReadsFile IsAnswersFile a.answers before.holds between now.reads answers
  pub large : (states ≡ length model.mealy.rows) × (number ≡ suite_size states model.mealy.inputs a.extra) × (greatest_suite < number)

-- a suite that is too large, by the call
abbrev pub IsLargeFor : Option CallValues → (before now : FilesState) → List KeptAnswer → (states number : ℕ) → Type 0
IsLargeFor (Some (Learn v)) before now kept states number = AsBegun v (λ a. LargeForSystem a before now kept states number)
IsLargeFor (Some (Check a)) before now kept states number = LargeForModel a before now states number
IsLargeFor (Some (Trial v)) before now kept states number = HasLargeSuite v.inputs 2 1 1024 (answers_of kept) states number
IsLargeFor _ before now kept states number = ⊥

-- what is reported of the recorded answers, of a suite or of an instance is so
pub record FindingsHold (call : Option CallValues) (before now : WorldState) (end : End) : Type 0 where
  pub clash : (c : Clash) → end.outcome ≡ Nondeterministic c → IsClashOf call before.files now.files end.kept.answers c
  pub crowd : (words : List (List ℕ)) → end.outcome ≡ TooManyStates words → IsCrowdFor call (answers_of end.kept.answers) words
  pub suite : (states number : ℕ) → end.outcome ≡ SuiteTooLarge states number → IsLargeFor call before.files now.files end.kept.answers states number
  pub stopped : (instance : ℕ) (stop : SulStop) → end.outcome ≡ system_outcome instance stop → InstanceStopped call before now instance stop

-- an outcome tells its cause
pub record CausesAreTold (call : Option CallValues) (before now : WorldState) (end : End) : Type 0 where
  pub usage : end.outcome ≡ Usage → call ≡ None
  pub faults : FaultsAreCounted before now end.outcome
  pub findings : FindingsHold call before now end
