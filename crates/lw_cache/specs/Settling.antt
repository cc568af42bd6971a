-- What an oracle is, what settling a batch does, and what the layers above leave of an oracle.
use Rattle.std.specs.Prelude.{◌≡◌, ℕ, ◌<◌, List, ◌++◌, length, map, Option, Some, None, Result, Ok, Err, OnOk, IfErr, option_and_then, slice_get, slice_index_or, Contains, Bool, true, false, ⊤}
use Rattle.std.specs.List.{All}
use Rattle.lw_words.specs.Word.{Answer, answer_of, answers_of, IsAnswer, IsWord}
use Rattle.lw_words.specs.declared.kept.KeptAnswer.{KeptAnswer}
use Rattle.lw_words.specs.declared.stop.SulStop.{SulStop}
use Rattle.lw_mealy.specs.Machine.{Rows, answer}
use Rattle.lw_mealy.specs.Origin.{Origin}
use Rattle.lw_cache.specs.Asked.{AreAsked}
use Rattle.lw_cache.specs.Clash.{NothingClashes}
use Rattle.lw_cache.specs.FirstClash.{IsFirstClash, IsNewClash}
use Rattle.lw_cache.specs.Known.{IsKnown}
use Rattle.lw_cache.specs.declared.stops.AskStop.{AskStop}
use Rattle.lw_cache.specs.declared.stops.AskStop.TheVariants.{Sul, Clash, NoMemory}
use Rattle.lw_cache.specs.declared.stops.GrowStop.{GrowStop}
use Rattle.lw_cache.specs.declared.stops.GrowStop.TheVariants.{Ask, Crowd}

-- the numbers of inputs and outputs; the names of the outputs, or None where there are none or a settling may bring more;
-- the recorded answers; where the runs of the instances come from, by instance; why an instance stopped, or None where
-- it didn't; the refusal of the last settling, or None where that was answered Ok or there was none; whether one was
-- ever refused; and whether a settling asks exactly the words that have to be asked, each once
pub record OracleState : Type 0 where
  pub inputs : ℕ
  pub outputs : ℕ
  pub names : Option (List (List ℕ))
  pub kept : List KeptAnswer
  pub origins : List Origin
  pub stopped : List (Option SulStop)
  pub stop : Option AskStop
  pub refused : Bool
  pub exact : Bool

-- what nothing changes of an oracle
pub record IsSame (before now : OracleState) : Type 0 where
  pub inputs : now.inputs ≡ before.inputs
  pub outputs : now.outputs ≡ before.outputs
  pub names : now.names ≡ before.names
  pub origins : now.origins ≡ before.origins
  pub exact : now.exact ≡ before.exact

-- an answer of an observed machine is the machine's
abbrev pub IsOf : Option Rows → Answer → Type 0
IsOf None k = Unit {0}
IsOf (Some m) k = answer m k.word ≡ k.outs

-- the machine that an instance tells, if it is in the list and tells one
abbrev pub told_machine : List Origin → ℕ → Option Rows
told_machine origins instance = option_and_then (λ o. o.machine) (slice_get origins instance)

-- each recorded answer is to a word over the inputs, with as many outputs, each below their number; and it is the
-- answer of its instance's machine, where that is observed
pub record KeepsAnswers (inputs outputs : ℕ) (origins : List Origin) (kept : List KeptAnswer) : Type 0 where
  pub answers : All (λ k. IsAnswer inputs (answer_of k)) kept
  pub outputs_below : All (λ k. IsWord outputs k.outs) kept
  pub told : All (λ k. IsOf (told_machine origins k.instance) (answer_of k)) kept

abbrev pub Keeps : OracleState → Type 0
Keeps o = KeepsAnswers o.inputs o.outputs o.origins o.kept

-- the recorded answers gain some at their end, each to a word of the batch
pub record GainsAnswers (batch : List (List ℕ)) (before now : List KeptAnswer) : Type 0 where
  pub gained : List KeptAnswer
  pub at_end : now ≡ before ++ gained
  pub of_batch : All (λ k. Contains batch k.word) gained

-- the recorded answers gain some at their end, each to a word of this kind
pub record GainsOnly (Asked : List ℕ → Type 0) (before now : List KeptAnswer) : Type 0 where
  pub gained : List KeptAnswer
  pub at_end : now ≡ before ++ gained
  pub each : All (λ k. Asked k.word) gained

-- the words of the answers that are gained are exactly those that had to be asked, each once
pub record GainsExactly (batch : List (List ℕ)) (before now : List KeptAnswer) : Type 0 where
  pub gained : List KeptAnswer
  pub at_end : now ≡ before ++ gained
  pub asked : AreAsked batch (answers_of before) (map (λ k. k.word) gained)

-- an oracle's stop is the refusal that it answered, or None after Ok
abbrev pub TellsStop : Result ⊤ AskStop → Option AskStop → Type 0
TellsStop (Ok _) stop = stop ≡ None
TellsStop (Err e) stop = stop ≡ Some e

-- whether an oracle ever refused, once this was answered
abbrev pub refused_after : Bool → Result ⊤ AskStop → Bool
refused_after refused (Ok _) = refused
refused_after refused (Err _) = true

-- the stop is neither a system's nor a clash, so an oracle that tells it may be asked again
abbrev pub MayAsk : Option AskStop → Type 0
MayAsk None = Unit {0}
MayAsk (Some (Sul instance stop)) = ⊥
MayAsk (Some (Clash clash)) = ⊥
MayAsk (Some NoMemory) = Unit {0}

-- this instance of an oracle has stopped so
abbrev pub InstanceHasStopped : OracleState → ℕ → SulStop → Type 0
InstanceHasStopped o instance stop = (instance < length o.origins) × (slice_index_or o.stopped instance None ≡ Some stop)

-- no instance of an oracle has stopped
abbrev pub NoneStopped : OracleState → Type 0
NoneStopped o = (i : ℕ) → slice_index_or o.stopped i None ≡ None

-- an instance that has stopped stays so; and where none had and nothing is refused, none has
pub record StopsStay (before now : OracleState) : Type 0 where
  pub count : length now.stopped ≡ length before.stopped
  pub stay : (i : ℕ) (stop : SulStop) → slice_index_or before.stopped i None ≡ Some stop → slice_index_or now.stopped i None ≡ Some stop
  pub unrefused : before.refused ≡ false → now.refused ≡ false → NoneStopped before → NoneStopped now

-- why a settling stopped: an instance did, or an answer that was gained clashed, the first of those that did
abbrev pub IsSettleCause : (before now : OracleState) → AskStop → Type 0
IsSettleCause before now (Sul instance stop) = InstanceHasStopped now instance stop
IsSettleCause before now (Clash clash) = IsNewClash (length before.kept) now.kept clash
IsSettleCause before now NoMemory = Unit {0}

-- an oracle once it has settled a batch, or was refused; the answers that it gained are runs of its instances
pub record Settles (batch : List (List ℕ)) (before now : OracleState) (result : Result ⊤ AskStop) : Type 0 where
  pub known : OnOk result (All (IsKnown (answers_of now.kept)) batch)
  pub unclashed : OnOk result (NothingClashes (answers_of before.kept) → NothingClashes (answers_of now.kept))
  pub gains : GainsAnswers batch before.kept now.kept
  pub instances : All (λ k. k.instance < length before.origins) gains.gained
  pub exactly : OnOk result (before.exact ≡ true → GainsExactly batch before.kept now.kept)
  pub keeps : Keeps now
  pub stop : TellsStop result now.stop
  pub cause : MayAsk before.stop → IfErr result (IsSettleCause before now)
  pub refused : now.refused ≡ refused_after before.refused result
  pub stops : StopsStay before now
  pub same : IsSame before now

-- what a call of a layer above leaves as its oracle's stop, by the stop that the call answers, or None where it answers
-- anything else: a system's stop or a clash is the oracle's, and after all else the oracle may be asked again
abbrev pub LeavesStop : Option AskStop → Option AskStop → Type 0
LeavesStop None now = MayAsk now
LeavesStop (Some (Sul instance stop)) now = now ≡ Some (Sul instance stop)
LeavesStop (Some (Clash clash)) now = now ≡ Some (Clash clash)
LeavesStop (Some NoMemory) now = MayAsk now

-- the stop of the oracle that a call answers, or None where it answers anything else
abbrev pub asked_stop : {X : Type 0} → Result X AskStop → Option AskStop
asked_stop (Ok x) = None
asked_stop (Err stop) = Some stop

abbrev pub grown_stop : {X : Type 0} → Result X GrowStop → Option AskStop
grown_stop (Ok x) = None
grown_stop (Err (Ask stop)) = Some stop
grown_stop (Err (Crowd words)) = None

-- the cause of that stop: an instance stopped; or, where nothing clashed before, the first two of all recorded answers
-- that no one machine agrees with
abbrev pub IsStopCause : (before now : OracleState) → Option AskStop → Type 0
IsStopCause before now None = Unit {0}
IsStopCause before now (Some (Sul instance stop)) = InstanceHasStopped now instance stop
IsStopCause before now (Some (Clash clash)) = NothingClashes (answers_of before.kept) → IsFirstClash (answers_of now.kept) clash
IsStopCause before now (Some NoMemory) = Unit {0}

-- what a call of a layer above leaves of its oracle, by that stop: more answers at the end of those it kept, each a run of an
-- instance; where no stop is answered, none was refused, and no clash came; and a stop has its cause, where the oracle might be
-- asked
pub record Leaves (before now : OracleState) (stop : Option AskStop) : Type 0 where
  pub gained : List KeptAnswer
  pub at_end : now.kept ≡ before.kept ++ gained
  pub instances : All (λ k. k.instance < length before.origins) gained
  pub keeps : Keeps now
  pub same : IsSame before now
  pub told : LeavesStop stop now.stop
  pub stops : StopsStay before now
  pub refused : stop ≡ None → now.refused ≡ before.refused
  pub unclashed : stop ≡ None → NothingClashes (answers_of before.kept) → NothingClashes (answers_of now.kept)
  pub cause : MayAsk before.stop → IsStopCause before now stop
