-- What settling a batch brings to a pool.
use Rattle.std.specs.Prelude.{◌≡◌, ◌⊎◌, ℕ, ◌<◌, ◌≤◌, List, [], ◌++◌, length, map, Some, None, is_some, Result, Err, OnOk, ⊤}
use Rattle.std.specs.List.{All}
use Rattle.lw_words.specs.Word.{answers_of, AllDiffer}
use Rattle.lw_words.specs.declared.kept.KeptAnswer.{KeptAnswer}
use Rattle.lw_cache.specs.Asked.{IsAsked}
use Rattle.lw_cache.specs.Clash.{NothingClashes}
use Rattle.lw_cache.specs.FirstClash.{IsNewClash}
use Rattle.lw_cache.specs.Known.{IsKnown}
use Rattle.lw_cache.specs.Settling.{GainsExactly, TellsStop, MayAsk, refused_after}
use Rattle.lw_cache.specs.declared.stops.Clash.{Clash}
use Rattle.lw_cache.specs.declared.stops.AskStop.{AskStop}
use Rattle.lw_cache.specs.declared.stops.AskStop.TheVariants as stopped
use Rattle.lw_names.specs.Names.{IsGrown}
use Rattle.lw_turn.specs.declared.shared.Entry.{Entry}
use Rattle.lw_turn.specs.History.{entries_of}
use Rattle.lw_desk.specs.History.{DeskOpening, Replays, opened}
use Rattle.lw_desk.specs.Step.{DeskState}
use Rattle.lw_desk.specs.declared.ask.Ask.{Ask}
use Rattle.lw_desk.specs.declared.ask.Reply.{Reply}
use Rattle.lw_pool.specs.Pool.{PoolState, WentOn, seen_at, seen_of, origins_of}
use Rattle.lw_pool.specs.Standing.{PoolStands}
use Rattle.lw_pool.specs.Working.{DidItsPart}

-- the recorded answers gain some at their end, to words that had to be asked, each at most once
pub record GainsSome (batch : List (List ℕ)) (before now : List KeptAnswer) : Type 0 where
  pub gained : List KeptAnswer
  pub at_end : now ≡ before ++ gained
  pub asked : All (λ k. IsAsked batch (answers_of before) k.word) gained
  pub once : AllDiffer (map (λ k. k.word) gained)

-- what the desk of a batch begins with
abbrev pub desk_of : {S : Type 0} → PoolState S → List (List ℕ) → DeskOpening
desk_of p batch = record { kept = p.kept; naming = p.naming; batch = batch; actors = length p.members }

-- a batch was worked off at one desk: the entries of its history, each in turn, lead to the recorded answers, the names
-- and the stop, which so is the first one of the batch; and each entry is a session's, which did what its entries say
pub record IsWorkedOff {S : Type 0} (batch : List (List ℕ)) (before now : PoolState S) : Type 0 where
  pub entries : List (Entry Ask Reply)
  pub state : DeskState
  pub replays : Replays (desk_of before batch) (opened (desk_of before batch)) entries state
  pub kept : now.kept ≡ state.kept
  pub naming : now.naming ≡ state.naming
  pub stop : now.stop ≡ state.stop
  pub parts : (i : ℕ) → i < length (seen_of before) → DidItsPart batch (entries_of i entries) (seen_at (seen_of before) i) (seen_at (seen_of now) i)
  pub others : (n : ℕ) → length (seen_of before) ≤ n → entries_of n entries ≡ []

-- a batch was not begun, since there was no memory for it
pub record IsPutOff {S : Type 0} (before now : PoolState S) : Type 0 where
  pub kept : now.kept ≡ before.kept
  pub naming : now.naming ≡ before.naming
  pub stop : now.stop ≡ Some stopped.NoMemory
  pub sessions : seen_of now ≡ seen_of before

-- a pool once it has settled a batch, or was refused
pub record HasSettled {S : Type 0} (batch : List (List ℕ)) (before now : PoolState S) (result : Result ⊤ AskStop) : Type 0 where
  -- after Ok the batch is known, and just the words were asked that had to be, each once
  pub known : OnOk result (All (IsKnown (answers_of now.kept)) batch)
  pub exactly : OnOk result (GainsExactly batch before.kept now.kept)
  pub unclashed : OnOk result (NothingClashes (answers_of before.kept) → NothingClashes (answers_of now.kept))
  -- else some of them, each at most once; each answer is a run of a session
  pub gains : GainsSome batch before.kept now.kept
  pub instances : All (λ k. k.instance < length (seen_of before)) gains.gained
  -- between its calls a pool is one
  pub stands : PoolStands now
  -- the refusal is reported; after a system's stop or a clash nothing more is asked; and a clash that comes is that of
  -- the first answer of this batch that is not clear
  pub stop : TellsStop result now.stop
  pub refused : now.refused ≡ refused_after before.refused result
  pub sticks : ¬ MayAsk before.stop → now ≡ before
  pub history : MayAsk before.stop → IsWorkedOff batch before now ⊎ IsPutOff before now
  pub clash : MayAsk before.stop → (c : Clash) → result ≡ Err (stopped.Clash c) → IsNewClash (length before.kept) now.kept c
  -- the sessions have gone on; names only came to their end, and stay declared or free
  pub sessions : length (seen_of now) ≡ length (seen_of before)
  pub went_on : (i : ℕ) → i < length (seen_of before) → WentOn (seen_at (seen_of before) i) (seen_at (seen_of now) i)
  pub names : IsGrown before.naming.names now.naming.names
  pub kind : is_some now.naming.brought ≡ is_some before.naming.brought
  pub declared : before.naming.brought ≡ None → now.naming ≡ before.naming
  -- what no settling changes
  pub origins : origins_of (seen_of now) ≡ origins_of (seen_of before)
  pub inputs : now.inputs ≡ before.inputs
  pub outputs : now.outputs ≡ before.outputs
  pub prior : now.prior ≡ before.prior
