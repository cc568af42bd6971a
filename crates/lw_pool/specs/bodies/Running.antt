-- What a batch leaves of the hands and of what they share.
use Rattle.std.specs.Prelude.{◌≡◌, ◌⊎◌, ℕ, ◌≤◌, List, [], length, Option, Some}
use Rattle.std.specs.List.{All}
use Rattle.lw_words.specs.Word.{answers_of, IsWhole, AllDiffer}
use Rattle.lw_cache.specs.declared.stops.AskStop.{AskStop}
use Rattle.lw_cache.specs.declared.stops.AskStop.TheVariants.{NoMemory}
use Rattle.lw_turn.specs.declared.shared.Entry.{Entry}
use Rattle.lw_turn.specs.History.{entries_of}
use Rattle.lw_desk.specs.Step.{DeskState}
use Rattle.lw_desk.specs.History.{DeskOpening, opened, Replays}
use Rattle.lw_desk.specs.declared.ask.Ask.{Ask}
use Rattle.lw_desk.specs.declared.ask.Reply.{Reply}
use Rattle.lw_pool.specs.declared.hands.Hand.{Hand}
use Rattle.lw_pool.specs.declared.parts.Parts.{Parts}
use Rattle.lw_pool.specs.bodies.Crew.{AllWorkedOff}

-- what a desk of a batch begins with
abbrev pub opening_of : Parts → List (List ℕ) → ℕ → DeskOpening
opening_of parts batch actors = record { kept = parts.cache.kept; naming = parts.names; batch = batch; actors = actors }

-- nothing is claimed, each answer has an output for each letter, and the names are few and differ
pub record AreWhole (parts : Parts) : Type 0 where
  pub claims : parts.cache.claims ≡ []
  pub whole : All IsWhole (answers_of parts.cache.kept)
  pub few : length parts.names.names ≤ 4096
  pub differ : AllDiffer parts.names.names

-- the batch was not begun, since there was no memory
pub record NotBegun {S : Type 0} (o : DeskOpening) (was now : List (Hand S)) (parts : Parts) (stop : Option AskStop) : Type 0 where
  pub hands : now ≡ was
  pub kept : parts.cache.kept ≡ o.kept
  pub names : parts.names ≡ o.naming
  pub memory : stop ≡ Some NoMemory

-- the batch was worked off: what is shared, and the stop, are those to which the entries of some history lead
pub record WasRun {S : Type 0} (o : DeskOpening) (was now : List (Hand S)) (parts : Parts) (stop : Option AskStop) : Type 0 where
  pub entries : List (Entry Ask Reply)
  pub state : DeskState
  pub replays : Replays o (opened o) entries state
  pub worked : AllWorkedOff o entries was now
  pub others : (n : ℕ) → length was ≤ n → entries_of n entries ≡ []
  pub long : length now ≡ length was
  pub kept : parts.cache.kept ≡ state.kept
  pub names : parts.names ≡ state.naming
  pub stop_is : stop ≡ state.stop

abbrev pub AfterBatch : {S : Type 0} → DeskOpening → List (Hand S) → List (Hand S) → Parts → Option AskStop → Type 0
AfterBatch o was now parts stop = NotBegun o was now parts stop ⊎ WasRun o was now parts stop
