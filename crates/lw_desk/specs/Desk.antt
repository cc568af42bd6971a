-- What contracts see of a desk, and what it leaves at the end.
use Rattle.std.specs.Prelude.{◌≡◌, ℕ, List, [], Option}
use Rattle.lw_cache.specs.Caching.{Caching}
use Rattle.lw_cache.specs.declared.stops.AskStop.{AskStop}
use Rattle.lw_turn.specs.declared.shared.Entry.{Entry}
use Rattle.lw_desk.specs.Ending.{FreeComeUp}
use Rattle.lw_names.specs.Naming.{Naming}
use Rattle.lw_desk.specs.Step.{DeskState, CountsLeft}
use Rattle.lw_desk.specs.History.{DeskOpening, opened, Replays}
use Rattle.lw_desk.specs.declared.ask.Ask.{Ask}
use Rattle.lw_desk.specs.declared.ask.Reply.{Reply}

-- what it began with, and the entries since
pub record DeskHistory : Type 0 where
  pub opening : DeskOpening
  pub entries : List (Entry Ask Reply)

-- the answers, the names and the stop are those to which the entries lead, and nothing is claimed; where each free name of the
-- opening came up in a recorded answer, each that was brought since did too
pub record Finishes (d : DeskHistory) (result : Caching × Naming × Option AskStop) : Type 0 where
  pub state : DeskState
  pub replays : Replays d.opening (opened d.opening) d.entries state
  pub kept : result.0.kept ≡ state.kept
  pub claims : result.0.claims ≡ []
  pub naming : result.1 ≡ state.naming
  pub stop : result.2 ≡ state.stop
  pub come_up : FreeComeUp d.opening.kept d.opening.naming → FreeComeUp result.0.kept result.1

-- this many words are left to take in a state to which the entries lead
pub record HasLeft (d : DeskHistory) (left : ℕ) : Type 0 where
  pub state : DeskState
  pub replays : Replays d.opening (opened d.opening) d.entries state
  pub counts : CountsLeft d.opening.batch state left
