-- How a desk keeps its history.
use Rattle.std.specs.Prelude.{◌≡◌, ℕ, ◌<◌, ◌≤◌, ◌^◌, List, length, map, is_some}
use Rattle.lw_words.specs.declared.kept.KeptAnswer.{KeptAnswer}
use Rattle.lw_turn.specs.declared.shared.Entry.{Entry}
use Rattle.lw_names.specs.Naming.{Naming, HasLists}
use Rattle.lw_desk.specs.Step.{DeskState}
use Rattle.lw_desk.specs.History.{DeskOpening, opened, Replays}
use Rattle.lw_desk.specs.bodies.Board.{BoardState, Agrees}
use Rattle.lw_desk.specs.declared.ask.Ask.{Ask}
use Rattle.lw_desk.specs.declared.ask.Reply.{Reply}
use Rattle.lw_desk.specs.declared.asked.Asked.{Asked}

abbrev pub entry : ℕ → Ask → Reply → Entry Ask Reply
entry actor ask reply = record { actor = actor; ask = ask; reply = reply }

abbrev pub entry_of : Asked × Reply → Entry Ask Reply
entry_of p = entry p.0.actor p.0.ask.value p.1

abbrev pub entries_in : List (Asked × Reply) → List (Entry Ask Reply)
entries_in history = map entry_of history

abbrev pub opening_of : List KeptAnswer → Naming → List (List ℕ) → ℕ → DeskOpening
opening_of kept naming batch actors = record { kept = kept; naming = naming; batch = batch; actors = actors }

-- the board stands for a state to which the entries lead from the opening
pub record IsDesk (o : DeskOpening) (entries : List (Entry Ask Reply)) (board : BoardState) : Type 0 where
  pub few_actors : o.actors ≤ 16
  pub few_words : length o.batch < 2 ^ 32
  pub lists : HasLists o.naming.brought o.actors
  pub kind : is_some board.naming.brought ≡ is_some o.naming.brought
  pub state : DeskState
  pub replays : Replays o (opened o) entries state
  pub agrees : Agrees board state
