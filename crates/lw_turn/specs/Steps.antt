-- What each kind of atomic step does to the caller's place at the table, and what it tells.
use Rattle.std.specs.Prelude.{◌≡◌, ℕ, ◌+◌, ◌<◌, ◌==◌, List, [], ◌∷◌, ◌++◌, length, drop, Option, Some, None, MatchBool}
use mathlib.Core.List.{IsPrefix}
use Rattle.atomic_table.specs.Table.{Me, Step}
use Rattle.lw_turn.specs.declared.shared.Entry.{Entry}
use Rattle.lw_turn.specs.declared.view.View.{View}
use Rattle.lw_turn.specs.declared.view.Ended.{Ended}
use Rattle.lw_turn.specs.declared.view.Doing.{Doing}
use Rattle.lw_turn.specs.declared.view.Stage.{Stage}
use Rattle.lw_turn.specs.declared.view.Stage.TheVariants.{Idle, Waiting, Turning, Spent}
use Rattle.lw_turn.specs.History.{entries_of}
use Rattle.lw_turn.specs.Views.{first_view, next_view, ended_view, longer}

-- the number of a ticket, where there is one
abbrev pub ticket_number : Stage → ℕ
ticket_number Idle = 0
ticket_number (Waiting t) = t
ticket_number (Turning t) = t
ticket_number Spent = 0

module _ {A B : Type 0} where
  -- both had seen a beginning of one history
  abbrev pub IsOneHistory : List (Ended A B) → List (Entry A B) → Type 0
  IsOneHistory [] seen = Unit {0}
  IsOneHistory (e ∷ es) seen = IsPrefix seen (longer seen e.seen) × IsPrefix e.seen (longer seen e.seen)

module _ {O A B : Type 0} where
  abbrev pub first_place : O → Doing O A B
  first_place o = record { stage = Idle; view = first_view o }

  abbrev pub spent_place : O → Doing O A B
  spent_place o = record { stage = Spent; view = first_view o }

  -- pass 0 counts one pass more
  abbrev pub one_more : Doing O A B → Doing O A B
  one_more d = record { stage = d.stage; view = record d.view { made = d.view.made + 1 } }

  abbrev pub next_place : Doing O A B → Doing O A B
  next_place d = record { stage = Idle; view = next_view d.view }

  -- pass 0 keeps what a pass that ended knew
  abbrev pub with_ended : Doing O A B → Doing O A B → Doing O A B
  with_ended d e = record { stage = d.stage; view = record d.view { ended = ended_view e.view ∷ d.view.ended } }

  -- pass 0 has seen what the pass that was joined last had seen
  abbrev pub learned : List (Ended A B) → View O A B → View O A B
  learned [] v = v
  learned (e ∷ es) v = record v { seen = longer v.seen e.seen }

  -- what was seen grew to this history, and the growth is the pass's own
  abbrev pub grown : View O A B → List (Entry A B) → View O A B
  grown v history = record v { seen = history; mine = v.mine ++ drop (length v.seen) history }

module _ {C O A B : Type 0} where
  abbrev pub Draw : Step (Option C) → Me (Option C) (Doing O A B) → ℕ → Me (Option C) (Doing O A B) → Type 0
  Draw s me found new = new ≡ (record { stage = Waiting found; view = me.0.view }, me.1)

  abbrev pub Learn : Step (Option C) → Me (Option C) (Doing O A B) → ℕ → Me (Option C) (Doing O A B) → Type 0
  Learn s me found new = (new ≡ (record { stage = me.0.stage; view = learned me.0.view.ended me.0.view }, me.1)) × IsOneHistory me.0.view.ended me.0.view.seen

module _ {C O A B : Type 0} (actors : O → ℕ) (opening : C → O) (entries : C → List (Entry A B)) where
  -- The turn with the ticket t begins: the slot with the core is out with the caller, who has seen the whole history
  pub record IsServed (t : ℕ) (v : View O A B) (core : C) (new : Me (Option C) (Doing O A B)) : Type 0 where
    pub place : new ≡ (record { stage = Turning t; view = record v { seen = entries core } }, (0, Some core) ∷ [])
    pub opened : opening core ≡ v.opening
    pub seen : IsPrefix v.seen (entries core)
    pub mine : entries_of v.number (entries core) ≡ v.mine
    pub actor : v.number < actors v.opening

  abbrev pub Look : Step (Option C) → Me (Option C) (Doing O A B) → ℕ → Me (Option C) (Doing O A B) → Type 0
  Look s me found new = MatchBool (found == ticket_number me.0.stage) ((core : C) × IsServed (ticket_number me.0.stage) me.0.view core new) (new ≡ me)

module _ {C A B : Type 0} (entries : C → List (Entry A B)) where
  abbrev pub history_of : Option C → List (Entry A B)
  history_of None = []
  history_of (Some core) = entries core

  -- the history of the core that is carried
  abbrev pub carried_history : List (ℕ × Option C) → List (Entry A B)
  carried_history [] = []
  carried_history (x ∷ xs) = history_of x.1

module _ {C O A B : Type 0} (entries : C → List (Entry A B)) where
  abbrev pub End : Step (Option C) → Me (Option C) (Doing O A B) → ℕ → Me (Option C) (Doing O A B) → Type 0
  End s me found new = new ≡ (record { stage = Idle; view = grown me.0.view (carried_history entries me.1) }, [])
