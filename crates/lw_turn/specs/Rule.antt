-- The rule of the table, which holds between any two atomic steps.
use Rattle.std.specs.Prelude.{◌≡◌, ℕ, ◌+◌, ◌<◌, ◌≤◌, ◌⊎◌, List, [], ◌∷◌, length, count_by, Bool, is_some, Option, Some, None}
use mathlib.Core.List.{IsPrefix}
use mathlib.Core.Option.{some, none}
use mathlib.Core.Option.{Option as Maybe}
use lib.ListN.{get_elem?}
use Rattle.atomic_table.specs.Table.{State}
use Rattle.lw_turn.specs.declared.shared.Entry.{Entry}
use Rattle.lw_turn.specs.declared.view.View.{View}
use Rattle.lw_turn.specs.declared.view.Ended.{Ended}
use Rattle.lw_turn.specs.declared.view.Doing.{Doing}
use Rattle.lw_turn.specs.declared.view.Stage.{Stage}
use Rattle.lw_turn.specs.declared.view.Stage.TheVariants.{Idle, Waiting, Turning, Spent}
use Rattle.lw_turn.specs.History.{entries_of}
use Rattle.lw_turn.specs.Views.{ended_of}

abbrev pub ticket_of : Stage → Option ℕ
ticket_of Idle = None
ticket_of (Waiting t) = Some t
ticket_of (Turning t) = Some t
ticket_of Spent = None

abbrev pub IsLiveStage : Stage → Type 0
IsLiveStage Idle = Unit {0}
IsLiveStage (Waiting t) = Unit {0}
IsLiveStage (Turning t) = Unit {0}
IsLiveStage Spent = ⊥

module _ {O A B : Type 0} where
  abbrev pub has_ticket : Doing O A B → Bool
  has_ticket d = is_some (ticket_of d.stage)

  -- the pass of that number was joined
  abbrev pub IsSpent : List (Doing O A B) → ℕ → Type 0
  IsSpent places n = (d : Doing O A B) × (get_elem? places n ≡ some d) × (d.stage ≡ Spent)

  -- What the pass i knows is true of the history
  pub record Fits (o : O) (log : List (Entry A B)) (places : List (Doing O A B)) (i : ℕ) (v : View O A B) : Type 0 where
    pub number : v.number ≡ i
    pub opened : v.opening ≡ o
    pub seen : IsPrefix v.seen log
    pub mine : entries_of i log ≡ v.mine
    pub made : i ≡ 0 → v.made ≡ length places
    pub ended : (n : ℕ) (e : Ended A B) → ended_of n v.ended ≡ Some e → (entries_of n log ≡ e.mine) × IsPrefix e.seen log × IsSpent places n

  -- The tickets that are out are distinct, and lie from the one that is served to below the next
  pub record AreTickets (served next : ℕ) (places : List (Doing O A B)) : Type 0 where
    pub counted : next ≡ served + count_by has_ticket places
    pub bounds : (i : ℕ) (d : Doing O A B) (t : ℕ) → get_elem? places i ≡ some d → ticket_of d.stage ≡ Some t → (served ≤ t) × (t < next)
    pub apart : (i j : ℕ) (d e : Doing O A B) (t : ℕ) → get_elem? places i ≡ some d → get_elem? places j ≡ some e → ticket_of d.stage ≡ Some t → ticket_of e.stage ≡ Some t → i ≡ j

  -- a turn is under way
  abbrev pub IsOut : List (Doing O A B) → Type 0
  IsOut places = (by : ℕ) × (d : Doing O A B) × (t : ℕ) × (get_elem? places by ≡ some d) × (d.stage ≡ Turning t)

module _ {C O A B : Type 0} where
  -- the one whose turn is under way has the served ticket and the slot, and has seen the whole history
  abbrev pub IsTurn : List (Entry A B) → List (Maybe (Option C)) → Doing O A B → ℕ → Type 0
  IsTurn log homes d t = (t ≡ length log) × (d.view.seen ≡ log) × (homes ≡ none ∷ [])

module _ {C O A B : Type 0} (opening : C → O) (entries : C → List (Entry A B)) where
  -- no turn is under way: the core is in the slot, and its own list is the history
  abbrev pub IsHome : O → List (Entry A B) → List (Maybe (Option C)) → Type 0
  IsHome o log homes = (core : C) × (homes ≡ some (Some core) ∷ []) × (entries core ≡ log) × (opening core ≡ o)

module _ {C O A B : Type 0} (actors : O → ℕ) (legal : O → List (Entry A B) → Type 0) (opening : C → O) (entries : C → List (Entry A B)) where
  pub record RuleHolds (o : O) (s : State (Option C) (Doing O A B)) : Type 0 where
    pub log : List (Entry A B)
    pub next : ℕ
    pub words : s.words ≡ next ∷ length log ∷ []
    pub lawful : legal o log
    pub room : length s.views ≤ actors o
    pub tickets : AreTickets (length log) next s.views
    pub live : (i : ℕ) (d : Doing O A B) → get_elem? s.views i ≡ some d → IsLiveStage d.stage → Fits o log s.views i d.view
    pub absent : (n : ℕ) → length s.views ≤ n → entries_of n log ≡ []
    pub turning : (i : ℕ) (d : Doing O A B) (t : ℕ) → get_elem? s.views i ≡ some d → d.stage ≡ Turning t → IsTurn log s.homes d t
    pub slot : IsHome opening entries o log s.homes ⊎ IsOut s.views
