-- What a crew leaves of a batch.
use Rattle.std.specs.Prelude.{◌≡◌, ℕ, ◌<◌, List, [], length, slice_index_or, Some, is_some}
use Rattle.std.specs.List.{All}
use Rattle.lw_words.specs.Word.{IsWord}
use Rattle.lw_turn.specs.declared.shared.Entry.{Entry}
use Rattle.lw_turn.specs.declared.view.View.{View}
use Rattle.lw_turn.specs.Held.{Held}
use Rattle.lw_turn.specs.History.{entries_of}
use Rattle.lw_turn.specs.Views.{ended_of, ended_view}
use Rattle.lw_names.specs.Naming.{own_names}
use Rattle.lw_desk.specs.History.{DeskOpening}
use Rattle.lw_desk.specs.declared.ask.Ask.{Ask}
use Rattle.lw_desk.specs.declared.ask.Reply.{Reply}
use Rattle.lw_pool.specs.Pool.{Seen, Same}
use Rattle.lw_pool.specs.declared.crew.Engaged.{Engaged}
use Rattle.lw_pool.specs.declared.hands.Hand.{Hand}
use Rattle.lw_pool.specs.bodies.Engaged.{Working, IsReady}

-- the worker with this number has done its part of a batch: its own entries are those of the history, and it holds no place
pub record HasWorkedOff (o : DeskOpening) (es : List (Entry Ask Reply)) (number : ℕ) (start now : Seen) : Type 0 where
  pub view : View DeskOpening Ask Reply
  pub opening : view.opening ≡ o
  pub number_is : view.number ≡ number
  pub mine : view.mine ≡ entries_of number es
  pub reply : Reply
  pub working : Working start now view reply
  pub idle : reply.places ≡ []
  pub same : Same start now

-- a session that may work a batch off under this number
pub record MayWork (o : DeskOpening) (number : ℕ) (s : Seen) : Type 0 where
  pub ready : IsReady (is_some o.naming.brought) (own_names o.naming number) s
  pub letters : All (IsWord s.inputs) o.batch

-- which passes are of the crew's turnstile
module _ {S : Type 0} (Ours : Held DeskOpening Ask Reply → Type 0) where
  -- a hand that begins with its place
  pub record CanRun (batch : List (List ℕ)) (h : Hand S) : Type 0 where
    pub place : Engaged
    pub is : h.engaged ≡ Some place
    pub ours : Ours place.pass
    pub batch_is : place.pass.knows.opening.batch ≡ batch
    pub begun : Working h.worker.seen h.worker.seen place.pass.knows place.reply
    pub may : MayWork place.pass.knows.opening place.pass.knows.number h.worker.seen

  -- a hand has gone on with its place until nothing is left
  pub record HasRun (was now : Hand S) : Type 0 where
    pub before : Engaged
    pub was_is : was.engaged ≡ Some before
    pub place : Engaged
    pub is : now.engaged ≡ Some place
    pub ours : Ours place.pass
    pub opening : place.pass.knows.opening ≡ before.pass.knows.opening
    pub number : place.pass.knows.number ≡ before.pass.knows.number
    pub made : place.pass.knows.made ≡ before.pass.knows.made
    pub ended : place.pass.knows.ended ≡ before.pass.knows.ended
    pub working : Working was.worker.seen now.worker.seen place.pass.knows place.reply
    pub idle : place.reply.places ≡ []
    pub session : Same was.worker.seen now.worker.seen

  abbrev pub AllRun : List (Hand S) → List (Hand S) → Type 0
  AllRun was now = (i : ℕ) (d : Hand S) → i < length was → HasRun (slice_index_or was i d) (slice_index_or now i d)

  -- a hand was given the place of this number, and nothing was asked yet
  pub record IsHired (o : DeskOpening) (number : ℕ) (was now : Hand S) : Type 0 where
    pub worker : now.worker ≡ was.worker
    pub place : Engaged
    pub is : now.engaged ≡ Some place
    pub ours : Ours place.pass
    pub opening : place.pass.knows.opening ≡ o
    pub number_is : place.pass.knows.number ≡ number
    pub begun : (start : Seen) → Working start start place.pass.knows place.reply
    pub first : number ≡ 0 → (place.pass.knows.made ≡ o.actors) × (place.pass.knows.ended ≡ [])

  abbrev pub AllHired : DeskOpening → List (Hand S) → List (Hand S) → Type 0
  AllHired o was now = (i : ℕ) (d : Hand S) → i < length was → IsHired o i (slice_index_or was i d) (slice_index_or now i d)

  -- a hand holds the pass of this number
  pub record Holds (number : ℕ) (h : Hand S) : Type 0 where
    pub place : Engaged
    pub is : h.engaged ≡ Some place
    pub ours : Ours place.pass
    pub number_is : place.pass.knows.number ≡ number

  -- the hands after the first one hold the passes of their numbers
  abbrev pub OthersHold : List (Hand S) → Type 0
  OthersHold hands = (i : ℕ) (d : Hand S) → 0 < i → i < length hands → Holds i (slice_index_or hands i d)

module _ {S : Type 0} where
  -- the passes of the hands after the first one were joined
  abbrev pub OthersJoined : View DeskOpening Ask Reply → List (Hand S) → Type 0
  OthersJoined v hands = (i : ℕ) (d : Hand S) (e : Engaged) → 0 < i → i < length hands → (slice_index_or hands i d).engaged ≡ Some e → ended_of i v.ended ≡ Some (ended_view e.pass.knows)

  abbrev pub SameWorkers : List (Hand S) → List (Hand S) → Type 0
  SameWorkers was now = (i : ℕ) (d : Hand S) → i < length was → (slice_index_or now i d).worker ≡ (slice_index_or was i d).worker

  -- each session has the names and the letters that its number's part of the batch takes
  abbrev pub AllReady : DeskOpening → List (Hand S) → Type 0
  AllReady o hands = (i : ℕ) (d : Hand S) → i < length hands → IsReady (is_some o.naming.brought) (own_names o.naming i) (slice_index_or hands i d).worker.seen

  abbrev pub AllRead : List (List ℕ) → List (Hand S) → Type 0
  AllRead batch hands = (i : ℕ) (d : Hand S) → i < length hands → All (IsWord (slice_index_or hands i d).worker.seen.inputs) batch

  abbrev pub AllWorkedOff : DeskOpening → List (Entry Ask Reply) → List (Hand S) → List (Hand S) → Type 0
  AllWorkedOff o es was now = (i : ℕ) (d : Hand S) → i < length was → HasWorkedOff o es i (slice_index_or was i d).worker.seen (slice_index_or now i d).worker.seen
