-- The histories of a desk: which asks an actor may make, and what comes of them in turn.
use Rattle.std.specs.Prelude.{◌≡◌, ◌↔◌, ℕ, ◌+◌, ◌*◌, ◌^◌, ◌<◌, ◌≤◌, ◌==◌, ◌||◌, eqb, List, [], ◌∷◌, ◌++◌, length, map, filter, Bool, true, false, Option, Some, None, is_some}
use Rattle.std.specs.List.{list_any}
use Rattle.lw_words.specs.declared.kept.KeptAnswer.{KeptAnswer}
use Rattle.lw_turn.specs.declared.shared.Entry.{Entry}
use Rattle.lw_names.specs.Naming.{HasLists, Naming, own_names, MayBring}
use Rattle.lw_desk.specs.Step.{DeskState, word_at_place, GivesAll, ActorTakesAll, NothingToTake, CountsLeft, after_fail, after_done}
use Rattle.lw_desk.specs.declared.ask.Ask.{Ask}
use Rattle.lw_desk.specs.declared.ask.Reply.{Reply}
use Rattle.lw_desk.specs.declared.ask.Give.{Give}
use Rattle.lw_desk.specs.declared.ask.Failed.{Failed}

-- what a desk begins with: the recorded answers, the names, the batch, and how many actors there are
pub record DeskOpening : Type 0 where
  pub kept : List KeptAnswer
  pub naming : Naming
  pub batch : List (List ℕ)
  pub actors : ℕ

abbrev pub opened : DeskOpening → DeskState
opened o = record { naming = o.naming; kept = o.kept; claims = []; ended = []; stop = None }

-- the state of an actor: the places that it holds, whether it has ended, and the names that its own numbers stand for
pub record Seat : Type 0 where
  pub held : List ℕ
  pub ended : Bool
  pub own : List (List ℕ)

abbrev pub failed_places : Option Failed → List ℕ
failed_places None = []
failed_places (Some f) = f.places

-- the places that are given or failed, in order
abbrev pub settled_places : Ask → List ℕ
settled_places ask = map (λ g. g.place) ask.gives.items ++ failed_places ask.failed

-- the answers that an actor may give one after the other, by its own names
abbrev pub MayGiveAll : List (List ℕ) → Bool → List (List ℕ) → List Give → Type 0
MayGiveAll batch free own [] = Unit {0}
MayGiveAll batch free own (g ∷ gs) = MayBring free own g.names g.outs × (length g.outs ≡ length (word_at_place batch g.place)) × MayGiveAll batch free (own ++ g.names) gs

-- an actor that has not ended gives or fails all the places that it holds, and then may take more, where none failed
pub record MayMake (batch : List (List ℕ)) (free : Bool) (seat : Seat) (ask : Ask) : Type 0 where
  pub live : seat.ended ≡ false
  pub places : settled_places ask ≡ seat.held
  pub gives : MayGiveAll batch free seat.own ask.gives.items
  pub fails : is_some ask.failed ≡ true → (0 < length (failed_places ask.failed)) × (ask.wanted ≡ 0)
  pub some : 0 < length (settled_places ask) + ask.wanted
  pub few : ask.wanted ≤ 16

-- the state of an actor in a state of the desk
abbrev pub seat_in : DeskState → ℕ → Seat
seat_in s actor = record {
  held = map (λ c. c.place) (filter (λ c. c.actor == actor) s.claims);
  ended = list_any (eqb actor) s.ended;
  own = own_names s.naming actor;
}

-- the entry is one that its actor may make in this state, and its reply and the next state come of it: first of what is
-- given, then of what failed, then of what is taken
pub record Makes (o : DeskOpening) (s : DeskState) (e : Entry Ask Reply) (t : DeskState) : Type 0 where
  pub actor : e.actor < o.actors
  pub may : MayMake o.batch (is_some o.naming.brought) (seat_in s e.actor) e.ask
  pub given : DeskState
  pub gives : GivesAll o.batch e.actor e.ask.gives.items s given
  pub taken : DeskState
  pub takes : ActorTakesAll o.batch e.actor e.ask.wanted e.reply.places (after_fail e.actor e.ask.failed given) taken
  pub done : (e.reply.done ≡ true) ↔ ((0 < e.ask.wanted) × (e.reply.places ≡ []))
  pub after : t ≡ after_done e.actor e.reply.done taken
  pub stopped : e.reply.stopped ≡ is_some t.stop
  pub left : CountsLeft o.batch t e.reply.left
  pub none_left : e.reply.left ≡ 0 → NothingToTake o.batch t
  pub few_left : e.reply.left ≤ length o.batch

-- each entry in turn
abbrev pub Replays : DeskOpening → DeskState → List (Entry Ask Reply) → DeskState → Type 0
Replays o s [] t = t ≡ s
Replays o s (e ∷ es) t = (u : DeskState) × Makes o s e u × Replays o u es t

-- a history of a desk from its opening on
pub record Legal (o : DeskOpening) (es : List (Entry Ask Reply)) : Type 0 where
  pub few_actors : o.actors ≤ 16
  pub few_words : length o.batch < 2 ^ 32
  pub lists : HasLists o.naming.brought o.actors
  pub state : DeskState
  pub replays : Replays o (opened o) es state

-- all that was given in these entries
abbrev pub gives_of : List (Entry Ask Reply) → List Give
gives_of [] = []
gives_of (e ∷ es) = e.ask.gives.items ++ gives_of es

-- the state of an actor after an entry of its own
abbrev pub names_given : List Give → List (List ℕ)
names_given [] = []
names_given (g ∷ gs) = g.names ++ names_given gs

abbrev pub seat_after : Seat → Entry Ask Reply → Seat
seat_after seat e = record {
  held = e.reply.places;
  ended = e.reply.done || is_some e.ask.failed;
  own = seat.own ++ names_given e.ask.gives.items;
}

abbrev pub seat_from : Seat → List (Entry Ask Reply) → Seat
seat_from seat [] = seat
seat_from seat (e ∷ es) = seat_from (seat_after seat e) es

abbrev pub actor_of : List (Entry Ask Reply) → ℕ
actor_of [] = 0
actor_of (e ∷ es) = e.actor

-- the state of the actor whose own entries are these
abbrev pub seat_of : DeskOpening → List (Entry Ask Reply) → Seat
seat_of o mine = seat_from (record { held = []; ended = false; own = own_names o.naming (actor_of mine) }) mine

-- an actor whose own entries are these may make this ask
abbrev pub May : DeskOpening → List (Entry Ask Reply) → Ask → Type 0
May o mine ask = MayMake o.batch (is_some o.naming.brought) (seat_of o mine) ask

abbrev pub most_entries : DeskOpening → ℕ
most_entries o = 2 * length o.batch + o.actors
