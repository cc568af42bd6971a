-- The states of the actors of a trial, for tests.
use Rattle.std.specs.Prelude.{◌≡◌, ℕ, ◌<◌, List, [], length, slice_index_or, Bool, false, is_some}
use Rattle.lw_turn.specs.History.{entries_of}
use Rattle.lw_names.specs.Naming.{own_names}
use Rattle.lw_desk.specs.Desk.{DeskHistory}
use Rattle.lw_desk.specs.History.{Seat, seat_of}

abbrev pub seat_by : List ℕ → Bool → List (List ℕ) → Seat
seat_by held ended own = record { held = held; ended = ended; own = own }

abbrev pub seat_at : List Seat → ℕ → Seat
seat_at seats a = slice_index_or seats a (record { held = []; ended = false; own = [] })

-- each actor stands as its own entries say
pub record IsDeskTrial (d : DeskHistory) (batch : List (List ℕ)) (free : Bool) (seats : List Seat) : Type 0 where
  pub batch_is : d.opening.batch ≡ batch
  pub kind : is_some d.opening.naming.brought ≡ free
  pub actors : d.opening.actors ≡ length seats
  pub alike : (a : ℕ) → own_names d.opening.naming a ≡ own_names d.opening.naming 0
  pub stand : (a : ℕ) → a < length seats → seat_of d.opening (entries_of a d.entries) ≡ seat_at seats a
