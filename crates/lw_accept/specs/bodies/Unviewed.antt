-- The acceptor that stands in the pairs of a machine.
use Rattle.std.specs.Prelude.{ℕ, ◌<◌, List, Bool, length, map, drop, ◌==◌, slice_index_or}
use Rattle.lw_mealy.specs.Machine.{Row, Rows, row}
use Rattle.lw_accept.specs.Acceptor.{Automaton}
use Rattle.lw_accept.specs.View.{MayView}

-- whether the row says yes to `?`, and its next states at the other letters
abbrev pub bit_of : Row → Bool
bit_of r = (slice_index_or r 0 (0, 0)).1 == 0

abbrev pub targets_of_row : Row → List ℕ
targets_of_row r = map (λ c. c.0) (drop 1 r)

abbrev pub unviewed : Rows → Automaton
unviewed m = record { accepting = map bit_of m; targets = map targets_of_row m }

-- the pairs of a state may be those of an acceptor's machine, and so may all
abbrev pub IsRowViewed : ℕ → Row → Type 0
IsRowViewed q r = (x : ℕ) → x < length r → MayView q x (slice_index_or r x (0, 0))

abbrev pub AreViewed : Rows → Type 0
AreViewed m = (q : ℕ) → q < length m → IsRowViewed q (row m q)

-- the pair of this letter may not, and those before it may
pub record IsRowFirst (q : ℕ) (r : Row) (x : ℕ) : Type 0 where
  pub letter : x < length r
  pub fails : ¬ MayView q x (slice_index_or r x (0, 0))
  pub before : (y : ℕ) → y < x → MayView q y (slice_index_or r y (0, 0))
