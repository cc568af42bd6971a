-- Marks for numbers of words, and the states that letters lead to, from which the tables of the H-method are made.
use Rattle.std.specs.Prelude.{◌≡◌, ◌↔◌, ℕ, ◌<◌, ◌⊎◌, Bool, true, false, List, [], length, slice_index_or}
use Rattle.std.specs.List.{All, Contains, filter, range_with_len}
use Rattle.lw_mealy.specs.Machine.{Rows, next}
use Rattle.lw_wp.specs.GreedySuite.{AreGreedySets, IsGreedyTable, first_apart}
use Rattle.lw_wp.specs.Tables.{Table}

-- the number is marked
abbrev pub IsMarked : List Bool → ℕ → Type 0
IsMarked marks i = slice_index_or marks i false ≡ true

-- the numbers that are marked, in order
abbrev pub marked_numbers : List Bool → List ℕ
marked_numbers marks = filter (λ i. slice_index_or marks i false) (range_with_len 0 (length marks))

-- these numbers are marked beside those that were, and no others
pub record AreMarked (old new : List Bool) (Numbers : ℕ → Type 0) : Type 0 where
  pub long : length new ≡ length old
  pub each : (i : ℕ) → IsMarked new i ↔ (IsMarked old i ⊎ Numbers i)

-- the number is the first of one of these states' own whose word separates that state from q
abbrev pub IsOfPair : Rows → List (List ℕ) → List (List ℕ) → ℕ → List ℕ → ℕ → Type 0
IsOfPair h words own q states i = (r : ℕ) × Contains states r × Contains (first_apart h words (slice_index_or own r []) r q) i

-- one of the letters below a bound leads from q to p
abbrev pub LeadsTo : Rows → ℕ → ℕ → ℕ → Type 0
LeadsTo h q bound p = (x : ℕ) × (x < bound) × (next h q x ≡ p)

-- a letter leads from one of these states to p
abbrev pub IsTarget : ℕ → Rows → List ℕ → ℕ → Type 0
IsTarget a h states p = (q : ℕ) × Contains states q × LeadsTo h q a p

-- states of the machine, to which these are added and no others, in any order and as often as may be
pub record AddsStates (h : Rows) (old new : List ℕ) (Added : ℕ → Type 0) : Type 0 where
  pub below : All (λ p. p < length h) new
  pub each : (p : ℕ) → Contains new p ↔ (Contains old p ⊎ Added p)

-- a table that is made of greedy sets
pub record HasGreedySets (a : ℕ) (h : Rows) (k : ℕ) (words : List (List ℕ)) (table : Table) : Type 0 where
  pub own : List (List ℕ)
  pub greedy : AreGreedySets h words own
  pub rows : IsGreedyTable a h k words own table
