-- Least words in shortlex order, and the canonical form of a machine.
use Rattle.std.specs.Prelude.{◌≡◌, ◌≢◌, ℕ, ◌<◌, List, [], length, slice_index_or, Option, None, MatchOption}
use Rattle.std.specs.declared.cmp.Ordering.TheVariants.{Less}
use Rattle.lw_words.specs.Word.{IsWord, shortlex_cmp}
use Rattle.lw_mealy.specs.Machine.{Rows, after, out, IsMachine, Reached, Differ, IsMinimal, Equal}

-- Least words in shortlex order.
-- Source: separating words as in Moore (1956), access words as in Angluin (1987).

-- a word that does it, and no smaller word does it
pub record LeastWord (Does : List ℕ → Type 0) (w : List ℕ) : Type 0 where
  pub does : Does w
  pub least : (v : List ℕ) → Does v → shortlex_cmp v w ≢ Less

-- a word over a letters leads to the state
abbrev pub Leads : ℕ → Rows → ℕ → List ℕ → Type 0
Leads a m q w = IsWord a w × (after m 0 w ≡ q)

-- a word over a letters on which the outputs of two states differ
abbrev pub SeparatesStates : ℕ → Rows → ℕ → ℕ → List ℕ → Type 0
SeparatesStates a m p q w = IsWord a w × (out m p w ≢ out m q w)

abbrev pub IsLeastAccess : ℕ → Rows → ℕ → List ℕ → Type 0
IsLeastAccess a m q w = LeastWord (Leads a m q) w

abbrev pub IsLeastSeparating : ℕ → Rows → ℕ → ℕ → List ℕ → Type 0
IsLeastSeparating a m p q w = LeastWord (SeparatesStates a m p q) w

-- the state's least access word, and none exactly where no word leads to it
abbrev pub IsAccessWord : ℕ → Rows → ℕ → Option (List ℕ) → Type 0
IsAccessWord a m q word = MatchOption word (¬ Reached a m q) (IsLeastAccess a m q)

-- the least word that separates two states, and none exactly where they agree on all words
abbrev pub IsSeparatingWord : ℕ → Rows → ℕ → ℕ → Option (List ℕ) → Type 0
IsSeparatingWord a m p q word = MatchOption word (¬ Differ a m p q) (IsLeastSeparating a m p q)

-- one for each state, in the order of the states
pub record AreAccessWords (a : ℕ) (m : Rows) (list : List (Option (List ℕ))) : Type 0 where
  pub each : length list ≡ length m
  pub words : (q : ℕ) → q < length m → IsAccessWord a m q (slice_index_or list q None)

-- of each state in their order the least access word: the list S of a machine
pub record AreLeastAccess (a : ℕ) (m : Rows) (list : List (List ℕ)) : Type 0 where
  pub each : length list ≡ length m
  pub words : (q : ℕ) → q < length m → IsLeastAccess a m q (slice_index_or list q [])

-- a state has one least access word at most
abbrev pub OneAccessWord : Type 0
OneAccessWord = (a : ℕ) (m : Rows) (q : ℕ) (u v : List ℕ)
    → IsLeastAccess a m q u → IsLeastAccess a m q v → u ≡ v

-- two states have one least separating word at most
abbrev pub OneSeparatingWord : Type 0
OneSeparatingWord = (a : ℕ) (m : Rows) (p q : ℕ) (u v : List ℕ)
    → IsLeastSeparating a m p q u → IsLeastSeparating a m p q v → u ≡ v

-- a machine has one list of least access words at most
abbrev pub OneLeastAccess : Type 0
OneLeastAccess = (a : ℕ) (m : Rows) (u v : List (List ℕ))
    → AreLeastAccess a m u → AreLeastAccess a m v → u ≡ v

-- a machine whose states are all reached has a list of least access words
abbrev pub SomeLeastAccess : Type 0
SomeLeastAccess = (a : ℕ) (m : Rows) → IsMachine a m
    → ((q : ℕ) → q < length m → Reached a m q) → (list : List (List ℕ)) × AreLeastAccess a m list

-- The canonical form of a machine: minimal, and numbered breadth first in letter order.
-- Source: Moore (1956).

-- the machine equals m and is minimal, and the least words to the states 0, 1, 2 and so on rise
-- in shortlex order
pub record IsCanonical (a : ℕ) (m c : Rows) : Type 0 where
  pub machine : IsMachine a c
  pub equal : Equal a c m
  pub minimal : IsMinimal a c
  pub words : List (List ℕ)
  pub least : AreLeastAccess a c words
  pub rising : (p q : ℕ) → p < q → q < length c
      → shortlex_cmp (slice_index_or words p []) (slice_index_or words q []) ≡ Less

-- no two machines are canonical for one
abbrev pub OneCanonical : Type 0
OneCanonical = (a : ℕ) (m c d : Rows) → IsCanonical a m c → IsCanonical a m d → c ≡ d

-- each machine has a canonical machine
abbrev pub SomeCanonical : Type 0
SomeCanonical = (a : ℕ) (m : Rows) → IsMachine a m → (c : Rows) × IsCanonical a m c
