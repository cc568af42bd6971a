-- Which words the H-method's suite of this project has, and in which order.
-- Source: Dorofeeva, El-Fakih and Koufareva (2005); that sets of words are chosen greedily, and the order, are this project's.
use Rattle.std.specs.Prelude.{◌≡◌, ◌↔◌, ℕ, ◌+◌, ◌<◌, ◌≤◌, ◌⊎◌, Bool, false, not, List, [], ◌∷◌, length, take, slice_index_or, if◌then◌else◌, nat_eq}
use Rattle.std.specs.List.{All, Contains, IsFirstMaxByKey, count_by, filter, range_with_len}
use Rattle.std.specs.List.Sorted.{IsStrictlyIncreasing}
use Rattle.lw_words.specs.Word.{IsWord}
use Rattle.lw_mealy.specs.Machine.{Rows, IsMachine, IsMinimal, after}
use Rattle.lw_separate.specs.Canonical.{AreLeastAccess}
use Rattle.lw_separate.specs.Separators.{IsSeparators}
use Rattle.lw_wp.specs.Identification.{separates}
use Rattle.lw_wp.specs.HSuite.{IsHSuite}
use Rattle.lw_wp.specs.Tables.{Table, suite_by}

-- the states, by number
abbrev pub states_of : Rows → List ℕ
states_of h = range_with_len 0 (length h)

-- how many of these states a word separates from q
abbrev pub separated_of : Rows → ℕ → List ℕ → List ℕ → ℕ
separated_of h q states w = count_by (λ p. separates h q p w) states

-- whether a state is another one than q, and no different from it on the word
abbrev pub is_alike : Rows → ℕ → List ℕ → ℕ → Bool
is_alike h q w p = if nat_eq p q then false else not (separates h q p w)

-- the numbers of words that separate q from each other state that is left, chosen greedily: none where no other is left; else
-- that of the first of the words that separate the most of them, and then those for the states that it doesn't separate
abbrev pub IsGreedy : Rows → List (List ℕ) → ℕ → List ℕ → List ℕ → Type 0
IsGreedy h words q left [] = All (λ p. p ≡ q) left
IsGreedy h words q left (i ∷ more) = IsFirstMaxByKey (separated_of h q left) words (length words) i
    × (0 < separated_of h q left (slice_index_or words i []))
    × IsGreedy h words q (filter (is_alike h q (slice_index_or words i [])) left) more

-- for each state its own numbers, by which it is separated from all others
pub record AreGreedySets (h : Rows) (words own : List (List ℕ)) : Type 0 where
  pub long : length own ≡ length h
  pub each : (q : ℕ) → q < length own → IsGreedy h words q (states_of h) (slice_index_or own q [])

-- the first of these numbers whose word separates two states, as a list of one; an empty list where none does
abbrev pub first_apart : Rows → List (List ℕ) → List ℕ → ℕ → ℕ → List ℕ
first_apart h words numbers r q = take 1 (filter (λ i. separates h r q (slice_index_or words i [])) numbers)

-- the number stands behind q where d letters are left: it is one of q's own; or at most d letters lead from q to a state r, and
-- of r's own numbers it is the first whose word separates r from q (none does where r is q)
abbrev pub StandsBehind : ℕ → Rows → List (List ℕ) → List (List ℕ) → ℕ → ℕ → ℕ → Type 0
StandsBehind a h words own q d i = Contains (slice_index_or own q []) i
    ⊎ ((w : List ℕ) × IsWord a w × (length w ≤ d) × Contains (first_apart h words (slice_index_or own (after h q w) []) (after h q w) q) i)

-- these numbers, in order
pub record IsGreedyRow (a : ℕ) (h : Rows) (words own : List (List ℕ)) (q d : ℕ) (row : List ℕ) : Type 0 where
  pub increasing : IsStrictlyIncreasing row
  pub each : (i : ℕ) → Contains row i ↔ StandsBehind a h words own q d i

-- the rows of a state, where 0 to k letters are left; behind an access word alone k + 1 are, so all words stand there
pub record AreGreedyRows (a : ℕ) (h : Rows) (k : ℕ) (words own : List (List ℕ)) (q : ℕ) (rows : List (List ℕ)) : Type 0 where
  pub long : length rows ≡ k + 1
  pub each : (d : ℕ) → d < length rows → IsGreedyRow a h words own q d (slice_index_or rows d [])

-- the rows of each state
pub record IsGreedyTable (a : ℕ) (h : Rows) (k : ℕ) (words own : List (List ℕ)) (table : Table) : Type 0 where
  pub long : length table ≡ length h
  pub each : (q : ℕ) → q < length table → AreGreedyRows a h k words own q (slice_index_or table q [])

-- the suite of a machine for k extra states, of its least access words and its separating words
pub record IsGreedySuite (a : ℕ) (h : Rows) (k : ℕ) (suite : List (List ℕ)) : Type 0 where
  pub access : List (List ℕ)
  pub ends : List (List ℕ)
  pub own : List (List ℕ)
  pub table : Table
  pub least : AreLeastAccess a h access
  pub separating : IsSeparators a h ends
  pub greedy : AreGreedySets h ends own
  pub rows : IsGreedyTable a h k ends own table
  pub words : suite ≡ suite_by a h k access ends table

-- a machine has one at most
abbrev pub OneGreedySuite : Type 0
OneGreedySuite = (a : ℕ) (h : Rows) (k : ℕ) (s t : List (List ℕ)) → IsGreedySuite a h k s → IsGreedySuite a h k t → s ≡ t

-- a minimal machine has one, for each number of extra states
abbrev pub SomeGreedySuite : Type 0
SomeGreedySuite = (a : ℕ) (h : Rows) (k : ℕ) → IsMachine a h → IsMinimal a h → (suite : List (List ℕ)) × IsGreedySuite a h k suite

-- its words are words over the machine's letters
abbrev pub GreedySuiteIsOfWords : Type 0
GreedySuiteIsOfWords = (a : ℕ) (h : Rows) (k : ℕ) (suite : List (List ℕ)) → IsGreedySuite a h k suite → All (IsWord a) suite

-- it is a suite of the H-method
abbrev pub GreedySuiteIsHSuite : Type 0
GreedySuiteIsHSuite = (a : ℕ) (h : Rows) (k : ℕ) (suite : List (List ℕ)) → IsMachine a h → IsGreedySuite a h k suite → IsHSuite a h k suite
