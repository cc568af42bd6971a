-- Classes of states by the words of at most this many letters.
-- Source: the partitions of Moore (1956).
use Rattle.std.specs.Prelude.{◌≡◌, ◌≢◌, ℕ, zero, suc, ◌<◌, ◌≤◌, ◌⊎◌}
use Rattle.std.specs.Prelude.{List, [], length, slice_index, slice_index_or}
use Rattle.lw_words.specs.Word.{IsWord}
use Rattle.lw_mealy.specs.Machine.{Rows, IsMachine, out, next, output}
use Rattle.lw_separate.specs.bodies.Renaming.{NamesStates}

-- the outputs of two states on each word of at most this many letters are equal
abbrev pub AgreeUpTo : ℕ → Rows → ℕ → ℕ → ℕ → Type 0
AgreeUpTo a m letters p q = (w : List ℕ) → IsWord a w → length w ≤ letters → out m p w ≡ out m q w

-- on some word of at most this many letters they differ
abbrev pub DifferWithin : ℕ → Rows → ℕ → ℕ → ℕ → Type 0
DifferWithin a m letters p q = (w : List ℕ) × IsWord a w × (length w ≤ letters)
    × (out m p w ≢ out m q w)

-- the shortest words on which two states differ have this many letters; of no letter nothing is said
abbrev pub AreApartBy : ℕ → Rows → ℕ → ℕ → ℕ → Type 0
AreApartBy a m zero p q = Unit {0}
AreApartBy a m (suc fewer) p q = AgreeUpTo a m fewer p q × DifferWithin a m (suc fewer) p q

-- each state has a class, named by a state that isn't above it
pub record AreNamed (m : Rows) (classes : List ℕ) : Type 0 where
  pub long : length classes ≡ length m
  pub low : (q : ℕ) → q < length m → slice_index classes q ≤ q

-- the class of a state is the least state that agrees with it
-- on all words of at most this many letters
pub record AreClassesOf (a : ℕ) (m : Rows) (letters : ℕ) (classes : List ℕ) : Type 0 where
  pub named : AreNamed m classes
  pub agrees : (q : ℕ) → q < length m → AgreeUpTo a m letters (slice_index classes q) q
  pub least : (p q : ℕ) → q < length m → p < slice_index classes q → DifferWithin a m letters p q

-- a letter has equal outputs from two states, and leads them to one class
abbrev pub MeetsAt : Rows → List ℕ → ℕ → ℕ → ℕ → Type 0
MeetsAt m classes p q x = (output m p x ≡ output m q x)
    × (slice_index classes (next m p x) ≡ slice_index classes (next m q x))

-- a letter has different outputs from two states, or leads them to two classes
abbrev pub PartsAt : Rows → List ℕ → ℕ → ℕ → ℕ → Type 0
PartsAt m classes p q x = (output m p x ≢ output m q x)
    ⊎ (slice_index classes (next m p x) ≢ slice_index classes (next m q x))

-- no letter parts the states
abbrev pub NoLetter : ℕ → Rows → List ℕ → ℕ → ℕ → Type 0
NoLetter a m classes p q = (x : ℕ) → x < a → MeetsAt m classes p q x

-- the least letter that parts the states
pub record IsFirstLetter (a : ℕ) (m : Rows) (classes : List ℕ) (p q x : ℕ) : Type 0 where
  pub letter : x < a
  pub parts : PartsAt m classes p q x
  pub before : (y : ℕ) → y < x → MeetsAt m classes p q y

-- two states are of one class, and no letter parts them
abbrev pub StayTogether : ℕ → Rows → List ℕ → ℕ → ℕ → Type 0
StayTogether a m classes p q = (slice_index classes p ≡ slice_index classes q)
    × NoLetter a m classes p q

-- two states are of two classes, or some letter parts them
abbrev pub GoApart : ℕ → Rows → List ℕ → ℕ → ℕ → Type 0
GoApart a m classes p q = (slice_index classes p ≢ slice_index classes q)
    ⊎ ((x : ℕ) × (x < a) × PartsAt m classes p q x)

-- p is the least state of the class of q from which no letter parts it
pub record IsLeastTogether (a : ℕ) (m : Rows) (classes : List ℕ) (q p : ℕ) : Type 0 where
  pub within : p ≤ q
  pub together : StayTogether a m classes p q
  pub least : (r : ℕ) → slice_index classes q ≤ r → r < p → GoApart a m classes r q

-- for each state in their order the least of its class from which no letter parts it
pub record AreRefined (a : ℕ) (m : Rows) (classes finer : List ℕ) : Type 0 where
  pub long : length finer ≡ length m
  pub each : (q : ℕ) → q < length finer → IsLeastTogether a m classes q (slice_index finer q)

-- the classes by the words of at most 0, 1, 2 letters and so on,
-- and behind them the classes by all words
pub record AreLevels (a : ℕ) (m : Rows) (below : List (List ℕ)) (names : List ℕ) : Type 0 where
  pub machine : IsMachine a m
  pub each : (l : ℕ) → l < length below → AreClassesOf a m l (slice_index_or below l [])
  pub last : AreClassesOf a m (length below) names
  pub whole : NamesStates a m names
