-- The suite of the W-method: words that tell a machine from every other of at most this many states more.
-- Source: Vasilevskii (1973) and Chow (1978); the order of the words is this project's.
use Rattle.std.specs.Prelude.{◌≡◌, ℕ, ◌+◌, ◌≤◌, List, length}
use Rattle.std.specs.List.{All}
use Rattle.lw_words.specs.Word.{IsWord}
use Rattle.lw_mealy.specs.Machine.{Rows, IsMachine, IsMinimal}
use Rattle.lw_separate.specs.Canonical.{AreLeastAccess}
use Rattle.lw_separate.specs.Separators.{IsSeparators}
use Rattle.lw_chunks.specs.Middle.{suite_of, words_up_to}
use Rattle.lw_chunks.specs.Size.{suite_size}

-- the suite of a machine for k extra states: its least access words, the middle words of at most k + 1 letters,
-- and at the end nothing or one of its separating words
pub record IsSuite (a : ℕ) (m : Rows) (k : ℕ) (suite : List (List ℕ)) : Type 0 where
  pub access : List (List ℕ)
  pub ends : List (List ℕ)
  pub least : AreLeastAccess a m access
  pub separating : IsSeparators a m ends
  pub words : suite ≡ suite_of access (words_up_to a (k + 1)) ends

-- a machine has one suite at most
abbrev pub OneSuite : Type 0
OneSuite = (a : ℕ) (m : Rows) (k : ℕ) (s t : List (List ℕ)) → IsSuite a m k s → IsSuite a m k t → s ≡ t

-- a minimal machine has a suite for each number of extra states
abbrev pub SomeSuite : Type 0
SomeSuite = (a : ℕ) (m : Rows) (k : ℕ) → IsMachine a m → IsMinimal a m
    → (suite : List (List ℕ)) × IsSuite a m k suite

-- the words of a machine's suite are words over its letters
abbrev pub SuiteIsOfWords : Type 0
SuiteIsOfWords = (a : ℕ) (m : Rows) (k : ℕ) (suite : List (List ℕ)) → IsSuite a m k suite → All (IsWord a) suite

-- the words of a machine's suite are at most as many as its size says
abbrev pub SuiteIsCounted : Type 0
SuiteIsCounted = (a : ℕ) (m : Rows) (k : ℕ) (suite : List (List ℕ)) → IsSuite a m k suite → length suite ≤ suite_size (length m) a k
