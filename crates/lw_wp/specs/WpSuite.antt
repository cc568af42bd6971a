-- The suite of the Wp-method: fewer words than the W-method's, which tell a machine from the same others.
-- Source: Fujiwara, von Bochmann, Khendek, Amalou and Ghedamsi (1991); the order of the words is this project's.
use Rattle.std.specs.Prelude.{◌≡◌, ℕ, ◌+◌, ◌≤◌, List, [], ◌∷◌, ◌++◌, length, map}
use Rattle.std.specs.List.{All, flat_map}
use Rattle.lw_words.specs.Word.{IsWord}
use Rattle.lw_mealy.specs.Machine.{Rows, IsMachine, IsMinimal, after}
use Rattle.lw_separate.specs.Canonical.{AreLeastAccess}
use Rattle.lw_separate.specs.Separators.{IsSeparators}
use Rattle.lw_chunks.specs.Size.{suite_size}
use Rattle.lw_chunks.specs.Middle.{each_with, words_of_length, words_up_to, suite_of}
use Rattle.lw_wp.specs.Identification.{identification_of}

-- each word of a list with nothing and then with each word of the identification set of the state that it leads to
abbrev pub with_identification : Rows → List (List ℕ) → List (List ℕ) → List (List ℕ)
with_identification h ends fronts = flat_map (λ front. map (λ end. front ++ end) ([] ∷ identification_of h ends (after h 0 front))) fronts

-- first each access word with each middle word of at most k letters, and each of these with nothing and then with each word at
-- the end; then each access word with each middle word of k + 1 letters, and each of these with its identification set
abbrev pub wp_suite_of : ℕ → Rows → ℕ → List (List ℕ) → List (List ℕ) → List (List ℕ)
wp_suite_of a h k access ends =
    suite_of access (words_up_to a k) ends ++ with_identification h ends (each_with (λ u v. u ++ v) access (words_of_length a (k + 1)))

-- the Wp-suite of a machine for k extra states, of its least access words and its separating words
pub record IsWpSuite (a : ℕ) (h : Rows) (k : ℕ) (suite : List (List ℕ)) : Type 0 where
  pub access : List (List ℕ)
  pub ends : List (List ℕ)
  pub least : AreLeastAccess a h access
  pub separating : IsSeparators a h ends
  pub words : suite ≡ wp_suite_of a h k access ends

-- a machine has one Wp-suite at most
abbrev pub OneWpSuite : Type 0
OneWpSuite = (a : ℕ) (h : Rows) (k : ℕ) (s t : List (List ℕ)) → IsWpSuite a h k s → IsWpSuite a h k t → s ≡ t

-- a minimal machine has a Wp-suite for each number of extra states
abbrev pub SomeWpSuite : Type 0
SomeWpSuite = (a : ℕ) (h : Rows) (k : ℕ) → IsMachine a h → IsMinimal a h → (suite : List (List ℕ)) × IsWpSuite a h k suite

-- the words of a machine's Wp-suite are words over its letters
abbrev pub WpSuiteIsOfWords : Type 0
WpSuiteIsOfWords = (a : ℕ) (h : Rows) (k : ℕ) (suite : List (List ℕ)) → IsWpSuite a h k suite → All (IsWord a) suite

-- they are at most as many as the suite's size says
abbrev pub WpSuiteIsCounted : Type 0
WpSuiteIsCounted = (a : ℕ) (h : Rows) (k : ℕ) (suite : List (List ℕ)) → IsMachine a h → IsWpSuite a h k suite
    → length suite ≤ suite_size (length h) a k
