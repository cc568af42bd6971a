-- The identification set of a state: words that separate it from each other state.
-- Source: Fujiwara, von Bochmann, Khendek, Amalou and Ghedamsi (1991); which of several such sets it is is this project's.
use Rattle.std.specs.Prelude.{◌≡◌, ◌≢◌, ℕ, zero, suc, ◌<◌, Bool, not, List, [], ◌++◌, length, take, All, Contains, if◌then◌else◌}
use Rattle.std.specs.List.{filter, list_any}
use Rattle.std.specs.Str.{bytes_eq}
use Rattle.lw_mealy.specs.Machine.{Rows, out}
use Rattle.lw_separate.specs.Separators.{IsSeparators, SplitAt}

-- whether the outputs of two states on a word differ
abbrev pub separates : Rows → ℕ → ℕ → List ℕ → Bool
separates h q p w = not (bytes_eq (out h q w) (out h p w))

-- the first of the words that separates two states, as a list of one; an empty list where none does
abbrev pub first_separating : Rows → List (List ℕ) → ℕ → ℕ → List (List ℕ)
first_separating h words q p = take 1 (filter (separates h q p) words)

-- a list for q that is to separate p from it too: as it is where one of its words does, and else with the first of all that does
abbrev pub with_state : Rows → List (List ℕ) → ℕ → ℕ → List (List ℕ) → List (List ℕ)
with_state h words q p list = if list_any (separates h q p) list then list else list ++ first_separating h words q p

-- goes through the states below p by number; no word separates q from itself
abbrev pub identification_below : Rows → List (List ℕ) → ℕ → ℕ → List (List ℕ)
identification_below h words q zero = []
identification_below h words q (suc p) = with_state h words q p (identification_below h words q p)

-- the identification set of q among the words
abbrev pub identification_of : Rows → List (List ℕ) → ℕ → List (List ℕ)
identification_of h words q = identification_below h words q (length h)

-- the identification set of a state among the machine's separating words
pub record IsIdentification (a : ℕ) (h : Rows) (q : ℕ) (list : List (List ℕ)) : Type 0 where
  pub among : List (List ℕ)
  pub separating : IsSeparators a h among
  pub words : list ≡ identification_of h among q

-- a state of a machine has one identification set at most
abbrev pub OneIdentification : Type 0
OneIdentification = (a : ℕ) (h : Rows) (q : ℕ) (s t : List (List ℕ)) → IsIdentification a h q s → IsIdentification a h q t → s ≡ t

-- words, each one of the machine's separating words, that separate the state from each other one; fewer than there are states
pub record Identifies (h : Rows) (among : List (List ℕ)) (q : ℕ) (list : List (List ℕ)) : Type 0 where
  pub within : All (Contains among) list
  pub separated : (p : ℕ) → p < length h → p ≢ q → (i : ℕ) × SplitAt h list q p i
  pub few : length list < length h

-- an identification set does what it is for
abbrev pub IdentificationIdentifies : Type 0
IdentificationIdentifies = (a : ℕ) (h : Rows) (among : List (List ℕ)) (q : ℕ) → IsSeparators a h among → q < length h
    → Identifies h among q (identification_of h among q)
