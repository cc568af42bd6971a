-- Classes of states by their outputs on the words of a list.
-- Source: the refinement of partitions of Moore (1956).
-- The walk over the pairs of states asks no more for the states before its row,
-- so that the classes are kept from a first state on.
use Rattle.std.specs.Prelude.{◌≡◌, ℕ, ◌<◌, ◌≤◌, List, [], length, slice_index, slice_index_or}
use Rattle.lw_mealy.specs.Machine.{Rows, out}

-- the outputs of two states on each word are equal
abbrev pub SameOn : Rows → List (List ℕ) → ℕ → ℕ → Type 0
SameOn m list p q = (i : ℕ) → i < length list
    → out m p (slice_index_or list i []) ≡ out m q (slice_index_or list i [])

-- two states have one class
abbrev pub OneClass : List ℕ → ℕ → ℕ → Type 0
OneClass classes p q = slice_index classes p ≡ slice_index classes q

-- two states have one output
abbrev pub OneOutput : List ℕ → ℕ → ℕ → Type 0
OneOutput outputs p q = slice_index outputs p ≡ slice_index outputs q

-- a state from the first one on
abbrev pub IsFrom : Rows → ℕ → ℕ → Type 0
IsFrom m first q = (first ≤ q) × (q < length m)

-- one number for each state, none above the state's own
pub record AreNames (m : Rows) (classes : List ℕ) : Type 0 where
  pub long : length classes ≡ length m
  pub low : (q : ℕ) → q < length m → slice_index classes q ≤ q

-- from the first state on, two have one class exactly where their outputs on each word are equal
pub record AreClasses (m : Rows) (first : ℕ) (list : List (List ℕ)) (classes : List ℕ)
    : Type 0 where
  pub names : AreNames m classes
  pub same : (p q : ℕ) → IsFrom m first p → IsFrom m first q → OneClass classes p q
      → SameOn m list p q
  pub apart : (p q : ℕ) → IsFrom m first p → IsFrom m first q → SameOn m list p q
      → OneClass classes p q

-- what a state has in a column
abbrev pub at : List (ℕ × ℕ) → ℕ → ℕ × ℕ
at column q = slice_index_or column q (0, 0)

-- the states from the first one to before n go on by the letter of a column,
-- and their outputs on it are kept
pub record Observes (column : List (ℕ × ℕ)) (first n : ℕ) (ends ends' outputs : List ℕ)
    : Type 0 where
  pub long : length ends' ≡ length ends
  pub kept : length outputs ≡ length ends
  pub before : (k : ℕ) → k < first → slice_index ends' k ≡ slice_index ends k
  pub to : (k : ℕ) → first ≤ k → k < n → slice_index ends' k ≡ (at column (slice_index ends k)).0
  pub output : (k : ℕ) → first ≤ k → k < n
      → slice_index outputs k ≡ (at column (slice_index ends k)).1
  pub rest : (k : ℕ) → n ≤ k → slice_index ends' k ≡ slice_index ends k

-- the outputs from the first one to before n are equal
abbrev pub AllEqual : ℕ → ℕ → List ℕ → Type 0
AllEqual first n outputs = (k : ℕ) → first ≤ k → k < n → OneOutput outputs k first

-- p is the least state from the first one on with the class and the output of q
pub record IsLeastAlike (first : ℕ) (classes outputs : List ℕ) (q p : ℕ) : Type 0 where
  pub from : first ≤ p
  pub within : p ≤ q
  pub class : OneClass classes p q
  pub output : OneOutput outputs p q
  pub least : (r : ℕ) → first ≤ r → r < p → OneClass classes r q → ¬ OneOutput outputs r q

-- the states from q on are named by the least state with their class and their output
pub record Refines (first : ℕ) (outputs : List ℕ) (q : ℕ) (classes classes' : List ℕ) : Type 0 where
  pub long : length classes' ≡ length classes
  pub before : (k : ℕ) → k < q → slice_index classes' k ≡ slice_index classes k
  pub done : (k : ℕ) → q ≤ k → k < length classes
      → IsLeastAlike first classes outputs k (slice_index classes' k)

-- two states have one class exactly where they had one and their outputs are equal
pub record SplitsBy (m : Rows) (first : ℕ) (outputs classes classes' : List ℕ) : Type 0 where
  pub names : AreNames m classes'
  pub class : (p q : ℕ) → IsFrom m first p → IsFrom m first q → OneClass classes' p q
      → OneClass classes p q
  pub output : (p q : ℕ) → IsFrom m first p → IsFrom m first q → OneClass classes' p q
      → OneOutput outputs p q
  pub back : (p q : ℕ) → IsFrom m first p → IsFrom m first q → OneClass classes p q
      → OneOutput outputs p q → OneClass classes' p q

-- two states have one class exactly where they had one and their outputs on the word are equal
pub record RefinesBy (m : Rows) (first : ℕ) (w : List ℕ) (classes classes' : List ℕ) : Type 0 where
  pub names : AreNames m classes'
  pub same : (p q : ℕ) → IsFrom m first p → IsFrom m first q → OneClass classes' p q
      → OneClass classes p q × (out m p w ≡ out m q w)
  pub apart : (p q : ℕ) → IsFrom m first p → IsFrom m first q → OneClass classes p q
      → out m p w ≡ out m q w → OneClass classes' p q

-- each state from the first one on is named by itself
abbrev pub OwnClasses : ℕ → List ℕ → Type 0
OwnClasses first classes = (q : ℕ) → first ≤ q → q < length classes → slice_index classes q ≡ q
