-- How a block that a letter parts is found, and its new discriminator.
use Rattle.std.specs.Prelude.{◌≡◌, ◌≢◌, ◌⊎◌, ℕ, ◌<◌, ◌≤◌, List, ◌++◌, length, slice_index_or, Contains}
use Rattle.std.specs.List.{All}
use Rattle.lw_words.specs.Word.{Answer, IsWord}
use Rattle.lw_mealy.specs.Machine.{Rows, next, output}
use Rattle.lw_cache.specs.Cut.{word_at}
use Rattle.lw_tree.specs.Blocks.{IsMember, IsBlock, AreOfOneClass, AreTold}
use Rattle.lw_tree.specs.Tree.{TreeState, node_at, leaf_at, HasTail, IsAbove, IsMachineOf, BranchesAreRead}
use Rattle.lw_settle.specs.Settling.{IsParted}
use Rattle.lw_settle.specs.declared.parting.Parting.{Parting}
use Rattle.lw_settle.specs.declared.settling.Replacement.{Replacement}

abbrev pub number_at : List ℕ → ℕ → ℕ
number_at numbers q = slice_index_or numbers q 0

-- the roots of the classes of the first states, by state
pub record AreRootsTo (t : TreeState) (n : ℕ) (roots : List ℕ) : Type 0 where
  pub each : length roots ≡ n
  pub members : (q : ℕ) → q < n → IsMember t (number_at roots q) q

abbrev pub AreRoots : TreeState → List ℕ → Type 0
AreRoots t roots = AreRootsTo t (length t.access) roots

-- by state, a state of its class that is the same for all of these, and not after it: so the least one
pub record AreLeast (roots least : List ℕ) : Type 0 where
  pub each : length least ≡ length roots
  pub before : (q : ℕ) → q < length roots → number_at least q ≤ q
  pub same : (q : ℕ) → q < length roots → number_at roots (number_at least q) ≡ number_at roots q
  pub once : (p q : ℕ) → p < length roots → q < length roots → number_at roots p ≡ number_at roots q → number_at least p ≡ number_at least q

-- two states have the same output at a letter, and go on to states of one class; or not
abbrev pub AreAlike : List ℕ → Rows → ℕ → ℕ → ℕ → Type 0
AreAlike roots m one other x = (output m one x ≡ output m other x) × (number_at roots (next m one x) ≡ number_at roots (next m other x))

abbrev pub ArePartedBy : List ℕ → Rows → ℕ → ℕ → ℕ → Type 0
ArePartedBy roots m one other x = (output m one x ≢ output m other x) ⊎ (number_at roots (next m one x) ≢ number_at roots (next m other x))

-- no letter parts the two
abbrev pub AreAllAlike : TreeState → List ℕ → ℕ → ℕ → Type 0
AreAllAlike t roots one other = (m : Rows) → IsMachineOf t m → (x : ℕ) → x < t.inputs → AreAlike roots m one other x

-- two states of one class that a letter parts
pub record IsParting (t : TreeState) (roots : List ℕ) (parting : Parting) : Type 0 where
  pub one : parting.one < length t.access
  pub other : parting.other < length t.access
  pub small : parting.letter < t.inputs
  pub same : number_at roots parting.one ≡ number_at roots parting.other
  pub parts : (m : Rows) → IsMachineOf t m → ArePartedBy roots m parting.one parting.other parting.letter

-- all states of the class with this root
pub record AreMembers (t : TreeState) (r : ℕ) (members : List ℕ) : Type 0 where
  pub all : All (IsMember t r) members
  pub each : (q : ℕ) → IsMember t r q → Contains members q
  pub few : length members ≤ length t.access

-- two of these states, and a letter at which they have different outputs or go on to states of different classes
pub record IsPartingOf (t : TreeState) (members : List ℕ) (parting : Parting) : Type 0 where
  pub one : Contains members parting.one
  pub other : Contains members parting.other
  pub small : parting.letter < t.inputs
  pub parts : (m : Rows) → IsMachineOf t m → (output m parting.one parting.letter ≢ output m parting.other parting.letter) ⊎ ¬ (AreOfOneClass t (next m parting.one parting.letter) (next m parting.other parting.letter))

-- the lowest node above the targets of the states
pub record IsForkOf (t : TreeState) (m : Rows) (states : List ℕ) (x n : ℕ) : Type 0 where
  pub above : All (λ q. IsAbove (node_at t.nodes) n (leaf_at t.leaves (next m q x))) states
  pub lowest : (k : ℕ) → All (λ q. IsAbove (node_at t.nodes) k (leaf_at t.leaves (next m q x))) states → IsAbove (node_at t.nodes) k n

-- the word may take the place of the root of a block, once the outputs of its states on it are known
pub record IsChosen (t : TreeState) (r : ℕ) (word : List ℕ) : Type 0 where
  pub letters : IsWord t.inputs word
  pub tail : HasTail (node_at t.nodes) word
  pub told : (ks : List Answer) → BranchesAreRead ks t → AreTold ks t r word

-- no letter parts a block
abbrev pub NothingIsParted : TreeState → Type 0
NothingIsParted t = (m : Rows) → IsMachineOf t m → (r letter : ℕ) → ¬ (IsParted t m r letter)

-- a block, its states, and such a word
pub record IsReplacement (t : TreeState) (replacement : Replacement) : Type 0 where
  pub block : IsBlock t replacement.root
  pub members : AreMembers t replacement.root replacement.members.items
  pub chosen : IsChosen t replacement.root replacement.word

-- the words of the states, each followed by the suffix
pub record AreWordsOf (t : TreeState) (states : List ℕ) (suffix : List ℕ) (words : List (List ℕ)) : Type 0 where
  pub count : length words ≡ length states
  pub letters : All (IsWord t.inputs) words
  pub asked : All (λ q. Contains words (word_at t.access q ++ suffix)) states
  pub only : All (λ w. (q : ℕ) × Contains states q × (w ≡ word_at t.access q ++ suffix)) words
