-- Words that answers tell apart, so that no two lead to one state. Source: the rows of Angluin (1987), as a relation;
-- apartness as in Vaandrager, Garhewal, Rot and Wissmann (2022).
use Rattle.std.specs.Prelude.{◌≢◌, ℕ, ◌≤◌, List, ◌++◌, length, drop}
use Rattle.std.specs.List.{AllPairs}
use Rattle.lw_words.specs.Word.{Answer, AreAnswers}
use Rattle.lw_mealy.specs.Machine.{Rows, IsMachine, Gives}
use Rattle.lw_cache.specs.Known.{Reads}

-- both words followed by the suffix are known, and their outputs on the suffix differ
pub record Separates (ks : List Answer) (suffix u v : List ℕ) : Type 0 where
  pub one : List ℕ
  pub other : List ℕ
  pub one_read : Reads ks (u ++ suffix) one
  pub other_read : Reads ks (v ++ suffix) other
  pub differ : drop (length u) one ≢ drop (length v) other

-- some suffix separates the words
abbrev pub Apart : List Answer → List ℕ → List ℕ → Type 0
Apart ks u v = (suffix : List ℕ) × Separates ks suffix u v

-- any two of the words are apart
abbrev pub IsCrowd : List Answer → List (List ℕ) → Type 0
IsCrowd ks words = AllPairs (Apart ks) words

-- words that are pairwise apart stay so with more answers
abbrev pub CrowdStays : Type 0
CrowdStays = (ks more : List Answer) (words : List (List ℕ)) → IsCrowd ks words → IsCrowd (ks ++ more) words

-- a machine that agrees with the answers has a state for each of some words that are pairwise apart
abbrev pub CrowdNeedsStates : Type 0
CrowdNeedsStates = (a : ℕ) (m : Rows) (ks : List Answer) (words : List (List ℕ)) → IsMachine a m → AreAnswers a ks → Gives m ks → IsCrowd ks words → length words ≤ length m
