-- The word that is missing where answers don't cover a machine: who asks it learns something.
use Rattle.std.specs.Prelude.{◌≡◌, ◌⊎◌, ℕ, ◌+◌, List, [], ◌++◌, slice_index_or, Contains}
use Rattle.std.specs.List.{All}
use Rattle.lw_words.specs.Word.{Answer}
use Rattle.lw_words.specs.First.{FailsFirst}
use Rattle.lw_mealy.specs.Machine.{Rows, IsMachine, IsMinimal, Gives, after}
use Rattle.lw_separate.specs.Canonical.{LeastWord, AreLeastAccess, IsLeastSeparating}
use Rattle.lw_cache.specs.Known.{IsKnown}
use Rattle.lw_apart.specs.Covers.{Covers}
use Rattle.lw_apart.specs.Pairs.{WordPair, fronts, pairs, IsKnownApart}

-- the pair is the first of the list whose words lead to different states and aren't known apart
pub record IsFirstOpen (h : Rows) (ks : List Answer) (list : List WordPair) (pair : WordPair) : Type 0 where
  pub number : ℕ
  pub first : FailsFirst (IsKnownApart h ks) list number
  pub here : pair ≡ slice_index_or list number ([], [])

-- the word is the one of a pair, with the least word behind it that separates the states of both; where that is known, the other
pub record IsWanted (a : ℕ) (h : Rows) (ks : List Answer) (pair : WordPair) (word : List ℕ) : Type 0 where
  pub suffix : List ℕ
  pub least : IsLeastSeparating a h (after h 0 pair.0) (after h 0 pair.1) suffix
  pub first : ((word ≡ pair.0 ++ suffix) × ¬ IsKnown ks (pair.0 ++ suffix)) ⊎ ((word ≡ pair.1 ++ suffix) × IsKnown ks (pair.0 ++ suffix))

-- the word is the first in shortlex order that is to be known and isn't
abbrev pub IsLeastUnknown : List Answer → List (List ℕ) → List ℕ → Type 0
IsLeastUnknown ks words = LeastWord (λ w. Contains words w × ¬ IsKnown ks w)

-- all words that are to be known are known, and the word is wanted by the first pair that is open
pub record IsWantedFirst (a : ℕ) (h : Rows) (ks : List Answer) (words : List (List ℕ)) (list : List WordPair) (word : List ℕ) : Type 0 where
  pub known : All (IsKnown ks) words
  pub pair : WordPair
  pub open_pair : IsFirstOpen h ks list pair
  pub wanted : IsWanted a h ks pair word

-- the word that is missing so that the answers cover the machine
pub record IsMissing (a : ℕ) (h : Rows) (ks : List Answer) (k : ℕ) (word : List ℕ) : Type 0 where
  pub access : List (List ℕ)
  pub least : AreLeastAccess a h access
  pub missing : IsLeastUnknown ks (fronts a access (k + 1)) word ⊎ IsWantedFirst a h ks (fronts a access (k + 1)) (pairs a access (k + 1)) word

-- a word that is missing isn't known
abbrev pub MissingIsUnknown : Type 0
MissingIsUnknown = (a : ℕ) (h : Rows) (ks : List Answer) (k : ℕ) (word : List ℕ) → IsMissing a h ks k word → ¬ IsKnown ks word

-- at most one word is missing
abbrev pub OneMissing : Type 0
OneMissing = (a : ℕ) (h : Rows) (ks : List Answer) (k : ℕ) (u v : List ℕ) → IsMissing a h ks k u → IsMissing a h ks k v → u ≡ v

-- where one is, the answers don't cover the machine
abbrev pub MissingIsUncovered : Type 0
MissingIsUncovered = (a : ℕ) (h : Rows) (ks : List Answer) (k : ℕ) (word : List ℕ) → IsMissing a h ks k word → ¬ Covers a h ks k

-- answers that a minimal machine agrees with cover it, or a word is missing
abbrev pub CoveredOrMissing : Type 0
CoveredOrMissing = (a : ℕ) (h : Rows) (ks : List Answer) (k : ℕ) → IsMachine a h → IsMinimal a h → Gives h ks
    → Covers a h ks k ⊎ ((word : List ℕ) × IsMissing a h ks k word)
