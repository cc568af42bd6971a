-- What the learner counts as known, and what answers that are kept say: a word is known where it begins a word that was asked.
use Rattle.std.specs.Prelude.{◌≡◌, ◌⊎◌, ◌↔◌, ℕ, List, [], ◌++◌, Contains, Option, MatchOption}
use Rattle.std.specs.List.{All}
use Rattle.lw_words.specs.Word.{Answer, IsPrefix}
use Rattle.lw_mealy.specs.Machine.{Rows, Gives, answer}
use Rattle.lw_cache.specs.Against.{DiffersFirst}
use Rattle.lw_cache.specs.Known.{IsKnown, Reads}
use Rattle.lw_separate.specs.Canonical.{LeastWord}
use Rattle.lw_plain.specs.Rounds.{Reveals}

-- the word begins one of these
abbrev pub BeginsOne : List (List ℕ) → List ℕ → Type 0
BeginsOne words w = (v : List ℕ) × Contains words v × IsPrefix w v

-- answers of a machine, of which just the words that begin one of these are known
pub record KnowsWords (m : Rows) (words : List (List ℕ)) (ks : List Answer) : Type 0 where
  pub gives : Gives m ks
  pub only : (w : List ℕ) → IsKnown ks w → (w ≡ []) ⊎ BeginsOne words w
  pub all : (w : List ℕ) → BeginsOne words w → IsKnown ks w

-- no answers know no words
abbrev pub NothingKnown : Type 0
NothingKnown = (m : Rows) → KnowsWords m [] []

-- once a batch is known by answers to its words, its words are known too
abbrev pub BatchIsKnown : Type 0
BatchIsKnown = (m : Rows) (words batch : List (List ℕ)) (ks more : List Answer) → KnowsWords m words ks → Gives m (ks ++ more)
    → All (λ k. Contains batch k.word) more → All (IsKnown (ks ++ more)) batch → KnowsWords m (words ++ batch) (ks ++ more)

-- what is read of a known word are the machine's outputs
abbrev pub KnownOutputs : Type 0
KnownOutputs = (m : Rows) (words : List (List ℕ)) (ks : List Answer) (w o : List ℕ) → KnowsWords m words ks → BeginsOne words w
    → Reads ks w o ↔ (o ≡ answer m w)

-- the first known word on which a machine differs is the least word that these reveal
abbrev pub FirstIsRevealed : Type 0
FirstIsRevealed = (m h : Rows) (words : List (List ℕ)) (ks : List Answer) (found : Option (List ℕ)) → KnowsWords m words ks → DiffersFirst h ks found
    → MatchOption found ((w : List ℕ) → ¬ Reveals m h words w) (LeastWord (Reveals m h words))
