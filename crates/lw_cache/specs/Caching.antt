-- What contracts see of a cache: its recorded answers, its claims and its room.
use Rattle.std.specs.Prelude.{◌≡◌, ◌≢◌, ℕ, ◌<◌, ◌==◌, not, List, [], length, filter, slice_index_or}
use Rattle.lw_words.specs.Word.{IsPrefix}
use Rattle.lw_words.specs.declared.kept.KeptAnswer.{KeptAnswer}

-- a word that is being asked, and the number that it is claimed with
pub record Claim : Type 0 where
  pub number : ℕ
  pub word : List ℕ

-- the recorded answers and the claims in order; and for how many more words, with how many letters together, there is
-- room
pub record Caching : Type 0 where
  pub kept : List KeptAnswer
  pub claims : List Claim
  pub words : ℕ
  pub letters : ℕ

-- an answer of an instance, in its run of this number
abbrev pub kept_answer : ℕ → ℕ → List ℕ → List ℕ → KeptAnswer
kept_answer instance run word outs = record { instance = instance; run = run; word = word; outs = outs }

abbrev pub claim_of : ℕ → List ℕ → Claim
claim_of number word = record { number = number; word = word }

-- the claim at this place; past the end, one of the empty word
abbrev pub claim_at : List Claim → ℕ → Claim
claim_at cs i = slice_index_or cs i (record { number = 0; word = [] })

-- the word is claimed with this number
abbrev pub IsClaimOf : List Claim → ℕ → List ℕ → Type 0
IsClaimOf cs number word = (i : ℕ) × (i < length cs) × ((claim_at cs i).number ≡ number) × ((claim_at cs i).word ≡ word)

-- a word that begins with w is claimed with this number
abbrev pub IsClaimedBy : List Claim → List ℕ → ℕ → Type 0
IsClaimedBy cs w number = (i : ℕ) × (i < length cs) × ((claim_at cs i).number ≡ number) × IsPrefix w (claim_at cs i).word

-- no claim has this number
abbrev pub IsUnused : List Claim → ℕ → Type 0
IsUnused cs number = (i : ℕ) → i < length cs → (claim_at cs i).number ≢ number

-- the other claims, in their order
abbrev pub without_claim : ℕ → List Claim → List Claim
without_claim number cs = filter (λ c. not (c.number == number)) cs
