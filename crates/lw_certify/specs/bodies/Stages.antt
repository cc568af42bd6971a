-- The first word of a list that isn't known, and the result of a suite, stage by stage.
use Rattle.std.specs.Prelude.{◌≡◌, ℕ, List, [], slice_index_or, Option, MatchOption}
use Rattle.std.specs.List.{All}
use Rattle.lw_words.specs.Word.{Answer}
use Rattle.lw_words.specs.First.{FailsFirst}
use Rattle.lw_chunks.specs.declared.size.SuiteFault.{SuiteFault}
use Rattle.lw_chunks.specs.declared.size.SuiteFault.TheVariants as too
use Rattle.lw_cache.specs.Known.{IsKnown}
use Rattle.lw_certify.specs.declared.verdict.Verdict.{Verdict}
use Rattle.lw_certify.specs.declared.verdict.Verdict.TheVariants as verdict

-- the word stands at the first place whose word isn't known
pub record FirstUnknown (ks : List Answer) (words : List (List ℕ)) (word : List ℕ) : Type 0 where
  pub number : ℕ
  pub first : FailsFirst (IsKnown ks) words number
  pub here : word ≡ slice_index_or words number []

-- that word, and none exactly where all are known
abbrev pub IsFirstUnknown : List Answer → List (List ℕ) → Option (List ℕ) → Type 0
IsFirstUnknown ks words found = MatchOption found (All (IsKnown ks) words) (FirstUnknown ks words)

-- the result of the words of a suite
abbrev pub IsJudged : List Answer → List (List ℕ) → Verdict → Type 0
IsJudged ks words (verdict.Unreached state) = ⊥
IsJudged ks words (verdict.Alike p q) = ⊥
IsJudged ks words (verdict.Differs number place) = ⊥
IsJudged ks words (verdict.TooLarge size) = ⊥
IsJudged ks words (verdict.Missing word) = FirstUnknown ks words word
IsJudged ks words verdict.Sure = All (IsKnown ks) words

-- what comes of it that there is no suite
pub record IsOfFault (fault : SuiteFault) (v : Verdict) : Type 0 where
  pub size : ℕ
  pub large : fault ≡ too.TooLarge size
  pub told : v ≡ verdict.TooLarge size
