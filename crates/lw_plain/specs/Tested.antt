-- Words that are tested chunk by chunk, as a body goes through them.
use Rattle.std.specs.Prelude.{◌≡◌, ℕ, ◌+◌, ◌*◌, ◌<◌, List, length, take, drop, Option, MatchOption}
use Rattle.std.specs.List.{All}
use Rattle.lw_words.specs.First.{FailsFirst}
use Rattle.lw_mealy.specs.Machine.{Rows}
use Rattle.lw_cache.specs.Cut.{word_at}
use Rattle.lw_plain.specs.Table.{PlainTable, with_batches}
use Rattle.lw_plain.specs.Rounds.{AgreesOn, IsShortest, first_chunks, FailsWords, PassesWords}

-- the shortest prefix of the first word of a list to which machine h answers otherwise
pub record FailsAt (m h : Rows) (words : List (List ℕ)) (front : List ℕ) : Type 0 where
  pub number : ℕ
  pub first : FailsFirst (AgreesOn m h) words number
  pub here : IsShortest m h (word_at words number) front

abbrev pub FindsFirst : Rows → Rows → List (List ℕ) → Option (List ℕ) → Type 0
FindsFirst m h words found = MatchOption found (All (AgreesOn m h) words) (FailsAt m h words)

-- some chunks of the words were asked: up to the first word to which machine h answers otherwise, or all
pub record TestsWords (m h : Rows) (words : List (List ℕ)) (before now : PlainTable) (found : Option (List ℕ)) : Type 0 where
  pub asked : List (List (List ℕ))
  pub is : now ≡ with_batches before asked
  pub comes : MatchOption found (PassesWords m h words asked) (λ front. FailsWords m h words front asked)

-- this many chunks were asked, on which machine h agrees
pub record HasTested (m h : Rows) (words left : List (List ℕ)) (before now : PlainTable) : Type 0 where
  pub number : ℕ
  pub rest : left ≡ drop (512 * number) words
  pub few : 512 * number < length words + 512
  pub agrees : All (AgreesOn m h) (take (512 * number) words)
  pub is : now ≡ with_batches before (first_chunks words number)
