-- Whether a machine's outputs on words are what is read of them.
use Rattle.std.specs.Prelude.{◌≡◌, ℕ, ◌+◌, ◌<◌, List, length, take, Option, MatchOption}
use Rattle.std.specs.List.{All, AllWithin}
use Rattle.lw_words.specs.Word.{Answer}
use Rattle.lw_mealy.specs.Machine.{Rows, answer, Gives, MealyMachine}
use Rattle.lw_cache.specs.Against.{Differs}
use Rattle.lw_cache.specs.Cut.{word_at}
use Rattle.lw_cache.specs.Known.{IsKnown, Reads}
use Rattle.lw_certify.specs.Verdict.{IsSuiteBy}
use Rattle.lw_chunks.specs.declared.method.Method.{Method}
use Rattle.lw_draw.specs.declared.drawing.Drawn.{Drawn}
use Rattle.lw_rounds.specs.Learned.{AreWalked}

-- the word is known with the machine's outputs
abbrev pub AgreesOn : Rows → List Answer → List ℕ → Type 0
AgreesOn h ks w = Reads ks w (answer h w)

-- the shortest prefix of a word on which the machine differs: it ends with the place at which it does
pub record IsShortest (h : Rows) (ks : List Answer) (word front : List ℕ) : Type 0 where
  pub place : ℕ
  pub within : place < length word
  pub is : front ≡ take (place + 1) word
  pub differs : Differs h ks front
  pub before : AgreesOn h ks (take place word)

-- of the first word on which the machine differs
pub record IsFirstShortest (h : Rows) (ks : List Answer) (words : List (List ℕ)) (front : List ℕ) : Type 0 where
  pub number : ℕ
  pub within : number < length words
  pub before : AllWithin (AgreesOn h ks) words 0 number
  pub here : IsShortest h ks (word_at words number) front

-- what is found in a word, and in words; none where the machine agrees
abbrev pub FindsShortest : Rows → List Answer → List ℕ → Option (List ℕ) → Type 0
FindsShortest h ks word found = MatchOption found (AgreesOn h ks word) (IsShortest h ks word)

abbrev pub FindsFirst : Rows → List Answer → List (List ℕ) → Option (List ℕ) → Type 0
FindsFirst h ks words found = MatchOption found (All (AgreesOn h ks) words) (IsFirstShortest h ks words)

-- the words are known, and the machine agrees with the answers
pub record Passes (h : Rows) (ks : List Answer) (words : List (List ℕ)) : Type 0 where
  pub gives : Gives h ks
  pub known : All (IsKnown ks) words

-- the result of a suite: a word on which the machine differs, or that it passes
abbrev pub Comes : Rows → List Answer → List (List ℕ) → Option (List ℕ) → Type 0
Comes h ks words found = MatchOption found (Passes h ks words) (Differs h ks)

-- the result of walks: a word on which the machine differs, or that it agrees with the answers, and that the walks of its model,
-- where some are drawn, are known
abbrev pub ComesWalked : (h : Rows) (a : ℕ) (model : Rows) → Option Drawn → List Answer → Option (List ℕ) → Type 0
ComesWalked h a model drawn ks found = MatchOption found (Gives h ks × AreWalked drawn a ks model) (Differs h ks)

-- the machine passes the suite of its model
pub record HasPassed (h : Rows) (method : Method) (model : MealyMachine) (k : ℕ) (ks : List Answer) : Type 0 where
  pub suite : List (List ℕ)
  pub made : IsSuiteBy method model.inputs model.rows k suite
  pub passes : Passes h ks suite
