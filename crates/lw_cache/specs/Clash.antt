-- Answers that no one machine agrees with, and the answers that stay when, from the first on, those that clash are left
-- out.
use Rattle.std.specs.Prelude.{◌≡◌, ◌≢◌, ℕ, zero, suc, ◌+◌, ◌<◌, ◌↔◌, List, ◌++◌, length, take, slice_index_or}
use Rattle.std.specs.List.{AllPairs}
use Rattle.lw_words.specs.Word.{Answer, answer_at}
use Rattle.lw_mealy.specs.Machine.{Rows, Gives}

-- both words are longer than the place, their letters agree up to and with it, and their outputs agree before it and
-- differ at it
pub record ClashAt (k l : Answer) (place : ℕ) : Type 0 where
  pub first : place < length k.word
  pub second : place < length l.word
  pub letters : take (place + 1) k.word ≡ take (place + 1) l.word
  pub before : take place k.outs ≡ take place l.outs
  pub here : slice_index_or k.outs place 0 ≢ slice_index_or l.outs place 0

abbrev pub Clash : Answer → Answer → Type 0
Clash k l = (place : ℕ) × ClashAt k l place

abbrev pub NothingClashes : List Answer → Type 0
NothingClashes ks = AllPairs (λ k l. ¬ Clash k l) ks

-- the answer clashes with none of the first n answers that is itself clear after those before it
abbrev pub IsClearAfter : List Answer → ℕ → Answer → Type 0
IsClearAfter ks zero k = Unit {0}
IsClearAfter ks (suc n) k = IsClearAfter ks n k × (IsClearAfter ks n (answer_at ks n) → ¬ Clash (answer_at ks n) k)

-- the answer with this number clashes with no clear answer before it
abbrev pub IsClear : List Answer → ℕ → Type 0
IsClear ks i = (i < length ks) × IsClearAfter ks i (answer_at ks i)

-- what clear means: an answer is clear exactly where it clashes with no clear answer before it
abbrev pub ClearIsUnclashed : Type 0
ClearIsUnclashed = (ks : List Answer) (i : ℕ) → i < length ks → IsClear ks i ↔ ((j : ℕ) → j < i → IsClear ks j → ¬ Clash (answer_at ks j) (answer_at ks i))

-- more answers behind it change nothing of whether an answer is clear
abbrev pub ClearStays : Type 0
ClearStays = (ks more : List Answer) (i : ℕ) → i < length ks → IsClear (ks ++ more) i ↔ IsClear ks i

-- where nothing clashes every answer is clear
abbrev pub AllAreClear : Type 0
AllAreClear = (ks : List Answer) → NothingClashes ks → (i : ℕ) → i < length ks → IsClear ks i

-- no machine agrees with two answers that clash
abbrev pub GivenNeverClash : Type 0
GivenNeverClash = (m : Rows) (ks : List Answer) → Gives m ks → NothingClashes ks
