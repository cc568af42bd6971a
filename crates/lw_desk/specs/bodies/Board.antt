-- The board of a desk: what it keeps between two turns.
use Rattle.std.specs.Prelude.{◌≡◌, ◌⊎◌, ℕ, ◌<◌, ◌≤◌, ◌^◌, ◌==◌, not, List, [], ◌∷◌, length, map, filter, Contains, Option, Some, None, Result, Ok, Err}
use Rattle.std.specs.Bool.{⊤}
use Rattle.std.specs.List.{All, sum_by}
use Rattle.lw_words.specs.Word.{answers_of, IsPrefix}
use Rattle.lw_words.specs.declared.kept.KeptAnswer.{KeptAnswer}
use Rattle.lw_cache.specs.Caching.{Claim, without_claim}
use Rattle.lw_cache.specs.Known.{IsKnown}
use Rattle.lw_cache.specs.declared.stops.AskStop.{AskStop}
use Rattle.lw_cache.specs.declared.stops.AskStop.TheVariants as Ask
use Rattle.lw_cache.specs.declared.stops.Clash.{Clash}
use Rattle.lw_names.specs.Naming.{Naming}
use Rattle.lw_desk.specs.Step.{DeskState, word_at_place, ComesBefore}

-- what contracts see of a board: the places that are claimed, in order, and those that wait, first ones first
pub record BoardState : Type 0 where
  pub naming : Naming
  pub kept : List KeptAnswer
  pub claimed : List ℕ
  pub stop : Option AskStop
  pub batch : List (List ℕ)
  pub waiting : List ℕ

-- the board stands for this state
pub record Agrees (b : BoardState) (s : DeskState) : Type 0 where
  pub naming : s.naming ≡ b.naming
  pub kept : s.kept ≡ b.kept
  pub claims : map (λ c. c.place) s.claims ≡ b.claimed
  pub stop : s.stop ≡ b.stop

-- the places that are claimed in a cache
abbrev pub numbers_of : List Claim → List ℕ
numbers_of claims = map (λ c. c.number) claims

-- the others
abbrev pub without_number : ℕ → List ℕ → List ℕ
without_number p numbers = filter (λ n. not (n == p)) numbers

abbrev pub without_numbers : List ℕ → List ℕ → List ℕ
without_numbers [] numbers = numbers
without_numbers (p ∷ ps) numbers = without_numbers ps (without_number p numbers)

abbrev pub without_all : List ℕ → List Claim → List Claim
without_all [] claims = claims
without_all (p ∷ ps) claims = without_all ps (without_claim p claims)

-- the word is known, or the word of a claimed place begins with it
abbrev pub IsTaken : List (List ℕ) → List KeptAnswer → List ℕ → List ℕ → Type 0
IsTaken batch kept claimed w = IsKnown (answers_of kept) w ⊎ ((p : ℕ) × Contains claimed p × IsPrefix w (word_at_place batch p))

-- no place twice
abbrev pub AreApart : List ℕ → Type 0
AreApart [] = Unit {0}
AreApart (p ∷ ps) = (¬ Contains ps p) × AreApart ps

-- first ones first
abbrev pub AreInOrder : List (List ℕ) → List ℕ → Type 0
AreInOrder batch [] = Unit {0}
AreInOrder batch (p ∷ ps) = All (ComesBefore batch p) ps × AreInOrder batch ps

-- of the places with its word the least one
abbrev pub IsLeast : List (List ℕ) → ℕ → Type 0
IsLeast batch p = (q : ℕ) → q < length batch → word_at_place batch q ≡ word_at_place batch p → p ≤ q

-- the word begins that of one of these places
abbrev pub BeginsOne : List (List ℕ) → List ℕ → List ℕ → Type 0
BeginsOne batch places w = (p : ℕ) × Contains places p × IsPrefix w (word_at_place batch p)

-- no word begins one that stands before it
abbrev pub AreWhole : List (List ℕ) → List ℕ → Type 0
AreWhole batch [] = Unit {0}
AreWhole batch (p ∷ ps) = All (λ q. ¬ IsPrefix (word_at_place batch q) (word_at_place batch p)) ps × AreWhole batch ps

-- the places are claimed, and different
abbrev pub AreHeld : List ℕ → List ℕ → Type 0
AreHeld claimed ps = All (Contains claimed) ps × AreApart ps

-- the word of a place of the batch lies at hand
pub record IsAtHand (batch words : List (List ℕ)) (p : ℕ) : Type 0 where
  pub within : p < length batch
  pub word : word_at_place words p ≡ word_at_place batch p

-- a claim is of a place, whose word is at hand
pub record IsPlaces (batch words : List (List ℕ)) (c : Claim) : Type 0 where
  pub at_hand : IsAtHand batch words c.number
  pub word : c.word ≡ word_at_place batch c.number

-- a place waits: its word is at hand and not taken, it is the least with this word, and no claim is of it
pub record Waits (batch words : List (List ℕ)) (kept : List KeptAnswer) (claims : List Claim) (p : ℕ) : Type 0 where
  pub at_hand : IsAtHand batch words p
  pub least : IsLeast batch p
  pub free : ¬ IsTaken batch kept (numbers_of claims) (word_at_place batch p)
  pub unclaimed : ¬ Contains (numbers_of claims) p

abbrev pub letters_of : List (List ℕ) → List ℕ → ℕ
letters_of batch places = sum_by (λ p. length (word_at_place batch p)) places

-- what holds of a board between calls, with the room of its cache
pub record IsBoard (batch : List (List ℕ)) (kept : List KeptAnswer) (claims : List Claim) (stop : Option AskStop) (words : List (List ℕ)) (waiting : List ℕ) (room letters : ℕ) : Type 0 where
  pub few : length batch < 2 ^ 32
  pub size : length words ≡ length batch
  pub places : All (IsPlaces batch words) claims
  pub apart : AreApart (numbers_of claims)
  pub waits : All (Waits batch words kept claims) waiting
  pub order : AreInOrder batch waiting
  pub whole : AreWhole batch waiting
  pub count : length waiting ≤ length batch
  pub room_fits : length waiting ≤ room
  pub letters_fit : letters_of batch waiting ≤ letters
  pub covered : stop ≡ None → (p : ℕ) → p < length batch → BeginsOne batch waiting (word_at_place batch p) ⊎ IsTaken batch kept (numbers_of claims) (word_at_place batch p)

-- the first stop, after what came of an answer that was kept
abbrev pub stop_after : Option AskStop → Result ⊤ Clash → Option AskStop
stop_after (Some first) filled = Some first
stop_after None (Err clash) = Some (Ask.Clash clash)
stop_after None (Ok done) = None
