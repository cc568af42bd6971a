-- How a new answer clashes with those before it.
use Rattle.std.specs.Prelude.{◌≡◌, ◌↔◌, ℕ, ◌+◌, ◌<◌, ◌≤◌, List, ◌∷◌, [], ◌++◌, length, take}
use Rattle.lw_words.specs.Word.{Answer, answer_at, answer_of, answers_of, IsPrefix}
use Rattle.lw_cache.specs.Clash.{ClashAt, IsClear, NothingClashes}
use Rattle.lw_cache.specs.Known.{IsKnown}
use Rattle.lw_words.specs.declared.kept.KeptAnswer.{KeptAnswer}
use Rattle.lw_cache.specs.Caching.{Caching}
use Rattle.lw_cache.specs.declared.stops.Clash.{Clash}
use Rattle.lw_cache.specs.declared.stops.KeepStop.{KeepStop}
use Rattle.lw_cache.specs.declared.stops.KeepStop.TheVariants as Stopped

-- the new answer k clashes with a clear one: at the first place at which its outputs differ on a known word, and with
-- the earliest clear answer whose word begins with that known word
pub record ClashesFirst (ks : List Answer) (k : Answer) (clash : Clash) : Type 0 where
  pub second : clash.second ≡ length ks
  pub clear : IsClear ks clash.first
  pub here : ClashAt (answer_at ks clash.first) k clash.place
  pub place : (i place : ℕ) → IsClear ks i → ClashAt (answer_at ks i) k place → clash.place ≤ place
  pub first : (i : ℕ) → IsClear ks i → IsPrefix (take (clash.place + 1) k.word) (answer_at ks i).word → clash.first ≤ i

-- the first two answers, in the order of a list, that no one machine agrees with: nothing clashes before the second of
-- the two, and it clashes with the first of those before it, at the first place
pub record IsFirstClash (ks : List Answer) (clash : Clash) : Type 0 where
  pub within : clash.second < length ks
  pub before : NothingClashes (take clash.second ks)
  pub here : ClashesFirst (take clash.second ks) (answer_at ks clash.second) clash

-- the second answer of the clash clashed with those that were kept before it
pub record ClashedWhenKept (kept : List KeptAnswer) (clash : Clash) : Type 0 where
  pub within : clash.second < length kept
  pub came : ClashesFirst (answers_of (take clash.second kept)) (answer_at (answers_of kept) clash.second) clash

-- the answers from the first of these numbers on, and before the second, are clear
abbrev pub AreClear : List KeptAnswer → ℕ → ℕ → Type 0
AreClear kept first end = (i : ℕ) → first ≤ i → i < end → IsClear (answers_of kept) i

-- a clash of an answer that came behind this many, and the first of those that isn't clear
pub record IsNewClash (count : ℕ) (kept : List KeptAnswer) (clash : Clash) : Type 0 where
  pub new : count ≤ clash.second
  pub came : ClashedWhenKept kept clash
  pub clear : AreClear kept count clash.second

-- the same words are known
abbrev pub SameKnown : List Answer → List Answer → Type 0
SameKnown ks more = (w : List ℕ) → IsKnown more w ↔ IsKnown ks w

-- what came of an answer that was to be kept: it is kept and clashes, and the same words are known; or nothing changed
abbrev pub StopsKeeping : Caching → Caching → KeptAnswer → KeepStop → Type 0
StopsKeeping before now k (Stopped.Clash clash) =
    (now.kept ≡ before.kept ++ k ∷ []) × ClashesFirst (answers_of before.kept) (answer_of k) clash × SameKnown (answers_of before.kept) (answers_of now.kept)
StopsKeeping before now k Stopped.NoMemory = now ≡ before
