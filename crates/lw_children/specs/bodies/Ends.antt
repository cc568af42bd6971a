-- What is known of a child at the end of a learning.
use Rattle.std.specs.Prelude.{◌≡◌, ℕ, ◌+◌, ◌<◌, List, length, slice_index_or, Option}
use Rattle.lw_words.specs.declared.kept.KeptAnswer.{KeptAnswer}
use Rattle.lw_words.specs.declared.stop.SulStop.TheVariants as sul
use Rattle.lw_cache.specs.declared.stops.AskStop.TheVariants as ask
use Rattle.lw_desk.specs.Ending.{kept_runs}
use Rattle.lw_outside.specs.Links.{LinkState}
use Rattle.lw_outside.specs.declared.links.StartStop.{StartStop}
use Rattle.lw_outside.specs.declared.links.StartStop.TheVariants.{Failed, NoMemory}
use Rattle.lw_pool.specs.Pool.{Seen, journal_runs}
use Rattle.lw_rounds.specs.declared.stops.LearnStop.{LearnStop}
use Rattle.lw_rounds.specs.declared.stops.LearnStop.TheVariants as learn
use Rattle.lw_children.specs.Crews.{BearsOut, IsChildSeen}

-- what was seen of the session of a child, which the record of its link bears out, and the recorded answers of its
-- instance
pub record IsChildEnd (letters : List (List ℕ)) (outputs : Option (List (List ℕ))) (names : List (List ℕ)) (since : List KeptAnswer) (base i : ℕ) (link : LinkState) : Type 0 where
  pub seen : Seen
  pub is_seen : IsChildSeen letters outputs (base + i) seen
  pub bears : BearsOut seen link
  pub kept : kept_runs names i since ≡ journal_runs seen.names 0 seen.journal

abbrev pub AreChildEnds : (letters : List (List ℕ)) (outputs : Option (List (List ℕ))) (names : List (List ℕ)) (since : List KeptAnswer) (base : ℕ) → List LinkState → Type 0
AreChildEnds letters outputs names since base links = (i : ℕ) (d : LinkState) → i < length links → IsChildEnd letters outputs names since base i (slice_index_or links i d)

-- why a learning stopped before it began, where this many sessions were made
abbrev pub broken_stop : StartStop → ℕ → LearnStop
broken_stop Failed n = learn.Ask (ask.Sul n sul.Failed)
broken_stop NoMemory n = learn.Ask ask.NoMemory
