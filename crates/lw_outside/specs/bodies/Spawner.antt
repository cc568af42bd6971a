-- What a spawner in memory keeps.
use Rattle.std.specs.Prelude.{◌≡◌, ◌≢◌, ℕ, ◌<◌, ◌≤◌, List, length, map}
use Rattle.std.specs.List.{All, AllPairs}
use Rattle.lw_outside.specs.Links.{Transcript}
use Rattle.lw_outside.specs.Memory.{HasHeard, MemoryLinkState, transcript_of}

-- this many links were started; these of them were retired, none twice; there is room for the transcripts of all of
-- them
pub record KeepsRetired (started capacity : ℕ) (retired : List MemoryLinkState) (transcripts : List Transcript) : Type 0 where
  pub told : transcripts ≡ map transcript_of retired
  pub heard : All HasHeard retired
  pub below : All (λ n. n < started) (map (λ l. l.number) retired)
  pub differ : AllPairs (λ a b. a ≢ b) (map (λ l. l.number) retired)
  pub few : length retired ≤ started
  pub room : started ≤ capacity
