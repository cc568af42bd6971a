-- What a call leaves of a spawner.
use Rattle.std.specs.Prelude.{◌≡◌, ◌⊎◌, ℕ, ◌+◌, ◌<◌, ◌≤◌, List, [], ◌++◌, length, slice_index_or, replicate, Option, option_map}
use Rattle.std.specs.List.{All}
use Rattle.lw_words.specs.Cause.{CountedFault}
use Rattle.lw_outside.specs.Links.{IsUntouched, LinkState, SpawnerState}
use Rattle.lw_outside.specs.declared.links.StartStop.{StartStop}
use Rattle.lw_outside.specs.declared.links.StartStop.TheVariants as start

-- observed commands of starts, and the same one this many times
abbrev pub with_starts : ℕ → List (List ℕ) → Option (List (List (List ℕ))) → Option (List (List (List ℕ)))
with_starts n words commands = option_map (λ cs. cs ++ replicate n words) commands

-- a call started these links by the words, one after the other, and retired them all, in the order of their starting
pub record StartsAndRetires (words : List (List ℕ)) (before now : SpawnerState) (links : List LinkState) : Type 0 where
  pub started : now.started ≡ before.started + length links
  pub retired : now.retired ≡ before.retired ++ links
  pub numbers : (i : ℕ) (d : LinkState) → i < length links →
      (slice_index_or links i d).number ≡ before.started + i
  pub counts : before.faults ≤ now.faults
  pub starts : ℕ
  pub commands : now.commands ≡ with_starts starts words before.commands
  -- all starts were answered with a link, but perhaps the last one, which failed
  pub each : (starts ≡ length links) ⊎ ((starts ≡ length links + 1) ×
      CountedFault before.faults now.faults)

-- this many links were started by the words, no start failed, and none was retired
pub record StartsLinks (words : List (List ℕ)) (before now : SpawnerState) (links : ℕ) : Type 0 where
  pub started : now.started ≡ before.started + links
  pub retired : now.retired ≡ before.retired
  pub faults : now.faults ≡ before.faults
  pub commands : now.commands ≡ with_starts links words before.commands

-- and then perhaps one that failed
pub record StartsSome (words : List (List ℕ)) (before now : SpawnerState) (links : ℕ) : Type 0 where
  pub started : now.started ≡ before.started + links
  pub retired : now.retired ≡ before.retired
  pub counts : before.faults ≤ now.faults
  pub starts : ℕ
  pub commands : now.commands ≡ with_starts starts words before.commands
  pub each : (starts ≡ links) ⊎ ((starts ≡ links + 1) × CountedFault before.faults now.faults)

-- no child was asked: none was started, since a start failed or memory ran out; or memory ran out once one was, which was
-- retired, and nothing went over its link
pub record HasNotStarted (words : List (List ℕ)) (before now : SpawnerState) (stop : StartStop) : Type 0 where
  pub links : List LinkState
  pub spawner : StartsAndRetires words before now links
  pub few : length links ≤ 1
  pub untouched : All (λ r. IsUntouched r.transcript) links
  pub failed : stop ≡ start.Failed → (links ≡ []) × CountedFault before.faults now.faults
