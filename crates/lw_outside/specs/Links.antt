-- Links to children: what went over them, and what a spawner records of those that it retires.
use Rattle.std.specs.Prelude.{◌≡◌, ◌≢◌, ℕ, ◌+◌, ◌<◌, ◌≤◌, List, [], ◌∷◌, ◌++◌, length, take, Option, Some, None, Result, Err, IfOk, OnOk, OnErr, option_map, ⊤}
use Rattle.std.specs.List.{All}
use Rattle.lw_words.specs.Cause.{CountedFault}
use Rattle.lw_outside.specs.declared.links.StartFailure.{StartFailure}
use Rattle.lw_outside.specs.declared.links.StartStop.{StartStop}
use Rattle.lw_outside.specs.declared.links.StartStop.TheVariants as unstarted

-- the bytes that were sent over a link, and those that were received
pub record Transcript : Type 0 where
  pub sent : List ℕ
  pub received : List ℕ

abbrev pub untouched : Transcript
untouched = record { sent = []; received = [] }

-- and more bytes that were sent, or received
abbrev pub sends : List ℕ → Transcript → Transcript
sends bytes t = record { sent = t.sent ++ bytes; received = t.received }

abbrev pub receives : List ℕ → Transcript → Transcript
receives bytes t = record { sent = t.sent; received = t.received ++ bytes }

-- not all of the bytes were sent
abbrev pub SendsPart : List ℕ → Option Transcript → Option Transcript → Type 0
SendsPart bytes None now = now ≡ None
SendsPart bytes (Some t) now = (n : ℕ) × (n < length bytes) × (now ≡ Some (sends (take n bytes) t))

-- nothing is observed to have been sent or received
abbrev pub IsUntouched : Option Transcript → Type 0
IsUntouched None = Unit {0}
IsUntouched (Some t) = t ≡ untouched

-- what contracts see of a link: how many links its spawner had started before it, how often it failed since its start, how often
-- it told the end of what is received, and what went over it, where that is observed
pub record LinkState : Type 0 where
  pub number : ℕ
  pub faults : ℕ
  pub ends : ℕ
  pub transcript : Option Transcript

-- observed commands of starts, and one more
abbrev pub with_start : List (List ℕ) → Option (List (List (List ℕ))) → Option (List (List (List ℕ)))
with_start words commands = option_map (λ cs. cs ++ words ∷ []) commands

-- what contracts see of what starts children: how often a start failed, how many links it started, those that it retired, in
-- their order, the words of each start that was answered other than out of memory, where they are observed, and why the
-- last of its starts that failed did so
pub record SpawnerState : Type 0 where
  pub faults : ℕ
  pub started : ℕ
  pub retired : List LinkState
  pub commands : Option (List (List (List ℕ)))
  pub cause : StartFailure

-- what sending these bytes over a link does
pub record LinkSend {E : Type 0} (bytes : List ℕ) (before now : LinkState) (result : Result ⊤ E) : Type 0 where
  pub sent : OnOk result (now.transcript ≡ option_map (sends bytes) before.transcript)
  pub part : OnErr result (SendsPart bytes before.transcript now.transcript)
  pub failed : OnErr result (CountedFault before.faults now.faults)
  pub quiet : OnOk result (now.faults ≡ before.faults)
  pub counts : before.faults ≤ now.faults
  pub same : (now.number ≡ before.number) × (now.ends ≡ before.ends)

-- what a take from a link does that leaves this in its buffer, by how many bytes came
pub record LinkTake {E : Type 0} (buffer : List ℕ) (before now : LinkState) (result : Result ℕ E) : Type 0 where
  pub bound : IfOk result (λ n. n ≤ length buffer)
  pub took : IfOk result (λ n. now.transcript ≡ option_map (receives (take n buffer)) before.transcript)
  pub «end» : IfOk result (λ n. n ≡ 0 → CountedFault before.ends now.ends)
  pub more : IfOk result (λ n. n ≢ 0 → now.ends ≡ before.ends)
  pub failed : OnErr result (CountedFault before.faults now.faults)
  pub kept : OnErr result ((now.transcript ≡ before.transcript) × (now.ends ≡ before.ends))
  pub quiet : OnOk result (now.faults ≡ before.faults)
  pub counts : (before.faults ≤ now.faults) × (before.ends ≤ now.ends)
  pub same : now.number ≡ before.number

-- what a start by these words does, by the link that it gives
pub record SpawnerStart {X : Type 0} (link : X → LinkState) (words : List (List ℕ)) (before now : SpawnerState) (result : Result X StartStop) : Type 0 where
  pub number : IfOk result (λ l. (link l).number ≡ before.started)
  pub unused : IfOk result (λ l. ((link l).faults ≡ 0) × ((link l).ends ≡ 0) × IsUntouched (link l).transcript)
  pub one_more : OnOk result (now.started ≡ before.started + 1)
  pub none : OnErr result (now.started ≡ before.started)
  pub ok : OnOk result (now.commands ≡ with_start words before.commands)
  pub failed : result ≡ Err unstarted.Failed → CountedFault before.faults now.faults
  pub failed_start : result ≡ Err unstarted.Failed → now.commands ≡ with_start words before.commands
  pub memory : result ≡ Err unstarted.NoMemory → now.commands ≡ before.commands
  pub quiet : OnOk result (now.faults ≡ before.faults)
  pub counts : before.faults ≤ now.faults
  pub retired : now.retired ≡ before.retired
  pub earlier : All (λ r. r.number < before.started) before.retired

-- what retiring a link does
pub record SpawnerRetire (link : LinkState) (before now : SpawnerState) : Type 0 where
  pub retired : now.retired ≡ before.retired ++ link ∷ []
  pub started : now.started ≡ before.started
  pub faults : now.faults ≡ before.faults
  pub commands : now.commands ≡ before.commands
  pub cause : now.cause ≡ before.cause
