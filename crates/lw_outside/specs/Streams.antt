-- Streams: the bytes that a source has left, and those that a sink took.
use Rattle.std.specs.Prelude.{◌≡◌, ◌≢◌, ℕ, ◌<◌, ◌≤◌, List, [], ◌++◌, length, take, Option, Some, None, Result, IfOk, OnOk, OnErr, option_map}
use Rattle.lw_words.specs.Cause.{CountedFault}

-- these bytes were the first of those that were observed to be left
abbrev pub Gave : List ℕ → Option (List ℕ) → Option (List ℕ) → Type 0
Gave bytes None after = after ≡ None
Gave bytes (Some left) after = (rest : List ℕ) × (after ≡ Some rest) × (left ≡ bytes ++ rest)

-- observed bytes, and the first n of these
abbrev pub taken_more : ℕ → List ℕ → Option (List ℕ) → Option (List ℕ)
taken_more n bytes taken = option_map (λ t. t ++ take n bytes) taken

-- nothing is observed to be left
abbrev pub IsSpent : Option (List ℕ) → Type 0
IsSpent None = Unit {0}
IsSpent (Some left) = left ≡ []

-- observed bytes are the earlier ones and a prefix of a text
abbrev pub TakesSome : List ℕ → Option (List ℕ) → Option (List ℕ) → Type 0
TakesSome text before now = (n : ℕ) × (now ≡ option_map (λ t. t ++ take n text) before)

-- and not all of them
abbrev pub TakesPart : List ℕ → Option (List ℕ) → Option (List ℕ) → Type 0
TakesPart text before now = (n : ℕ) × (n < length text) × (now ≡ option_map (λ t. t ++ take n text) before)

abbrev pub TakesAll : List ℕ → Option (List ℕ) → Option (List ℕ) → Type 0
TakesAll text before now = now ≡ option_map (λ t. t ++ text) before

-- what contracts see of a stream that gives bytes: those that are left, where that is observed, how often it failed,
-- and how often it told its end
pub record SourceState : Type 0 where
  pub left : Option (List ℕ)
  pub faults : ℕ
  pub ends : ℕ

-- what contracts see of a stream that takes bytes: those that it took, where that is observed, and how often it failed
pub record SinkState : Type 0 where
  pub taken : Option (List ℕ)
  pub faults : ℕ

-- what a read of a stream does that leaves this in its buffer, by how many bytes it gave
pub record SourceRead {E : Type 0} (buffer : List ℕ) (before now : SourceState) (result : Result ℕ E) : Type 0 where
  pub bound : IfOk result (λ n. n ≤ length buffer)
  pub gave : IfOk result (λ n. Gave (take n buffer) before.left now.left)
  pub «end» : IfOk result (λ n. n ≡ 0 → IsSpent before.left × CountedFault before.ends now.ends)
  pub more : IfOk result (λ n. n ≢ 0 → now.ends ≡ before.ends)
  pub failed : OnErr result (CountedFault before.faults now.faults)
  pub kept : OnErr result ((now.left ≡ before.left) × (now.ends ≡ before.ends))
  pub quiet : OnOk result (now.faults ≡ before.faults)
  pub counts : (before.faults ≤ now.faults) × (before.ends ≤ now.ends)

-- what putting these bytes to a stream does, by how many of them it took
pub record SinkPut {E : Type 0} (bytes : List ℕ) (before now : SinkState) (result : Result ℕ E) : Type 0 where
  pub some : IfOk result (λ n. (1 ≤ n) × (n ≤ length bytes))
  pub took : IfOk result (λ n. now.taken ≡ taken_more n bytes before.taken)
  pub left : OnErr result (now.taken ≡ before.taken)
  pub failed : OnErr result (CountedFault before.faults now.faults)
  pub quiet : OnOk result (now.faults ≡ before.faults)
  pub counts : before.faults ≤ now.faults
