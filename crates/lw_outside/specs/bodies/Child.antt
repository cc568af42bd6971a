-- Children in memory, by what they have still to say.
use Rattle.std.specs.Prelude.{◌≡◌, ℕ, ◌+◌, ◌<◌, ◌≤◌, List, [], ◌∷◌, ◌++◌, length, drop, slice_index_or, Bool, true, false, Option, Some, None}
use Rattle.lw_json.specs.declared.files.Machine.{Machine}
use Rattle.lw_outside.specs.Lines.{lines_of, rest_of, split_bytes}
use Rattle.lw_outside.specs.Played.{ended_lines, played_from}
use Rattle.lw_outside.specs.Protocol.{out_line, ready_line}
use Rattle.lw_outside.specs.declared.player.Reply.{Reply}
use Rattle.lw_outside.specs.declared.player.Reply.TheVariants.{Ready, Out, Quit, Refused}
use Rattle.lw_outside.specs.Memory.{Speaker, Plays, Recites, said}
use Rattle.lw_outside.specs.declared.child.Child.{Child}
use Rattle.lw_outside.specs.declared.child.Child.TheVariants.{Serves, Reads}
use Rattle.lw_outside.specs.declared.served.Served.{Served}

-- the first line of the bytes, or that they have none; whatever follows them
abbrev pub IsFirstLine : Option (List ℕ) → List ℕ → Type 0
IsFirstLine None bytes = lines_of bytes ≡ []
IsFirstLine (Some line) bytes = (length line < length bytes) × ((more : List ℕ) → split_bytes (bytes ++ more) ≡ record { lines = line ∷ lines_of (drop (length line + 1) bytes ++ more); rest = rest_of (drop (length line + 1) bytes ++ more) })

-- what a child that plays a machine answers from a state on, after this many lines, unless it has ended
abbrev pub answers_from : Machine → Bool → ℕ → ℕ → List ℕ → List ℕ
answers_from m true q n bytes = []
answers_from m false q n bytes = ended_lines (played_from m q n (lines_of bytes) (rest_of bytes)).answers

-- what a child has still to say when these bytes are sent to it, behind those that it has read
abbrev pub yet : Served → List ℕ → List ℕ
yet s bytes = drop s.given s.answer ++ answers_from s.machine s.ended s.player s.lines bytes

-- a child is in a state of its machine, and has read some of what was sent
abbrev pub StandsIn : Served → List ℕ → Type 0
StandsIn s sent = (s.player < length s.machine.mealy.rows) × (s.read ≤ length sent)

-- a step on what was sent leaves all that is to be said, whatever is sent later
abbrev pub SaysOn : Served → Served → List ℕ → Type 0
SaysOn before now sent = (more : List ℕ) → yet before (drop before.read sent ++ more) ≡ yet now (drop now.read sent ++ more)

-- an output that a reply names is the machine's
abbrev pub CanSay : Machine → Reply → Type 0
CanSay m Ready = Unit {0}
CanSay m (Out y) = y < length m.outputs
CanSay m Quit = Unit {0}
CanSay m Refused = Unit {0}

-- the line that a reply is, or that it is none
abbrev pub IsAnswer : Machine → Reply → Option (List ℕ) → Type 0
IsAnswer m Ready line = line ≡ Some (ready_line ++ 10 ∷ [])
IsAnswer m (Out y) line = line ≡ Some (out_line (slice_index_or m.outputs y []) ++ 10 ∷ [])
IsAnswer m Quit line = line ≡ None
IsAnswer m Refused line = line ≡ None

-- a line at the start of some bytes was played, which are read up to the rest of them
pub record PlaysLine (line : List ℕ) (before now : Served) : Type 0 where
  pub machine : now.machine ≡ before.machine
  pub read : now.read ≡ before.read
  pub stands : now.player < length now.machine.mealy.rows
  pub says : (bytes rest : List ℕ) → split_bytes bytes ≡ record { lines = line ∷ lines_of rest; rest = rest_of rest } → yet before bytes ≡ yet now rest
  pub silent : drop now.given now.answer ≡ [] → (rest : List ℕ) → yet now rest ≡ []

-- what stands at the other end of a link, by what it is made of
abbrev pub speaker_of : Child → Speaker
speaker_of (Serves s) = Plays s.machine
speaker_of (Reads s) = Recites s.bytes.items

-- what it has still to say when these bytes were sent, and more of them
abbrev pub to_say : Child → List ℕ → List ℕ → List ℕ
to_say (Serves s) sent more = yet s (drop s.read sent ++ more)
to_say (Reads s) sent more = drop s.given s.bytes.items

abbrev pub Stands : Child → List ℕ → Type 0
Stands (Serves s) sent = StandsIn s sent
Stands (Reads s) sent = Unit {0}

-- what was received and what is still to be said is all that is said, whatever is sent later
pub record HasSaid (child : Child) (sent received : List ℕ) : Type 0 where
  pub stands : Stands child sent
  pub all : (more : List ℕ) → said (speaker_of child) (sent ++ more) ≡ received ++ to_say child sent more

-- a step that says these bytes
pub record Says (bytes sent : List ℕ) (before now : Child) : Type 0 where
  pub stands : Stands now sent
  pub speaker : speaker_of now ≡ speaker_of before
  pub says : (more : List ℕ) → to_say before sent more ≡ bytes ++ to_say now sent more

-- nothing was sent to it, and it has said nothing
abbrev pub IsFresh : Child → Type 0
IsFresh child = HasSaid child [] []
