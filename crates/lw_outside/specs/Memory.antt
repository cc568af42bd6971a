-- Files, streams, links and spawners in memory, as contracts see them: what they hold, the plan of the calls that are to fail, and how many
-- calls were made. With an empty plan no call fails but for what the object holds.
use Rattle.std.specs.Prelude.{◌≡◌, ℕ, ◌+◌, ◌-◌, ◌^◌, List, [], ◌∷◌, ◌++◌, length, drop, map, min, nat_eq, nat_lt, slice_get, slice_index_or, option_map, Bool, Option, Some, None, Result, Ok, Err, if◌then◌else◌}
use Rattle.std.specs.List.{list_any}
use Rattle.lw_json.specs.declared.files.Machine.{Machine}
use Rattle.lw_outside.specs.Links.{LinkState, SpawnerState, Transcript}
use Rattle.lw_outside.specs.Played.{ended_lines, played}
use Rattle.lw_outside.specs.Files.{File, Call, FilesState, file_at, longest_of}
use Rattle.lw_outside.specs.Streams.{SinkState, SourceState}
use Rattle.lw_outside.specs.declared.links.StartFailure.TheVariants.{Unknown}
use Rattle.lw_outside.specs.declared.files.FilesStop.{FilesStop}
use Rattle.lw_outside.specs.declared.files.FilesStop.TheVariants.{Failed, TooLong, NoMemory}

-- whether the plan has the number of the next call
abbrev pub is_planned : List ℕ → ℕ → Bool
is_planned plan made = list_any (λ number. nat_eq number made) plan

-- a count with one more, which stands still at the last value of a u64
abbrev pub one_more : ℕ → ℕ
one_more count = min (count + 1) (2 ^ 64 - 1)

-- what files hold, the calls on them, the reads that gave bytes, the plan of the reads and writes that fail, how many were
-- made, the plan of the probes that fail, how many were made, and how often a call failed
pub record MemoryFilesState : Type 0 where
  pub holds : List File
  pub calls : List Call
  pub reads : List File
  pub plan : List ℕ
  pub made : ℕ
  pub probe_plan : List ℕ
  pub probed : ℕ
  pub faults : ℕ

-- these files, before any call; no probe is to fail
abbrev pub files_with : List File → List ℕ → MemoryFilesState
files_with holds plan = record { holds = holds; calls = []; reads = []; plan = plan; made = 0; probe_plan = []; probed = 0; faults = 0 }

-- how a read ends where there is memory
pub data ReadEnd : Type 0 where
  Fails : ReadEnd
  IsLong : ReadEnd
  Gives : List ℕ → ReadEnd

abbrev pub found_end : Option (List ℕ) → ReadEnd
found_end None = Fails
found_end (Some bytes) = if nat_lt (longest_of bytes) (length bytes) then IsLong else Gives bytes

-- a read fails where that is planned or there is no such file
abbrev pub read_end : MemoryFilesState → List ℕ → ReadEnd
read_end s name = if is_planned s.plan s.made then Fails else found_end (file_at name s.holds)

-- a read was answered as it ends, or there was no memory
abbrev pub ReadEndsAs : {X : Type 0} → (X → List ℕ) → ReadEnd → Result X FilesStop → Type 0
ReadEndsAs items end (Ok bytes) = end ≡ Gives (items bytes)
ReadEndsAs items end (Err Failed) = end ≡ Fails
ReadEndsAs items end (Err TooLong) = end ≡ IsLong
ReadEndsAs items end (Err NoMemory) = Unit {0}

-- a read or a write was made and noted; what the files hold is another matter
pub record NotesCall (before : MemoryFilesState) (call : Call) (after : MemoryFilesState) : Type 0 where
  pub calls : after.calls ≡ before.calls ++ call ∷ []
  pub plan : after.plan ≡ before.plan
  pub made : after.made ≡ one_more before.made
  pub probe_plan : after.probe_plan ≡ before.probe_plan
  pub probed : after.probed ≡ before.probed
  pub faults : after.faults ≡ (if call.failed then one_more before.faults else before.faults)

-- a probe was made and noted, and nothing else changed
abbrev pub NotesProbe : MemoryFilesState → Call → MemoryFilesState → Type 0
NotesProbe before call after =
    after ≡ record before { calls = before.calls ++ call ∷ []; probed = one_more before.probed; faults = (if call.failed then one_more before.faults else before.faults) }

-- the bytes that a sink took, how many more it has room for, how many it takes at a time, and how often it failed
pub record MemorySinkState : Type 0 where
  pub taken : List ℕ
  pub room : ℕ
  pub piece : ℕ
  pub plan : List ℕ
  pub made : ℕ
  pub faults : ℕ

-- the bytes that a source has left, how many it gives at a time, how often it failed and how often it told its end
pub record MemorySourceState : Type 0 where
  pub left : List ℕ
  pub piece : ℕ
  pub plan : List ℕ
  pub made : ℕ
  pub faults : ℕ
  pub ends : ℕ

-- what stands at the other end of a link in memory: a child that plays a machine, or one that says these bytes whatever it is sent
pub data Speaker : Type 0 where
  Plays : Machine → Speaker
  Recites : List ℕ → Speaker

-- all that it says by the time these bytes were sent to it
abbrev pub said : Speaker → List ℕ → List ℕ
said (Plays m) sent = ended_lines (played m sent).answers
said (Recites bytes) sent = bytes

-- a link's number, what stands at its other end, what went over it, for how many more bytes it has room, and how often it failed
-- and told its end
pub record MemoryLinkState : Type 0 where
  pub number : ℕ
  pub speaker : Speaker
  pub sent : List ℕ
  pub received : List ℕ
  pub room : ℕ
  pub plan : List ℕ
  pub made : ℕ
  pub faults : ℕ
  pub ends : ℕ

abbrev pub transcript_of : MemoryLinkState → Transcript
transcript_of l = record { sent = l.sent; received = l.received }

-- what was said and is not yet received
abbrev pub waiting : MemoryLinkState → List ℕ
waiting l = drop (length l.received) (said l.speaker l.sent)

-- what was received is a prefix of what was said
abbrev pub HasHeard : MemoryLinkState → Type 0
HasHeard l = said l.speaker l.sent ≡ l.received ++ waiting l

-- a link that was just started
abbrev pub new_link : ℕ → Speaker → ℕ → List ℕ → MemoryLinkState
new_link number speaker room plan = record { number = number; speaker = speaker; sent = []; received = []; room = room; plan = plan; made = 0; faults = 0; ends = 0 }

-- a call on a link was made and failed, or did not
abbrev pub NotesFault : MemoryLinkState → MemoryLinkState → Type 0
NotesFault before after = after ≡ record before { made = one_more before.made; faults = one_more before.faults }

-- what stands at the other ends of a spawner's links: children that all play the machine, or the i-th link's says the i-th bytes
pub data Speakers : Type 0 where
  AllPlay : Machine → Speakers
  EachRecites : List (List ℕ) → Speakers

abbrev pub speaker_at : Speakers → ℕ → Option Speaker
speaker_at (AllPlay m) i = Some (Plays m)
speaker_at (EachRecites scripts) i = option_map (λ bytes. Recites bytes) (slice_get scripts i)

-- what stands at the other ends of the links, the room of each and the plan of the i-th, the plan of the starts with how many
-- were asked for, the links that were started, the words of the starts, the links that were retired, and how often it failed
pub record MemorySpawnerState : Type 0 where
  pub speakers : Speakers
  pub room : ℕ
  pub links : List (List ℕ)
  pub plan : List ℕ
  pub made : ℕ
  pub started : ℕ
  pub commands : List (List (List ℕ))
  pub retired : List MemoryLinkState
  pub faults : ℕ

-- a spawner that was asked for nothing
abbrev pub new_spawner : Speakers → ℕ → List ℕ → List (List ℕ) → MemorySpawnerState
new_spawner speakers room plan links = record { speakers = speakers; room = room; links = links; plan = plan; made = 0; started = 0; commands = []; retired = []; faults = 0 }

-- the link that is started next, if none fails: a start fails where that is planned or nothing stands at the other end
abbrev pub next_link : MemorySpawnerState → Option MemoryLinkState
next_link s = if is_planned s.plan s.made then None else option_map (λ speaker. new_link s.started speaker s.room (slice_index_or s.links s.started [])) (speaker_at s.speakers s.started)

-- each as every form of it tells it
abbrev pub told_files : MemoryFilesState → FilesState
told_files f = record { holds = Some f.holds; calls = Some f.calls; reads = f.reads; faults = f.faults }

abbrev pub told_sink : MemorySinkState → SinkState
told_sink s = record { taken = Some s.taken; faults = s.faults }

abbrev pub told_source : MemorySourceState → SourceState
told_source s = record { left = Some s.left; faults = s.faults; ends = s.ends }

abbrev pub told_link : MemoryLinkState → LinkState
told_link l = record { number = l.number; faults = l.faults; ends = l.ends; transcript = Some (transcript_of l) }

-- its starts fail by their plan, for no cause of a system's
abbrev pub told_spawner : MemorySpawnerState → SpawnerState
told_spawner s = record { faults = s.faults; started = s.started; retired = map told_link s.retired; commands = Some s.commands; cause = Unknown }
