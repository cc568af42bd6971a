-- What adapters record of the bytes that went over them, for contracts alone.
use Rattle.std.specs.Prelude.{ℕ, List, map, Option, None, Some, option_map}
use Rattle.lw_outside.specs.Links.{LinkState}
use Rattle.lw_outside.specs.Logs.{LogFileState}
use Rattle.lw_outside.specs.Streams.{SinkState, SourceState}

-- the bytes of a record, which has them one by one
abbrev pub bytes_of : {X : Type 0} → List (ℕ × X) → List ℕ
bytes_of recorded = map (λ r. r.0) recorded

-- what a stream has left now, if that was known at its start
abbrev pub left_of : Option (List ℕ) → Option (List ℕ) → Option (List ℕ)
left_of None now = None
left_of (Some start) now = now

-- what is observed of a stream that is read: what was known to be left at its start, what is now, and its counts
abbrev pub told_input : (start now : Option (List ℕ)) (faults ends : ℕ) → SourceState
told_input start now faults ends = record { left = left_of start now; faults = faults; ends = ends }

-- what is observed of a stream that is written, by what it recorded
abbrev pub told_output : {X : Type 0} (taken : List (ℕ × X)) (faults : ℕ) → SinkState
told_output taken faults = record { taken = Some (bytes_of taken); faults = faults }

-- what is observed of a log, by what it recorded of its name and its lines, where a file was made for it
abbrev pub told_log_file : {F X : Type 0} (file : Option F) (called text : List (ℕ × X)) (faults : ℕ) → LogFileState
told_log_file file called text faults =
    record { name = option_map (λ _. bytes_of called) file; text = bytes_of text; faults = faults }

-- what is observed of a link over two pipes, by what it recorded
abbrev pub told_pipes : {X : Type 0} (number faults ends : ℕ) (sent received : List (ℕ × X)) → LinkState
told_pipes number faults ends sent received =
    record { number = number; faults = faults; ends = ends; transcript = Some (record { sent = bytes_of sent; received = bytes_of received }) }
