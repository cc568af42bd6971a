-- The lines of the protocol between a learner and a child.
use Rattle.std.specs.Prelude.{ℕ, List, ◌++◌, length, take, drop, codes, Option, Some, None, if◌then◌else◌}
use Rattle.std.specs.Str.{bytes_eq}

-- what a learner sends: go back to the initial state, or a letter by its name
abbrev pub reset_line : List ℕ
reset_line = codes "reset"

abbrev pub in_line : List ℕ → List ℕ
in_line name = codes "in " ++ name

-- what ends a child that is asked by hand
abbrev pub quit_line : List ℕ
quit_line = codes "quit"

-- what a child answers: it is in the initial state, or an output by its name
abbrev pub ready_line : List ℕ
ready_line = codes "ready"

abbrev pub out_line : List ℕ → List ℕ
out_line name = codes "out " ++ name

-- what stands behind these bytes, in a line that begins with them
abbrev pub bytes_behind : List ℕ → List ℕ → Option (List ℕ)
bytes_behind front line = if bytes_eq (take (length front) line) front then Some (drop (length front) line) else None
