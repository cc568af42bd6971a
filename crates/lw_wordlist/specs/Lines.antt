-- The lines of a text.
use Rattle.std.specs.Prelude.{ℕ, ◌==◌, List, [], length, map, if◌then◌else◌}
use Rattle.std.specs.Io.BufRead.{strip_last}
use Rattle.std.specs.List.{slice_split}

-- what stands between the line feeds of a text, the last of which may end it; each line without one carriage return at its end,
-- and an empty text has none
abbrev pub lines_in : List ℕ → List (List ℕ)
lines_in text = if length text == 0 then [] else map (strip_last 13) (slice_split (λ c. c == 10) (strip_last 10 text))
