-- What a child that plays a machine answers to the bytes of its input.
use Rattle.std.specs.Prelude.{◌≡◌, ℕ, ◌+◌, ◌-◌, ◌^◌, ◌<◌, ◌==◌, List, [], ◌∷◌, ◌++◌, codes, flat_map, length, slice_index_or, Option, Some, None, if◌then◌else◌}
use Rattle.std.specs.Str.{bytes_eq}
use Rattle.std.specs.Str.Lines.{strip_carriage_return}
use Rattle.lw_words.specs.Word.{number_of}
use Rattle.lw_mealy.specs.Machine.{next, output}
use Rattle.lw_json.specs.declared.files.Machine.{Machine}
use Rattle.lw_outside.specs.declared.player.Reply.{Reply}
use Rattle.lw_outside.specs.declared.player.Reply.TheVariants.{Ready, Out, Quit as QuitsAt, Refused}
use Rattle.lw_outside.specs.Lines.{lines_of, rest_of}
use Rattle.lw_outside.specs.Protocol.{bytes_behind, reset_line, quit_line, out_line, ready_line}

-- what a child does at a line: it answers with a line and goes to a state, or it ends
pub data Move : Type 0 where
  Answer : List ℕ → ℕ → Move
  Quit : Move
  Refuse : Move

-- at a letter, if it is one
abbrev pub letter_move : Machine → ℕ → Option ℕ → Move
letter_move m q None = Refuse
letter_move m q (Some x) = Answer (out_line (slice_index_or m.outputs (output m.mealy.rows q x) [])) (next m.mealy.rows q x)

-- the number of a letter, if a name is given and it is one's
abbrev pub letter_named : List (List ℕ) → Option (List ℕ) → Option ℕ
letter_named names None = None
letter_named names (Some name) = number_of name names

-- at the name of a letter, if there is one
abbrev pub name_move : Machine → ℕ → Option (List ℕ) → Move
name_move m q None = Refuse
name_move m q (Some name) = letter_move m q (number_of name m.inputs)

abbrev pub line_move : Machine → ℕ → List ℕ → Move
line_move m q line = if bytes_eq line reset_line then Answer ready_line 0 else (if bytes_eq line quit_line then Quit else name_move m q (bytes_behind (codes "in ") line))

-- at a line as it was received, without its line feed
abbrev pub move_of : Machine → ℕ → List ℕ → Move
move_of m q received = line_move m q (strip_carriage_return received)

-- a reply is the move that a child of this machine makes, after which it is in the state q
abbrev pub IsMove : Machine → Reply → Move → ℕ → Type 0
IsMove m Ready move q = move ≡ Answer ready_line q
IsMove m (Out y) move q = (y < length m.outputs) × (move ≡ Answer (out_line (slice_index_or m.outputs y [])) q)
IsMove m QuitsAt move q = move ≡ Quit
IsMove m Refused move q = move ≡ Refuse

-- after a reply the child has ended
abbrev pub EndsPlay : Reply → Type 0
EndsPlay Ready = ⊥
EndsPlay (Out y) = ⊥
EndsPlay QuitsAt = Unit {0}
EndsPlay Refused = Unit {0}

-- how a child ends: by a line that asks for it, by the end of its input, by the limit of lines, or by the line of this number,
-- counted from 1, which it doesn't know or which has no end
pub data PlayEnd : Type 0 where
  AtQuit : PlayEnd
  AtEnd : PlayEnd
  AtLimit : PlayEnd
  AtBadLine : ℕ → PlayEnd

-- the lines that it answers, how many lines it reads, and how it ends
pub record Play : Type 0 where
  pub answers : List (List ℕ)
  pub lines : ℕ
  pub end : PlayEnd

abbrev pub play_ended_at : ℕ → PlayEnd → Play
play_ended_at n end = record { answers = []; lines = n; end = end }

-- behind the last line the input ends, or a line has no end
abbrev pub rest_end : ℕ → List ℕ → Play
rest_end n [] = play_ended_at n AtEnd
rest_end n (b ∷ bs) = play_ended_at n (AtBadLine (n + 1))

abbrev pub play_of_move : ℕ → Move → (ℕ → Play) → Play
play_of_move n (Answer line q) on = record { answers = line ∷ (on q).answers; lines = (on q).lines; end = (on q).end }
play_of_move n Quit on = play_ended_at (n + 1) AtQuit
play_of_move n Refuse on = play_ended_at n (AtBadLine (n + 1))

-- the most lines that a child reads
abbrev pub greatest_lines : ℕ
greatest_lines = 2 ^ 32 - 1

-- from a state, after this many lines, on further lines and what stands behind the last of them
abbrev pub played_from : Machine → ℕ → ℕ → List (List ℕ) → List ℕ → Play
played_from m q n [] rest = if n == greatest_lines then play_ended_at n AtLimit else rest_end n rest
played_from m q n (l ∷ ls) rest = if n == greatest_lines then play_ended_at n AtLimit else play_of_move n (move_of m q l) (λ r. played_from m r (n + 1) ls rest)

-- what a child that plays the machine answers to these bytes, from its initial state on, and how it ends
abbrev pub played : Machine → List ℕ → Play
played m bytes = played_from m 0 0 (lines_of bytes) (rest_of bytes)

-- lines as bytes
abbrev pub ended_lines : List (List ℕ) → List ℕ
ended_lines lines = flat_map (λ l. l ++ 10 ∷ []) lines
