-- The grammar of machine files and of answers files, over serde_json's reading of JSON (RFC 8259).
use Rattle.std.specs.Prelude.{List, [], ◌∷◌, Option, Some, option_map, option_and_then, ◌≡◌, ℕ, Bool, true, false, not, is_some, IsUtf8, ◌==◌, codes, ◌≤◌, length, None, nat_lt, if◌then◌else◌, ◌+◌, ◌||◌}
use Rattle.serde_json.specs.Data.{Data, Items, no_items, item}
use Rattle.serde_json.specs.Find.{get, as_array, as_object, as_str, as_number, as_u64}
use Rattle.serde_json.specs.Read.{read}
use Rattle.std.specs.List.{slice_split, All, filter, filter_map, flat_map, last_or}
use Rattle.std.specs.Str.{bytes_eq, is_utf8}
use Rattle.lw_words.specs.Word.{number_of, IsNames, IsWholeKept}
use Rattle.lw_mealy.specs.Machine.{Rows, IsWithinLimits}
use Rattle.lw_json.specs.declared.files.Machine.{Machine}
use Rattle.lw_words.specs.declared.kept.KeptAnswer.{KeptAnswer}
use Rattle.lw_json.specs.Journal.{is_journal}
use Rattle.lw_json.specs.declared.files.Answers.{Answers}

-- A function that may fail, at each element of a list.

-- what it gives at each, or None where it fails at one
abbrev pub each_of : {X Y : Type 0} → (X → Option Y) → List X → Option (List Y)
each_of f [] = Some []
each_of f (x ∷ xs) = option_and_then (λ y. option_map (λ ys. y ∷ ys) (each_of f xs)) (f x)

-- Bytes as a value of JSON (RFC 8259), and the members of an object by their shapes.

-- the bytes are UTF-8, and serde_json reads them as this value
abbrev pub IsJson : List ℕ → Data → Type 0
IsJson bytes d = IsUtf8 bytes × (read bytes ≡ Some d)

abbrev pub is_object : Data → Bool
is_object d = is_some (as_object d)

-- the values of a list
abbrev pub values : Items → List Data
values no_items = []
values (item d ds) = d ∷ values ds

abbrev pub array_of : Data → Option (List Data)
array_of d = option_map values (as_array d)

-- a member that is a list
abbrev pub list_at : List ℕ → Data → Option (List Data)
list_at key d = option_and_then array_of (get key d)

-- a member that is a list of texts
abbrev pub texts_at : List ℕ → Data → Option (List (List ℕ))
texts_at key d = option_and_then (each_of as_str) (list_at key d)

-- Words as texts: the names of their letters, joined by one blank each.

-- the names of a text: none of no text, else what stands between the blanks
abbrev pub names_of_text : List ℕ → List (List ℕ)
names_of_text [] = []
names_of_text (b ∷ text) = slice_split (λ c. c == 32) (b ∷ text)

-- the word of a text: the numbers of its names, where each has one
abbrev pub word_of : List (List ℕ) → List ℕ → Option (List ℕ)
word_of names text = each_of (λ name. number_of name names) (names_of_text text)

-- Machine files.

-- a row as it is written: for each input the target and the name of the output
abbrev pub NamedRow : Type 0
NamedRow = List (ℕ × List ℕ)

-- a whole number below 65,536
abbrev pub target_of : Data → Option ℕ
target_of d = option_and_then (λ n. if nat_lt n 65536 then Some n else None) (option_and_then as_u64 (as_number d))

-- a cell is a list of two: the target and the name of the output
abbrev pub cell_of_two : List Data → Option (ℕ × List ℕ)
cell_of_two [] = None
cell_of_two (d ∷ []) = None
cell_of_two (d ∷ e ∷ []) = option_and_then (λ t. option_map (λ y. (t, y)) (as_str e)) (target_of d)
cell_of_two (d ∷ e ∷ f ∷ ds) = None

abbrev pub cell_of : Data → Option (ℕ × List ℕ)
cell_of d = option_and_then cell_of_two (array_of d)

abbrev pub row_of : Data → Option NamedRow
row_of d = option_and_then (each_of cell_of) (array_of d)

-- a member that is a list of rows
abbrev pub rows_at : List ℕ → Data → Option (List NamedRow)
rows_at key d = option_and_then (each_of row_of) (list_at key d)

-- what a machine file says, before its names are looked at
pub record WrittenMachine : Type 0 where
  pub inputs : List (List ℕ)
  pub outputs : List (List ℕ)
  pub states : List NamedRow

-- the members have their shapes, and say this; other members are ignored
pub record SaysMachine (d : Data) (w : WrittenMachine) : Type 0 where
  pub inputs : texts_at (codes "inputs") d ≡ Some w.inputs
  pub outputs : texts_at (codes "outputs") d ≡ Some w.outputs
  pub states : rows_at (codes "states") d ≡ Some w.states

-- a cell, and rows, with the number of each output in place of its name, where each has one
abbrev pub numbered_cell : List (List ℕ) → ℕ × List ℕ → Option (ℕ × ℕ)
numbered_cell outputs c = option_map (λ y. (c.0, y)) (number_of c.1 outputs)

abbrev pub numbered_rows : List (List ℕ) → List NamedRow → Option Rows
numbered_rows outputs rows = each_of (each_of (numbered_cell outputs)) rows

-- 1 to 64 names
abbrev pub AreInputs : List (List ℕ) → Type 0
AreInputs names = IsNames names × (length names ≤ 64)

-- 1 to 64 names of inputs, 1 to 4,096 of outputs, and a machine with these numbers
pub record IsNamed (m : Machine) : Type 0 where
  pub inputs : AreInputs m.inputs
  pub outputs : IsNames m.outputs
  pub complete : IsWithinLimits m.mealy
  pub letters : m.mealy.inputs ≡ length m.inputs
  pub answers : m.mealy.outputs ≡ length m.outputs

-- what is said is the machine, its names and its rows
pub record SpellsMachine (w : WrittenMachine) (m : Machine) : Type 0 where
  pub inputs : w.inputs ≡ m.inputs
  pub outputs : w.outputs ≡ m.outputs
  pub states : numbered_rows m.outputs w.states ≡ Some m.mealy.rows
  pub named : IsNamed m

-- the bytes are a machine file, and this is the machine
abbrev pub IsMachineFile : List ℕ → Machine → Type 0
IsMachineFile bytes m = (d : Data) × IsJson bytes d × ((w : WrittenMachine) × SaysMachine d w × SpellsMachine w m)

-- the names and the machine are the same
pub record SameMachine (m n : Machine) : Type 0 where
  pub inputs : m.inputs ≡ n.inputs
  pub outputs : m.outputs ≡ n.outputs
  pub mealy : m.mealy ≡ n.mealy

-- Answers files, in formats 1 and 2.

-- an answer as it is written
pub record WrittenAnswer : Type 0 where
  pub instance : ℕ
  pub run : ℕ
  pub word : List ℕ
  pub outs : List ℕ

-- a whole number, and one up to 16, that of an instance
abbrev pub whole_of : Data → Option ℕ
whole_of d = option_and_then as_u64 (as_number d)

abbrev pub instance_of : Data → Option ℕ
instance_of d = option_and_then (λ n. if nat_lt n 17 then Some n else None) (whole_of d)

-- format 1: the two texts of a word and of its outputs
abbrev pub texts_of_two : List Data → Option (List ℕ × List ℕ)
texts_of_two [] = None
texts_of_two (d ∷ []) = None
texts_of_two (d ∷ e ∷ []) = option_and_then (λ word. option_map (λ outs. (word, outs)) (as_str e)) (as_str d)
texts_of_two (d ∷ e ∷ f ∷ ds) = None

abbrev pub pair_of_texts : Data → Option (List ℕ × List ℕ)
pair_of_texts d = option_and_then texts_of_two (array_of d)

-- these answers have instance 0 and their places as runs, from this place on
abbrev pub pairs_from : ℕ → List Data → Option (List WrittenAnswer)
pairs_from place [] = Some []
pairs_from place (d ∷ ds) =
    option_and_then (λ p. option_map (λ rest. record { instance = 0; run = place; word = p.0; outs = p.1 } ∷ rest) (pairs_from (place + 1) ds)) (pair_of_texts d)

-- format 2: the instance, the run and the two texts
abbrev pub answer_of_four : List Data → Option WrittenAnswer
answer_of_four [] = None
answer_of_four (d ∷ []) = None
answer_of_four (d ∷ e ∷ []) = None
answer_of_four (d ∷ e ∷ f ∷ []) = None
answer_of_four (d ∷ e ∷ f ∷ g ∷ []) =
    option_and_then
    (λ i. option_and_then
    (λ r. option_and_then (λ word. option_map (λ outs. record { instance = i; run = r; word = word; outs = outs }) (as_str g)) (as_str f))
    (whole_of e))
    (instance_of d)
answer_of_four (d ∷ e ∷ f ∷ g ∷ h ∷ ds) = None

abbrev pub written_answer_of : Data → Option WrittenAnswer
written_answer_of d = option_and_then answer_of_four (array_of d)

-- the format is the whole number 1 or 2
abbrev pub format_at : Data → Option ℕ
format_at d = option_and_then (λ n. if n == 1 || n == 2 then Some n else None) (option_and_then whole_of (get (codes "format") d))

abbrev pub answers_in : ℕ → List Data → Option (List WrittenAnswer)
answers_in format ds = if format == 1 then pairs_from 0 ds else each_of written_answer_of ds

abbrev pub answers_at : Data → Option (List WrittenAnswer)
answers_at d = option_and_then (λ format. option_and_then (answers_in format) (list_at (codes "answers") d)) (format_at d)

-- what an answers file says, before its names are looked at
pub record WrittenAnswers : Type 0 where
  pub inputs : List (List ℕ)
  pub outputs : List (List ℕ)
  pub answers : List WrittenAnswer

-- the members have their shapes, and say this; other members are ignored
pub record SaysMembers (d : Data) (w : WrittenAnswers) : Type 0 where
  pub inputs : texts_at (codes "inputs") d ≡ Some w.inputs
  pub outputs : texts_at (codes "outputs") d ≡ Some w.outputs
  pub answers : answers_at d ≡ Some w.answers

-- Journals, which are answers files in format 3: of the lines that are JSON, the objects are heads and the others runs.

-- the value that bytes are in JSON, where they are
unfoldable pub json_in : List ℕ → Option Data
json_in bytes = if is_utf8 bytes then read bytes else None

-- the values of the lines; a line that is no JSON is passed over
abbrev pub line_values : List ℕ → List Data
line_values bytes = filter_map json_in (slice_split (λ b. b == 10) bytes)

-- the inputs of the last head
abbrev pub last_inputs : List Data → Option (List (List ℕ))
last_inputs ds = option_and_then (texts_at (codes "inputs")) (last_or None (filter is_object ds))

-- the answers of the runs, which have the shape of format 2
abbrev pub run_answers : List Data → Option (List WrittenAnswer)
run_answers ds = each_of written_answer_of (filter (λ d. not (is_object d)) ds)

-- each text once, where it first stands
abbrev pub without_repeats : List (List ℕ) → List (List ℕ)
without_repeats [] = []
without_repeats (x ∷ xs) = x ∷ filter (λ y. not (bytes_eq y x)) (without_repeats xs)

-- the names in the outputs of answers, in the order in which they first appear
abbrev pub journal_outputs : List WrittenAnswer → List (List ℕ)
journal_outputs answers = without_repeats (flat_map (λ a. names_of_text a.outs) answers)

-- the last head and the runs have their shapes, and say this; other heads are ignored
pub record SaysLines (ds : List Data) (w : WrittenAnswers) : Type 0 where
  pub inputs : last_inputs ds ≡ Some w.inputs
  pub outputs : journal_outputs w.answers ≡ w.outputs
  pub answers : run_answers ds ≡ Some w.answers

-- Answers files, in all formats.

-- what is read: one value, or the values of a journal's lines
pub data Document : Type 0 where
  whole : Data → Document
  lines : List Data → Document

abbrev pub IsDocument : List ℕ → Document → Type 0
IsDocument bytes (whole d) = (is_journal bytes ≡ false) × IsJson bytes d
IsDocument bytes (lines ds) = (is_journal bytes ≡ true) × (line_values bytes ≡ ds)

abbrev pub SaysAnswers : Document → WrittenAnswers → Type 0
SaysAnswers (whole d) w = SaysMembers d w
SaysAnswers (lines ds) w = SaysLines ds w

-- an answer with the words of its texts, where both are words
abbrev pub numbered_answer : List (List ℕ) → List (List ℕ) → WrittenAnswer → Option KeptAnswer
numbered_answer inputs outputs a =
    option_and_then (λ word. option_map (λ outs. record { instance = a.instance; run = a.run; word = word; outs = outs }) (word_of outputs a.outs)) (word_of inputs a.word)

-- what is said is the answers
pub record SpellsAnswers (w : WrittenAnswers) (a : Answers) : Type 0 where
  pub inputs : w.inputs ≡ a.inputs
  pub outputs : w.outputs ≡ a.outputs
  pub answers : each_of (numbered_answer a.inputs a.outputs) w.answers ≡ Some a.kept.answers
  pub even : All IsWholeKept a.kept.answers
  pub inputs_named : AreInputs a.inputs
  pub outputs_named : IsNames a.outputs

-- the bytes are an answers file, and these are the answers
abbrev pub IsAnswersFile : List ℕ → Answers → Type 0
IsAnswersFile bytes a = (d : Document) × IsDocument bytes d × ((w : WrittenAnswers) × SaysAnswers d w × SpellsAnswers w a)

-- the names and the recorded answers are the same, in the same order
pub record SameAnswers (a b : Answers) : Type 0 where
  pub inputs : a.inputs ≡ b.inputs
  pub outputs : a.outputs ≡ b.outputs
  pub answers : a.kept.answers ≡ b.kept.answers
