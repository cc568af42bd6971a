-- The first fault of a machine file.
use Rattle.std.specs.Prelude.{◌≡◌, ◌≢◌, ℕ, List, [], ◌∷◌, Bool, length, codes, Some, is_some, IsSome, slice_index_or}
use Rattle.std.specs.List.{All}
use Rattle.serde_json.specs.Data.{Data}
use Rattle.lw_words.specs.First.{FailsFirst}
use Rattle.lw_words.specs.Word.{IsNames, number_of}
use Rattle.lw_mealy.specs.Fault as mealy
use Rattle.lw_mealy.specs.Machine.{Rows}
use Rattle.lw_mealy.specs.declared.fault.MealyFault.TheVariants as mealy_fault
use Rattle.lw_json.specs.Fault.{IsFaultOf, HasFault}
use Rattle.lw_json.specs.Formats.{IsJson, is_object, texts_at, NamedRow, WrittenMachine, SaysMachine, AreInputs, rows_at, numbered_rows}
use Rattle.lw_json.specs.declared.fault.Field.{Field}
use Rattle.lw_json.specs.declared.fault.Field.TheVariants as field
use Rattle.lw_json.specs.declared.fault.JsonFault.{JsonFault}
use Rattle.lw_json.specs.declared.fault.JsonFault.TheVariants.{NotJson, Shape, Inputs, Outputs, UnknownOutput, Mealy, BadWord, Lengths, NoMemory}

-- the shapes that a machine file's members have, in the order of their faults
abbrev pub machine_tests : Data → List (Field × Bool)
machine_tests d =
    (field.Root, is_object d)
    ∷ (field.Inputs, is_some (texts_at (codes "inputs") d))
    ∷ (field.Outputs, is_some (texts_at (codes "outputs") d))
    ∷ (field.States, is_some (rows_at (codes "states") d))
    ∷ []

-- the output that the cell names is one of these
abbrev pub HasOutputIn : List (List ℕ) → ℕ × List ℕ → Type 0
HasOutputIn outputs c = IsSome (number_of c.1 outputs)

-- this cell is the first whose output is none of these: by state, then by letter
abbrev pub UnknownFirst : List (List ℕ) → List NamedRow → ℕ → ℕ → Type 0
UnknownFirst outputs rows q x = FailsFirst (All (HasOutputIn outputs)) rows q × FailsFirst (HasOutputIn outputs) (slice_index_or rows q []) x

-- what the members of a machine file say has this fault first
abbrev pub SaysMachineFault : WrittenMachine → JsonFault → Type 0
SaysMachineFault w NotJson = ⊥
SaysMachineFault w (Shape field) = ⊥
SaysMachineFault w (Inputs fault) = IsFaultOf 64 w.inputs fault
SaysMachineFault w (Outputs fault) = AreInputs w.inputs × IsFaultOf 4096 w.outputs fault
SaysMachineFault w (UnknownOutput q x) = AreInputs w.inputs × IsNames w.outputs × UnknownFirst w.outputs w.states q x
SaysMachineFault w (Mealy fault) =
    AreInputs w.inputs × IsNames w.outputs
    × ((rows : Rows) × (numbered_rows w.outputs w.states ≡ Some rows) × mealy.RowsHaveFault (length w.inputs) (length w.outputs) rows fault × (fault ≢ mealy_fault.NoMemory))
SaysMachineFault w (BadWord place) = ⊥
SaysMachineFault w (Lengths place) = ⊥
SaysMachineFault w NoMemory = Unit {0}

abbrev pub HasMachineFault : List ℕ → JsonFault → Type 0
HasMachineFault bytes fault = HasFault IsJson machine_tests SaysMachine SaysMachineFault bytes fault

-- bytes that are no machine file have this fault first
abbrev pub IsMachineFault : List ℕ → JsonFault → Type 0
IsMachineFault bytes fault = HasMachineFault bytes fault × (fault ≢ NoMemory)
