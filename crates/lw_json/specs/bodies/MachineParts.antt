-- What the parts of the reader of machine files find.
use Rattle.std.specs.Prelude.{◌≡◌, ◌≢◌, ◌⊎◌, ℕ, List, map, string_bytes}
use Rattle.lw_mealy.specs.Fault.{RowsHaveFault}
use Rattle.lw_mealy.specs.Machine.{Rows}
use Rattle.lw_mealy.specs.declared.fault.MealyFault.{MealyFault}
use Rattle.lw_mealy.specs.declared.fault.MealyFault.TheVariants as mealy_fault
use Rattle.lw_json.specs.Formats.{NamedRow, WrittenMachine}
use Rattle.lw_json.specs.MachineFault.{UnknownFirst}
use Rattle.lw_json.specs.declared.fault.JsonFault.{JsonFault}
use Rattle.lw_json.specs.declared.fault.JsonFault.TheVariants.{UnknownOutput, NoMemory}
use Rattle.lw_json.specs.declared.machine_reader.Said.{Said}

abbrev pub written : List (List ℕ) → List (List ℕ) → List NamedRow → WrittenMachine
written inputs outputs states = record { inputs = inputs; outputs = outputs; states = states }

abbrev pub said_machine : Said → WrittenMachine
said_machine s = written (map (λ t. string_bytes t) s.inputs.items) (map (λ t. string_bytes t) s.outputs.items) (map (λ w. map (λ c. (c.0, c.1.now)) w.items) s.states.items)

-- a fault of the rows themselves
abbrev pub IsFaultOfRows : ℕ → ℕ → Rows → MealyFault → Type 0
IsFaultOfRows a b rows fault = RowsHaveFault a b rows fault × (fault ≢ mealy_fault.NoMemory)

-- out of memory, or the first cell whose output is unknown
abbrev pub UnknownAt : List (List ℕ) → List NamedRow → JsonFault → Type 0
UnknownAt outputs rows told = (told ≡ NoMemory) ⊎ ((q x : ℕ) × (told ≡ UnknownOutput q x) × UnknownFirst outputs rows q x)
