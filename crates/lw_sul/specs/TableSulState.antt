-- A table system: its machine, the state that it is in and the names of its outputs.
use Rattle.std.specs.Prelude.{ℕ, List, length, true, false, Some, None}
use Rattle.lw_mealy.specs.Machine.{MealyMachine}
use Rattle.lw_sul.specs.System.{SulState}

pub record TableSulState : Type 0 where
  pub machine : MealyMachine
  pub state : ℕ
  pub names : List (List ℕ)

-- as every system tells it: it never stops, and its outputs have their names from the start
abbrev pub told_table : TableSulState → SulState
told_table s = record {
  inputs = s.machine.inputs;
  outputs = s.machine.outputs;
  origin = record { machine = Some s.machine.rows; link = None; letters = None };
  place = s.state;
  started = true;
  faults = 0;
  stop = None;
  cut = false;
  runs = None;
  names = s.names;
  most = length s.names;
}
