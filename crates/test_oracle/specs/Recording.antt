-- What contracts see of an oracle that is a machine.
use Rattle.std.specs.Prelude.{◌≡◌, ◌⊎◌, ℕ, ◌<◌, List, [], ◌∷◌, ◌++◌, Option, Some, None, Bool, false}
use Rattle.std.specs.List.{All}
use Rattle.lw_words.specs.declared.kept.KeptAnswer.{KeptAnswer}
use Rattle.lw_mealy.specs.Machine.{MealyMachine}
use Rattle.lw_mealy.specs.Origin.{Origin}
use Rattle.lw_cache.specs.Settling.{OracleState, KeepsAnswers}
use Rattle.lw_cache.specs.declared.stops.AskStop.{AskStop}

pub record RecordingState : Type 0 where
  pub machine : MealyMachine
  pub kept : List KeptAnswer
  pub stop : Option AskStop
  pub refused : Bool

-- one instance, which tells the machine
abbrev pub oracle_origins : MealyMachine → List Origin
oracle_origins t = record { machine = Some t.rows; link = None; letters = None } ∷ []

-- each recorded answer is the machine's, of that instance
pub record KeepsOf (t : MealyMachine) (kept : List KeptAnswer) : Type 0 where
  pub answers : KeepsAnswers t.inputs t.outputs (oracle_origins t) kept
  pub own : All (λ k. k.instance < 1) kept

abbrev pub state_of : RecordingState → OracleState
state_of t = record {
  inputs = t.machine.inputs;
  outputs = t.machine.outputs;
  names = None;
  kept = t.kept;
  origins = oracle_origins t.machine;
  stopped = None ∷ [];
  stop = t.stop;
  refused = t.refused;
  exact = false;
}

-- at most one answer more, to the word
pub record HasAskedOracle (t : MealyMachine) (w : List ℕ) (before now : List KeptAnswer) : Type 0 where
  pub gains : (now ≡ before) ⊎ ((k : KeptAnswer) × (now ≡ before ++ k ∷ []) × (k.word ≡ w))
  pub keeps : KeepsOf t now
