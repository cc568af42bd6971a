-- The result of the slow learner: that of the learner of the definition.
use Rattle.std.specs.Prelude.{◌≡◌, ℕ, List}
use Rattle.lw_mealy.specs.Machine.{MealyMachine}
use Rattle.lw_plain.specs.Rounds.{Task, LearnsPlainly, IsPlainCrowd, IsPlainTooLarge}
use Rattle.lw_plain_run.specs.declared.run.PlainRun.{PlainRun}
use Rattle.lw_plain_run.specs.declared.run.PlainRun.TheVariants as run

-- what is learned, and how
abbrev pub task_of : MealyMachine → ℕ → ℕ → Task
task_of m extra most = record { letters = m.inputs; machine = m.rows; extra = extra; most = most }

-- the model has the letters and outputs of a machine
abbrev pub IsAlike : MealyMachine → MealyMachine → Type 0
IsAlike m model = (model.inputs ≡ m.inputs) × (model.outputs ≡ m.outputs)

-- what is learned of a machine with this many extra states and at most this many states, where words were given
abbrev pub IsPlainRun : MealyMachine → ℕ → ℕ → List (List ℕ) → PlainRun → Type 0
IsPlainRun m extra most given (run.Learned model refinements batches) = IsAlike m model × LearnsPlainly (task_of m extra most) given model.rows refinements batches
IsPlainRun m extra most given (run.Crowd words batches) = IsPlainCrowd (task_of m extra most) given words batches
IsPlainRun m extra most given (run.TooLarge model number batches) = IsAlike m model × IsPlainTooLarge (task_of m extra most) given model.rows number batches

-- two answers about one machine are one
abbrev pub OnePlainRun : Type 0
OnePlainRun = (m : MealyMachine) (extra most : ℕ) (given : List (List ℕ)) (r s : PlainRun) → IsPlainRun m extra most given r → IsPlainRun m extra most given s → r ≡ s
