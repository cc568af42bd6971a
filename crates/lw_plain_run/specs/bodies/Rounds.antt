-- What a round of the slow learner leaves.
use Rattle.std.specs.Prelude.{◌≡◌, ℕ, ◌<◌, List, [], ◌∷◌, ◌++◌, length, Some}
use Rattle.lw_mealy.specs.Machine.{Rows, MealyMachine}
use Rattle.lw_separate.specs.Canonical.{IsCanonical}
use Rattle.lw_chunks.specs.Size.{suite_size, greatest_suite}
use Rattle.lw_plain.specs.Table.{PlainTable, with_batches}
use Rattle.lw_plain.specs.Rounds.{Task, PassesWords, IsUnrefuted, IsSuiteFor, IsRefined, IsRefinedTimes, hypothesis_of, new_row_of}
use Rattle.lw_plain_run.specs.declared.rounds.Round.{Round}
use Rattle.lw_plain_run.specs.declared.rounds.Round.TheVariants.{Refined, Sure, TooLarge}
use Rattle.lw_plain_run.specs.declared.learning.Ended.{Ended}
use Rattle.lw_plain_run.specs.declared.learning.Ended.TheVariants.{Learned, Crowd, OfSize}
use Rattle.lw_plain_run.specs.declared.run.PlainRun.{PlainRun}
use Rattle.lw_plain_run.specs.declared.run.PlainRun.TheVariants as run
use Rattle.lw_plain_run.specs.Run.{IsAlike}

-- a table's machine passed its suite
pub record IsSure (task : Task) (before now : PlainTable) (model : Rows) : Type 0 where
  pub ready : IsUnrefuted task before
  pub suite : List (List ℕ)
  pub made : IsSuiteFor task (hypothesis_of task before) model suite
  pub asked : List (List (List ℕ))
  pub passes : PassesWords task.machine (hypothesis_of task before) suite asked
  pub is : now ≡ with_batches before asked

-- a table's machine has no suite
pub record IsLarge (task : Task) (before now : PlainTable) (model : Rows) (number : ℕ) : Type 0 where
  pub ready : IsUnrefuted task before
  pub canonical : IsCanonical task.letters (hypothesis_of task before) model
  pub size : number ≡ suite_size (length model) task.letters task.extra
  pub large : greatest_suite < number
  pub is : now ≡ before

-- the result of a round
abbrev pub IsRound : Task → MealyMachine → PlainTable → PlainTable → Round → Type 0
IsRound task m before now Refined = IsRefined task before now
IsRound task m before now (Sure model) = IsAlike m model × IsSure task before now model.rows
IsRound task m before now (TooLarge model number) = IsAlike m model × IsLarge task before now model.rows number

-- the result of rounds that began with a table
abbrev pub IsEnded : Task → MealyMachine → PlainTable → PlainTable → Ended → Type 0
IsEnded task m start now (Learned model refinements) = IsAlike m model × ((before : PlainTable) × IsRefinedTimes task refinements start before × IsSure task before now model.rows)
IsEnded task m start now (Crowd word) = (refinements : ℕ) × IsRefinedTimes task refinements start now × (new_row_of task now ≡ Some word)
IsEnded task m start now (OfSize model number) = IsAlike m model × ((refinements : ℕ) × (before : PlainTable) × IsRefinedTimes task refinements start before × IsLarge task before now model.rows number)

-- what is told of a table and how its rounds ended
abbrev pub told_run : PlainTable → Ended → PlainRun
told_run t (Learned model refinements) = run.Learned model refinements t.batches
told_run t (Crowd word) = run.Crowd (t.access ++ word ∷ []) t.batches
told_run t (OfSize model number) = run.TooLarge model number t.batches
