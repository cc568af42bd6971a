-- What is reported of a model that was learned of a machine.
use Rattle.std.specs.Prelude.{◌≡◌, ◌↔◌, ℕ, length, true}
use Rattle.lw_mealy.specs.Machine.{MealyMachine}
use Rattle.lw_separate.specs.Canonical.{IsCanonical}
use Rattle.lw_report.specs.declared.outcome.Tried.{Tried}
use Rattle.lw_trial.specs.Arguments.{TrialValues}

-- the arguments; the states of the model h, the refinements and the number of the recorded answers; and that the two
-- are equal exactly where the model is the canonical form of the machine m
pub record IsToldOf (v : TrialValues) (m h : MealyMachine) (refinements answers : ℕ) (t : Tried) : Type 0 where
  pub states : t.states ≡ v.states
  pub inputs : t.inputs ≡ v.inputs
  pub seed : t.seed ≡ v.seed
  pub learned : t.learned ≡ length h.rows
  pub refined : t.refinements ≡ refinements
  pub counted : t.answers ≡ answers
  pub equal : (t.equal ≡ true) ↔ IsCanonical m.inputs m.rows h.rows
