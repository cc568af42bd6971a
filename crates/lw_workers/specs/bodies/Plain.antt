-- Words that are asked first, and a learning behind them, as the plain learner has them.
use Rattle.std.specs.Prelude.{◌≡◌, ℕ, List, []}
use Rattle.lw_mealy.specs.Machine.{Rows}
use Rattle.lw_cache.specs.Settling.{OracleState}
use Rattle.lw_rounds.specs.declared.settings.Testing.{Testing}
use Rattle.lw_plain.specs.Table.{unless_empty}
use Rattle.lw_plain.specs.Turns.{AsksInTurn, IsPlainOracle}
use Rattle.lw_rounds.specs.Plain.{by_w, IsLearnedPlainly, plain_task}
use Rattle.lw_rounds.specs.declared.learner.Kind.{Kind}
use Rattle.lw_rounds.specs.declared.learner.Kind.TheVariants as kind

-- the words are a batch, unless there are none
abbrev pub AsksGiven : List (List ℕ) → OracleState → OracleState → Type 0
AsksGiven given before now = (m : Rows) → IsPlainOracle m [] before now → AsksInTurn m [] (unless_empty given) before.kept now.kept

abbrev pub LearnsGiven : Kind → Testing → ℕ → ℕ → ℕ → List (List ℕ) → Rows → ℕ → OracleState → OracleState → Type 0
LearnsGiven of_kind testing a k most given model refinements before now = of_kind ≡ kind.Table → testing ≡ by_w → (m : Rows) → IsPlainOracle m [] before now
    → IsLearnedPlainly (plain_task a m k most) given model refinements [] before.kept now.kept
