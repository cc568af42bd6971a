-- The result of a table that is learned by the W-method, by the machine alone: that of the plain learner (lw_plain).
use Rattle.std.specs.Prelude.{◌≡◌, ℕ, List, None}
use Rattle.lw_words.specs.declared.kept.KeptAnswer.{KeptAnswer}
use Rattle.lw_mealy.specs.Machine.{Rows}
use Rattle.lw_cache.specs.Settling.{OracleState}
use Rattle.lw_chunks.specs.declared.method.Method.{Method}
use Rattle.lw_chunks.specs.declared.method.Method.TheVariants as method
use Rattle.lw_plain.specs.Rounds.{Task, LearnsPlainly}
use Rattle.lw_plain.specs.Table.{unless_empty}
use Rattle.lw_plain.specs.Turns.{AsksInTurn, IsPlainOracle}
use Rattle.lw_rounds.specs.declared.learner.Kind.{Kind}
use Rattle.lw_rounds.specs.declared.learner.Kind.TheVariants as kind
use Rattle.lw_rounds.specs.declared.settings.Testing.{Testing}

-- by suites that are made so, and no walks
abbrev pub by_suites : Method → Testing
by_suites suite = record { suite = suite; walks = None }

-- by the suites of the W-method alone
abbrev pub by_w : Testing
by_w = by_suites method.W

abbrev pub plain_task : ℕ → Rows → ℕ → ℕ → Task
plain_task a m k most = record { letters = a; machine = m; extra = k; most = most }

-- the plain learner ends with this model, and after those that were asked already its batches were asked in turn
pub record IsLearnedPlainly (task : Task) (given : List (List ℕ)) (model : Rows) (refinements : ℕ) (asked : List (List (List ℕ))) (was is : List KeptAnswer) : Type 0 where
  pub batches : List (List (List ℕ))
  pub learns : LearnsPlainly task given model refinements batches
  pub asks : AsksInTurn task.machine asked batches was is

-- so it is of each table that is learned by the W-method and no walks, over an oracle that asks exactly what has to be asked, and whose answers are a
-- machine's; words that were given were asked before, as a batch
abbrev pub LearnsAsPlain : Kind → Testing → ℕ → ℕ → ℕ → Rows → ℕ → OracleState → OracleState → Type 0
LearnsAsPlain of_kind testing a k most model refinements before now = of_kind ≡ kind.Table → testing ≡ by_w → (m : Rows) (given : List (List ℕ)) → IsPlainOracle m (unless_empty given) before now
    → IsLearnedPlainly (plain_task a m k most) given model refinements (unless_empty given) before.kept now.kept
