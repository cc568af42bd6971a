-- The result of the learner, in one type: it has one result at most.
use Rattle.std.specs.Prelude.{◌≡◌, ℕ, List}
use Rattle.lw_mealy.specs.Machine.{Rows}
use Rattle.lw_plain.specs.Rounds.{Task, LearnsPlainly, IsPlainCrowd, IsPlainTooLarge}

-- a model, the number of refinements and the batches; words that are pairwise apart and the batches; or a model, the
-- size of its suite and the batches
pub data PlainEnd : Type 0 where
  Learned : Rows → ℕ → List (List (List ℕ)) → PlainEnd
  Crowd : List (List ℕ) → List (List (List ℕ)) → PlainEnd
  TooLarge : Rows → ℕ → List (List (List ℕ)) → PlainEnd

abbrev pub IsPlainEnd : Task → List (List ℕ) → PlainEnd → Type 0
IsPlainEnd task given (Learned model refinements batches) = LearnsPlainly task given model refinements batches
IsPlainEnd task given (Crowd words batches) = IsPlainCrowd task given words batches
IsPlainEnd task given (TooLarge model number batches) = IsPlainTooLarge task given model number batches

-- two ends of one learning are one
abbrev pub OnePlainEnd : Type 0
OnePlainEnd = (task : Task) (given : List (List ℕ)) (d e : PlainEnd) → IsPlainEnd task given d → IsPlainEnd task given e → d ≡ e
