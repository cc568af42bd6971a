-- What the end of a call carries.
use Rattle.std.specs.Prelude.{◌≡◌, None}
use Rattle.lw_report.specs.declared.«end».End.{End}

-- no learner is carried, and no refinement counted
pub record IsWithoutLearner (end : End) : Type 0 where
  pub learner : end.learner ≡ None
  pub refinements : end.refinements ≡ 0
