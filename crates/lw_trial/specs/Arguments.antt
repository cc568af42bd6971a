-- The values of the arguments of `trial`, as contracts see them.
use Rattle.std.specs.Prelude.{ℕ, ◌<◌, ◌≤◌, ◌^◌}
use Rattle.lw_chunks.specs.declared.method.Method.{Method}
use Rattle.lw_rounds.specs.declared.learner.Kind.{Kind}

-- the states and inputs of the machine that is drawn, the seed that it is drawn by, the number of instances, the kind of the
-- learner, and how suites are made
pub record TrialValues : Type 0 where
  pub states : ℕ
  pub inputs : ℕ
  pub seed : ℕ
  pub workers : ℕ
  pub learner : Kind
  pub suite : Method

-- within their limits
pub record AreWithinLimits (v : TrialValues) : Type 0 where
  pub some_state : 1 ≤ v.states
  pub few_states : v.states ≤ 1024
  pub some_input : 1 ≤ v.inputs
  pub few_inputs : v.inputs ≤ 64
  pub small : v.seed < 2 ^ 64
  pub some_worker : 1 ≤ v.workers
  pub few_workers : v.workers ≤ 16
