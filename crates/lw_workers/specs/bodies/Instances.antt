-- Instances of a machine, and a pool of them, before anything was asked.
use Rattle.std.specs.Prelude.{◌≡◌, ℕ, ◌<◌, List, [], length, slice_index_or, Some, None}
use Rattle.std.specs.List.{All}
use Rattle.lw_words.specs.declared.kept.KeptAnswer.{KeptAnswer}
use Rattle.lw_mealy.specs.Machine.{MealyMachine}
use Rattle.lw_sul.specs.SessionState.{SessionState}
use Rattle.lw_sul.specs.TableSulState.{TableSulState}
use Rattle.lw_names.specs.Naming.{Naming}
use Rattle.lw_pool.specs.Pool.{PoolState, seen_of, origins_of}

-- a session of a machine under this number, with no run yet
abbrev pub instance_of : MealyMachine → List (List ℕ) → ℕ → SessionState TableSulState
instance_of t names number = record { instance = number; sul = record { machine = t; state = 0; names = names }; journal = [] }

-- sessions of a machine, each under the number of its place, with no run yet
abbrev pub AreInstances : MealyMachine → List (List ℕ) → List (SessionState TableSulState) → Type 0
AreInstances t names sessions = (i : ℕ) (d : SessionState TableSulState) → i < length sessions → slice_index_or sessions i d ≡ instance_of t names i

-- a pool of this many instances of a machine, over these names of its outputs, that knows the prior answers alone
pub record IsPoolOf {S : Type 0} (t : MealyMachine) (instances : ℕ) (names : Naming) (prior : List KeptAnswer) (p : PoolState S) : Type 0 where
  pub inputs : p.inputs ≡ t.inputs
  pub outputs : p.outputs ≡ t.outputs
  pub naming : p.naming ≡ names
  pub prior_is : p.prior ≡ prior
  pub kept : p.kept ≡ prior
  pub stop : p.stop ≡ None
  pub sessions : length (seen_of p) ≡ instances
  pub machines : All (λ o. o.machine ≡ Some t.rows) (origins_of (seen_of p))
