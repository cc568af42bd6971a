-- Which sessions may make a pool.
use Rattle.std.specs.Prelude.{◌≡◌, ℕ, ◌<◌, List, [], length, slice_index_or, None}
use Rattle.std.specs.List.{All}
use Rattle.lw_words.specs.Word.{answer_of, IsAnswer}
use Rattle.lw_words.specs.declared.kept.KeptAnswer.{KeptAnswer}
use Rattle.lw_sul.specs.SessionState.{SessionState}
use Rattle.lw_sul.specs.System.{SulState}
use Rattle.lw_names.specs.Naming.{Naming, own_names}
use Rattle.lw_pool.specs.Fitting.{Fits}
use Rattle.lw_pool.specs.Pool.{Seen, Member, ArePrior}

-- a session, and beside it what its system tells, by what a system tells of itself
abbrev pub member_of : {S : Type 0} → (S → SulState) → SessionState S → Member S
member_of state s = let sul = state s.sul in record {
  session = s;
  seen = record { instance = s.instance; journal = s.journal; names = sul.names; most = sul.most; stop = sul.stop; origin = sul.origin; inputs = sul.inputs; outputs = sul.outputs };
}

-- a session that may be this one of a pool: its journal is empty, it has not stopped, and its outputs have the pool's names
pub record MayJoin (naming : Naming) (inputs outputs number : ℕ) (s : Seen) : Type 0 where
  pub instance : s.instance ≡ number
  pub inputs_is : s.inputs ≡ inputs
  pub outputs_is : s.outputs ≡ outputs
  pub journal : s.journal ≡ []
  pub live : s.stop ≡ None
  pub fits : Fits naming s.names s.most s.outputs s.origin.machine
  pub names : s.names ≡ own_names naming number

-- sessions that may be those of a pool, each under the number of its place
abbrev pub AllMayJoin : {S : Type 0} → (SessionState S → Member S) → Naming → (inputs outputs : ℕ) → List (SessionState S) → Type 0
AllMayJoin f naming inputs outputs sessions = (i : ℕ) (d : SessionState _) → i < length sessions → MayJoin naming inputs outputs i (f (slice_index_or sessions i d)).seen

-- prior answers that a pool may begin with: under the number 16, in the runs of their places, over its letters and its
-- names
pub record MayBegin (naming : Naming) (inputs outputs : ℕ) (prior : List KeptAnswer) : Type 0 where
  pub prior_is : ArePrior prior
  pub answers : All (λ k. IsAnswer inputs (answer_of k)) prior
  pub named : All (λ k. All (λ y. y < length naming.names) k.outs) prior
  pub below : All (λ k. All (λ y. y < outputs) k.outs) prior
