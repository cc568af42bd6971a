-- What holds of a pool between its calls.
use Rattle.std.specs.Prelude.{◌≡◌, ℕ, ◌<◌, ◌≤◌, List, length, Bool, false, Option, None}
use Rattle.std.specs.List.{All}
use Rattle.lw_words.specs.declared.kept.KeptAnswer.{KeptAnswer}
use Rattle.lw_names.specs.Names.{IsGrown}
use Rattle.lw_cache.specs.Settling.{KeepsAnswers}
use Rattle.lw_cache.specs.declared.stops.AskStop.{AskStop}
use Rattle.lw_names.specs.Naming.{Naming, own_names, HasLists}
use Rattle.lw_desk.specs.Ending.{IsShared, FreeComeUp}
use Rattle.lw_pool.specs.Fitting.{Fits}
use Rattle.lw_pool.specs.Pool.{Seen, PoolState, seen_at, seen_of, ArePrior, StandsFor, AskedOnce, IsStopOf, origins_of}

-- a session's outputs have the names that the pool has of it, if it is live, and else those and perhaps more
pub record IsPoolMember (naming : Naming) (inputs outputs number : ℕ) (s : Seen) : Type 0 where
  pub instance : s.instance ≡ number
  pub inputs_is : s.inputs ≡ inputs
  pub outputs_is : s.outputs ≡ outputs
  pub fits : Fits naming s.names s.most s.outputs s.origin.machine
  pub grown : IsGrown (own_names naming number) s.names
  pub live : s.stop ≡ None → s.names ≡ own_names naming number
  pub journal : All (λ r. All (λ y. y < length (own_names naming number)) r.outs) s.journal

-- sessions by instance, names, prior and all recorded answers, the last refusal, and whether there was one, that are a
-- pool's: each free name came up in a recorded answer, and no system has stopped where nothing was ever refused
pub record IsPool (seen : List Seen) (naming : Naming) (prior kept : List KeptAnswer) (stop : Option AskStop) (refused : Bool) (inputs outputs : ℕ) : Type 0 where
  pub some : 0 < length seen
  pub few : length seen ≤ 16
  pub members : (i : ℕ) → i < length seen → IsPoolMember naming inputs outputs i (seen_at seen i)
  pub lists : HasLists naming.brought (length seen)
  pub shared : IsShared naming
  pub come_up : FreeComeUp kept naming
  pub below : All (λ k. All (λ y. y < length naming.names) k.outs) kept
  pub prior_is : ArePrior prior
  pub stands : StandsFor naming prior kept seen
  pub keeps : KeepsAnswers inputs outputs (origins_of seen) kept
  pub once : AskedOnce prior kept
  pub why : IsStopOf seen kept stop
  pub unrefused : refused ≡ false → (stop ≡ None) × ((i : ℕ) → i < length seen → (seen_at seen i).stop ≡ None)

abbrev pub PoolStands : {S : Type 0} → PoolState S → Type 0
PoolStands p = IsPool (seen_of p) p.naming p.prior p.kept p.stop p.refused p.inputs p.outputs
