-- A pool as an oracle, by a call that settles it.
use Rattle.std.specs.Prelude.{ℕ, ◌<◌, ◌^◌, List, length, map, true, Option, Some, None, Result, ⊤}
use Rattle.std.specs.Fn.{Shared}
use Rattle.std.specs.List.{All}
use denote.Ref.{Bor, MutBor}
use Rattle.lw_words.specs.Word.{IsWord}
use Rattle.lw_cache.specs.Settling.{OracleState, Settles}
use Rattle.lw_cache.specs.declared.stops.AskStop.{AskStop}
use Rattle.lw_pool.specs.Pool.{PoolState, seen_of, origins_of}
use Rattle.lw_pool.specs.Settling.{HasSettled}

-- the names, where they are declared: of free ones a settling may bring more
abbrev pub declared_by : List (List ℕ) → Option (List (List (List ℕ))) → Option (List (List ℕ))
declared_by names None = Some names
declared_by names (Some brought) = None

abbrev pub oracle_of : {S : Type 0} → PoolState S → OracleState
oracle_of p = record { inputs = p.inputs; outputs = p.outputs; names = declared_by p.naming.names p.naming.brought; kept = p.kept; origins = origins_of (seen_of p); stopped = map (λ s. s.stop) (seen_of p); stop = p.stop; refused = p.refused; exact = true }

-- the call may be made with each batch of fewer than 2^32 words over the inputs, and settles it
pub record SettlesBatches {P F : Type 0} (state : P → OracleState) (g : Shared F (MutBor P × (Bor (List (List ℕ)) × Unit {0})) (Result ⊤ AskStop × (MutBor P × Unit {0}))) (call : F) : Type 0 where
  pub may : (p : MutBor P) (batch : Bor (List (List ℕ))) → All (IsWord (state p.now).inputs) batch.now → length batch.now < 2 ^ 32 → g.pre call (p, (batch, tt))
  pub settles : (p left : MutBor P) (batch : Bor (List (List ℕ))) (result : Result ⊤ AskStop) → g.post call (p, (batch, tt)) (result, (left, tt)) → Settles batch.now (state p.now) (state left.now) result

-- what settles a pool settles the oracle that it is
abbrev pub SettlesAsOracle : Type 0 → Type 0
SettlesAsOracle S = (batch : List (List ℕ)) (before now : PoolState S) (result : Result ⊤ AskStop) → HasSettled batch before now result → Settles batch (oracle_of before) (oracle_of now) result
