use Rattle.std.proofs.Common.{◌≡◌, ℕ, List, ◌++◌, drop}
use Rattle.lw_adapters.specs.Journal.{has_run}
use Rattle.lw_adapters.proofs.journal.has_run.Given as goal

abbrev pub invariant-loop-byte : goal.invariant-loop-byte
invariant-loop-byte l = (rest : List ℕ) → has_run l.initial.place (l.piece ++ rest) ≡ has_run l.place (drop l.byte-index l.piece ++ rest)
