use Rattle.std.proofs.Common.{rules, inl, inr}
use Rattle.lw_outside.proofs.memory_sink.MemorySinkSink.put.Goals.{then-planned-via-then-planned, then-planned-via-else-planned+then-self-eq0}
use Rattle.lw_outside.proofs.memory_sink.MemorySinkSink.put.Goals as goal

pub returns-then-planned-clause-refused : goal.returns-then-planned-clause-refused
returns-then-planned-clause-refused c =
    elim c.then-planned.branch [
      | then-planned-via-then-planned w ↦ inl (search rules)
      | then-planned-via-else-planned+then-self-eq0 w ↦ inr (search rules)
    ]
