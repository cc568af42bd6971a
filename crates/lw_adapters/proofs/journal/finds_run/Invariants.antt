use Rattle.std.proofs.Common.{◌≡◌, length}
use Rattle.lw_adapters.proofs.JournalLemmas.{HasLeft}
use Rattle.lw_adapters.proofs.journal.finds_run.Given as goal

abbrev pub invariant-loop : goal.invariant-loop
invariant-loop g l = HasLeft (g.F.Read.remaining l.initial.file) (g.F.Read.remaining l.file) l.place × (length l.page ≡ 4096)
