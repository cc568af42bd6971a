use Rattle.std.proofs.Common.{rules}
use Rattle.lw_adapters.specs.Journal.{ends_run}
use Rattle.lw_adapters.proofs.journal.ends_run.Goals as goal

pub returns-then-place-ne2 : goal.returns-then-place-ne2
unfolding ends_run
returns-then-place-ne2 c = search rules

pub returns : goal.returns
unfolding ends_run
returns c = search rules
