use Rattle.lw_plain_run.proofs.OneRunLemmas.{one_plain_run}
use Rattle.lw_plain_run.proofs.run.plain_run_is_unique.Goals as goal

pub returns : goal.returns
returns c = one_plain_run
