use Rattle.lw_workers.proofs.PlainLemmas.{runs_are_one}
use Rattle.lw_workers.proofs.laws.runs_are_one.Goals as goal

pub returns : goal.returns
returns c = runs_are_one
