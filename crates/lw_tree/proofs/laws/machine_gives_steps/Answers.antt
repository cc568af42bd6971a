use Rattle.lw_tree.proofs.MachineLemmas.{machine_gives_steps}
use Rattle.lw_tree.proofs.laws.machine_gives_steps.Goals as goal

pub returns : goal.returns
returns c = machine_gives_steps
