use Rattle.lw_tree.proofs.MachineLemmas.{one_machine}
use Rattle.lw_tree.proofs.laws.one_machine.Goals as goal

pub returns : goal.returns
returns c = one_machine
