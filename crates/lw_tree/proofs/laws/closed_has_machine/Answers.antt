use Rattle.lw_tree.proofs.MachineLemmas.{has_machine}
use Rattle.lw_tree.proofs.laws.closed_has_machine.Goals as goal

pub returns : goal.returns
returns c = has_machine
