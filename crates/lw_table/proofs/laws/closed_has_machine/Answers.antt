use Rattle.lw_table.proofs.TransitionLemmas.{has_machine}
use Rattle.lw_table.proofs.laws.closed_has_machine.Goals as goal

pub returns : goal.returns
returns c = has_machine
