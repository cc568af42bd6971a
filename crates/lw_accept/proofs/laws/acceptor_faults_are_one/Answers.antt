use Rattle.lw_accept.proofs.OneFault.{one_fault}
use Rattle.lw_accept.proofs.laws.acceptor_faults_are_one.Goals as goal

pub returns : goal.returns
returns c = one_fault
