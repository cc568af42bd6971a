use Rattle.lw_accept.proofs.OneFault.{no_fault}
use Rattle.lw_accept.proofs.laws.acceptor_files_have_no_fault.Goals as goal

pub returns : goal.returns
returns c = no_fault
