use Rattle.lw_certify.proofs.CertifyLemmas.{Taken}
use Rattle.lw_certify.proofs.certificate.find_access.Given as goal

abbrev pub invariant-loop-state : goal.invariant-loop-state
invariant-loop-state l = Taken l.initial.found.items l.state l.found.items l.words
