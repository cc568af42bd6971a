use Rattle.lw_log.proofs.Escaping.{once, printable}
use Rattle.lw_log.proofs.escaped.bytes_are_told_readably.Goals as goal

pub returns-clause-printable : goal.returns-clause-printable
returns-clause-printable c = printable

pub returns-clause-once : goal.returns-clause-once
returns-clause-once c = once
