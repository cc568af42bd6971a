use Rattle.lw_outside.proofs.LineLemmas.{line_at, no_line_at}
use Rattle.lw_outside.proofs.served.first_line.Goals as goal

pub returns-in-Some : goal.returns-in-Some
returns-in-Some c = line_at c.args.bytes.now c.in-Some.end c.in-Some.ensures

pub returns-in-None : goal.returns-in-None
returns-in-None c = no_line_at c.args.bytes.now c.in-None.ensures
