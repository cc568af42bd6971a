use Rattle.std.proofs.Common.{eq-eqb, drop}
use Rattle.lw_outside.proofs.ChildLemmas.{silent_limit}
use Rattle.lw_outside.proofs.served.Served.read_line.Goals as goal

pub returns-then-self-2-clause-silent : goal.returns-then-self-2-clause-silent
returns-then-self-2-clause-silent c = λ silent. silent_limit c.args.self.now (drop c.args.self.now.read c.args.sent.now) silent (eq-eqb c.args.self.now.lines 4294967295 c.if-self-2.true)
