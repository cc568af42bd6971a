use Rattle.lw_compare.proofs.RunLemmas.{comes_to}
use Rattle.lw_compare.proofs.command.finish.Goals as goal

pub returns-clause-comes : goal.returns-clause-comes
returns-clause-comes g c =
    let O = g.O.Sink in
    rw c.new.ensures.outcome
    (comes_to c.args.first.now c.args.second.now (O.state c.args.out.now) (O.state c.tell-outcome.new.out) c.decide-decision.result c.tell-outcome.result c.decide-decision.ensures c.tell-outcome.ensures.outcome c.tell-outcome.ensures.refused c.tell-outcome.ensures.part)

pub returns-clause-said_part : goal.returns-clause-said_part
returns-clause-said_part g c = rw c.new.ensures.outcome c.tell-outcome.ensures.said_part

pub returns-clause-quiet : goal.returns-clause-quiet
returns-clause-quiet g c = rw c.new.ensures.outcome c.tell-outcome.ensures.quiet
