use Rattle.lw_check.specs.Decision.{pair_of}
use Rattle.lw_check.proofs.EndLemmas.{comes_to, still_named}
use Rattle.lw_check.proofs.checking.finish.Goals as goal

pub returns-clause-comes : goal.returns-clause-comes
returns-clause-comes g c =
    let O = g.O.Sink in
    rw c.new.ensures.outcome
    (comes_to c.args.method (pair_of c.args.machine c.args.answers) c.args.extra (O.state c.args.out.now) (O.state c.tell-outcome.new.out) c.decide-decision.result.outcome c.tell-outcome.result c.decide-decision.ensures.decided c.tell-outcome.ensures.outcome c.tell-outcome.ensures.refused c.tell-outcome.ensures.part)

pub returns-clause-said_part : goal.returns-clause-said_part
returns-clause-said_part g c = rw c.new.ensures.outcome c.tell-outcome.ensures.said_part

pub returns-clause-quiet : goal.returns-clause-quiet
returns-clause-quiet g c = rw c.new.ensures.outcome c.tell-outcome.ensures.quiet

pub returns-clause-outputs : goal.returns-clause-outputs
returns-clause-outputs g c =
    rw (c.new.ensures.outcome, c.new.ensures.outputs)
    (still_named (pair_of c.args.machine c.args.answers) c.decide-decision.result.outcome c.tell-outcome.result c.decide-decision.result.outputs c.decide-decision.ensures.named c.tell-outcome.ensures.outcome)
