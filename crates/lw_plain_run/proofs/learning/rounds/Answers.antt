use Rattle.lw_plain.specs.Rounds.{IsRefined}
use Rattle.lw_plain_run.specs.Run.{task_of}
use Rattle.lw_plain_run.proofs.RunLemmas.{once_more}
use Rattle.lw_plain_run.proofs.learning.rounds.Goals as goal

pub loop-refinements-preserved : goal.loop-refinements-preserved
loop-refinements-preserved c =
    let task = task_of c.args.m.now c.args.extra c.args.most in
    let refined : IsRefined task c.loop-refinements.table c.one_round.new.table = rw c.in-Refined.is at c.in_ok-one_round.ensures.round in
    record {
      over = c.in_ok-one_round.ensures.over;
      few = c.in_ok-one_round.ensures.few;
      after = once_more task c.loop-refinements.refinements c.args.table.now c.loop-refinements.table c.one_round.new.table c.loop-refinements.invariant.after refined;
    }
