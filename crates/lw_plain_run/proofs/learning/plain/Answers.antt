use Rattle.lw_plain_run.specs.Run.{IsPlainRun}
use Rattle.lw_plain_run.specs.bodies.Rounds.{told_run}
use Rattle.lw_plain_run.proofs.RunLemmas.{is_plain_run, told_as}
use Rattle.lw_plain_run.proofs.learning.plain.Goals as goal

pub returns : goal.returns
returns c =
    told_as c.told.result (told_run c.rounds.new.table c.in_ok-ended.ended) (IsPlainRun c.args.m.now c.args.extra c.args.max_states c.args.given.now) c.told.ensures
    (is_plain_run c.args.m.now c.args.extra c.args.max_states c.args.given.now c.in_ok-table.table c.rounds.new.table c.in_ok-ended.ended
    (c.in_ok-table.ensures.closed c.args.extra) c.in_ok-ended.ensures)
