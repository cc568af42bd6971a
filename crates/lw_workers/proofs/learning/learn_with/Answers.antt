use mir.Syntax.{of_param}
use Rattle.lw_rounds.specs.Stops.{learn_stop}
use Rattle.lw_pool.proofs.PoolLemmas.{oracle_settled}
use Rattle.lw_workers.proofs.LeavingLemmas.{has_learned}
use Rattle.lw_workers.proofs.SendLemmas.{nothing_seen}
use Rattle.lw_workers.proofs.PlainLemmas.{runs_as_plain}
use Rattle.lw_workers.proofs.learning.learn_with.Goals as goal

pub learn_after-learned-requires-clause-can : goal.learn_after-learned-requires-clause-can
learn_after-learned-requires-clause-can g c = record {
  may = λ p batch letters few. (
    letters,
    (
      few,
      (
        record { owned = c.type_bounds.send-S.owned; leaving = λ k. nothing_seen (k (of_param 0)) },
        record { shared = c.type_bounds.sync-R.shared },
      ),
    ),
  );
  settles = λ p left batch result called. oracle_settled batch.now p.now left.now result called;
}

pub returns-clause-leaves : goal.returns-clause-leaves
returns-clause-leaves g c = has_learned c.args.pool c.learn_after-learned.new.oracle.pool (learn_stop c.learn_after-learned.result) c.cache.ensures.stands c.cache-2.ensures.stands c.learn_after-learned.ensures.leaves

pub returns-clause-plainly : goal.returns-clause-plainly
returns-clause-plainly g c =
    runs_as_plain c.args.settings.kind c.args.settings.testing c.args.pool.inputs c.args.settings.extra c.args.settings.max_states c.args.words.now c.args.pool c.learn_after-learned.new.oracle.pool c.learn_after-learned.result c.learn_after-learned.ensures.plainly
