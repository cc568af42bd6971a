use Rattle.std.proofs.Common.{rules, ◌≡◌, true, ◌∙◌}
use Rattle.lw_learner_tests.proofs.ReadyLemmas.{gives_kept}
use Rattle.lw_learner_tests.proofs.tests.settle.trial.settle.Goals as goal

pub settle_block-requires-clause-gives : goal.settle_block-requires-clause-gives
settle_block-requires-clause-gives g c =
    let o = g.O.Oracle.state c.args.oracle.now in
    let m = c.in-Ok.model.rows in
    let gives : c.gives_all.result ≡ true = search rules in
    (m, c.in-Ok.ensures.value, gives_kept m c.kept.result.now.answers o.kept (c.kept.ensures.value ∙ c.cache.ensures.kept) (c.gives_all.ensures gives))
