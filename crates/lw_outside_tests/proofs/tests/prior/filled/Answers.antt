use Rattle.lw_prior.proofs.PriorLemmas.{whole_over}
use Rattle.lw_outside_tests.proofs.tests.prior.filled.Goals as goal

pub fill-requires : goal.fill-requires
fill-requires c = whole_over _ _ c.args.answers.now.kept.answers c.args.answers.now.over
