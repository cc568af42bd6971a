use Rattle.lw_check.proofs.OverLemmas.{all_whole}
use Rattle.lw_check.proofs.deciding.decide_alike.Goals as goal

pub fill-requires : goal.fill-requires
fill-requires c = all_whole _ _ c.args.answers.now.kept.answers c.args.answers.now.over
