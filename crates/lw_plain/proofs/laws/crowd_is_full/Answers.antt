use Rattle.lw_plain.proofs.LawLemmas.{crowd_is_full}
use Rattle.lw_plain.proofs.laws.crowd_is_full.Goals as goal

pub returns : goal.returns
returns c = crowd_is_full
