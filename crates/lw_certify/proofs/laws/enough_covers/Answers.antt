use Rattle.lw_certify.proofs.EnoughLemmas.{enough_covers}
use Rattle.lw_certify.proofs.laws.enough_covers.Goals as goal

pub returns : goal.returns
returns c = enough_covers
