-- Where the verdict is that the answers suffice, they fix the machine: they cover it.
use Rattle.lw_apart.proofs.CoverLemmas.{covers_is_sure}
use Rattle.lw_certify.specs.Verdict.{SureIsSure}
use Rattle.lw_certify.proofs.EnoughLemmas.{enough_covers}

pub sure_is_sure : SureIsSure
sure_is_sure method a h ks k machine v = covers_is_sure a h ks k machine (enough_covers method a h ks k machine v.0 v.1 v.3)
