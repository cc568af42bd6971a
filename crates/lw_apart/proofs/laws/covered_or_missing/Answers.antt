use Rattle.lw_apart.proofs.ExistenceMissing.{covers_or_missing}
use Rattle.lw_apart.proofs.laws.covered_or_missing.Goals as goal

pub returns : goal.returns
returns c a h ks k machine minimal given =
    let access = c.least_access_exists.ensures a h machine minimal.reached in
    covers_or_missing a h machine minimal ks k access.0 access.1 given
