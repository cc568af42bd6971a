use Rattle.std.proofs.Common.{refl}
use Rattle.lw_draw.specs.Walks.{walks}
use Rattle.lw_draw.proofs.laws.walks_exist.Goals as goal

pub returns : goal.returns
returns c a m d machine minimal =
    let access = c.least_access_exists.ensures a m machine minimal.reached in
    let ends = c.separators_exist.ensures a m minimal.apart in
    (walks access.0 ends.0 a d, record { access = access.0; ends = ends.0; least = access.1; separating = ends.1; are = refl })
