use Rattle.std.proofs.Common.{refl}
use Rattle.lw_wp.specs.WpSuite.{wp_suite_of}
use Rattle.lw_wp.proofs.laws.wp_suite_exists.Goals as goal

pub returns : goal.returns
returns c a h k machine minimal =
    let access = c.least_access_exists.ensures a h machine minimal.reached in
    let ends = c.separators_exist.ensures a h minimal.apart in
    (wp_suite_of a h k access.0 ends.0, record { access = access.0; ends = ends.0; least = access.1; separating = ends.1; words = refl })
