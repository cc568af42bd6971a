use Rattle.std.proofs.Common.{◌+◌, refl}
use Rattle.lw_chunks.specs.Middle.{suite_of, words_up_to}
use Rattle.lw_suite.proofs.laws.suite_exists.Goals as goal

pub returns : goal.returns
returns c a m k machine minimal =
    let access = c.least_access_exists.ensures a m machine minimal.reached in
    let ends = c.separators_exist.ensures a m minimal.apart in
    (suite_of access.0 (words_up_to a (k + 1)) ends.0, record { access = access.0; ends = ends.0; least = access.1; separating = ends.1; words = refl })
