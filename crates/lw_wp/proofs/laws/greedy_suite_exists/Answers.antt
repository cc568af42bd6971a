use Rattle.std.proofs.Common.{refl}
use Rattle.lw_wp.specs.Tables.{suite_by}
use Rattle.lw_wp.proofs.GreedyExistence.{some_sets, some_table}
use Rattle.lw_wp.proofs.laws.greedy_suite_exists.Goals as goal

pub returns : goal.returns
returns c a h k machine minimal =
    let access = c.least_access_exists.ensures a h machine minimal.reached in
    let ends = c.separators_exist.ensures a h minimal.apart in
    let own = some_sets a h ends.0 ends.1 in
    let table = some_table a h ends.0 own.0 own.1 machine k in (
      suite_by a h k access.0 ends.0 table.0,
      record { access = access.0; ends = ends.0; own = own.0; table = table.0; least = access.1; separating = ends.1; greedy = own.1; rows = table.1; words = refl },
    )
