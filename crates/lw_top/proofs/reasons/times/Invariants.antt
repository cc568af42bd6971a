use Rattle.std.proofs.Common.{◌≡◌, ◌≤◌, length, filter, map, take}
use Rattle.lw_top.specs.Reasons.{is_named}
use Rattle.lw_top.specs.Given.{given_values}
use Rattle.lw_top.proofs.reasons.times.Given as goal

abbrev pub invariant-loop-one : goal.invariant-loop-one
invariant-loop-one l = (l.count ≡ length (filter (is_named l.name) (map given_values (take l.one-index l.given)))) × (l.count ≤ l.one-index)
