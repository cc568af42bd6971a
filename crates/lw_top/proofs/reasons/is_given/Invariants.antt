use Rattle.std.proofs.Common.{◌≡◌, ◌++◌, ℕ, map, take, drop, length, filter, find, not, codes, option_map, string_bytes}
use Rattle.std.specs.List.{list_any}
use Rattle.lw_top.specs.Reasons.{is_named}
use Rattle.lw_top.specs.Given.{given_values}
use Rattle.lw_top.proofs.reasons.is_given.Given as goal

abbrev pub invariant-loop-one : goal.invariant-loop-one
invariant-loop-one l = list_any (is_named l.name) (map given_values (drop l.one-index l.given)) ≡ list_any (is_named l.name) (map given_values l.given)
