use Rattle.std.proofs.Common.{◌≡◌, ◌++◌, ℕ, map, take, drop, length, filter, find, not, codes, option_map, string_bytes}
use Rattle.lw_top.specs.Reasons.{first_told, value_of}
use Rattle.lw_top.specs.Given.{given_values}
use Rattle.lw_top.proofs.reasons.first_value.Given as goal

abbrev pub invariant-loop-one : goal.invariant-loop-one
invariant-loop-one l = first_told (value_of l.name) (map given_values (drop l.one-index l.given)) ≡ first_told (value_of l.name) (map given_values l.given)
