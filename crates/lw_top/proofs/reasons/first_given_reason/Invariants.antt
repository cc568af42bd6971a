use Rattle.std.proofs.Common.{◌≡◌, ◌++◌, ℕ, map, take, drop, length, filter, find, not, codes, option_map, string_bytes}
use Rattle.lw_top.specs.Reasons.{first_told, given_reason}
use Rattle.lw_top.specs.Given.{given_values}
use Rattle.lw_top.specs.Syntaxes.{entry_values, syntax_values}
use Rattle.lw_top.proofs.reasons.first_given_reason.Given as goal

abbrev pub invariant-loop-one : goal.invariant-loop-one
invariant-loop-one l = first_told (given_reason (syntax_values l.syntax)) (map given_values (drop l.one-index l.given)) ≡ first_told (given_reason (syntax_values l.syntax)) (map given_values l.given)
