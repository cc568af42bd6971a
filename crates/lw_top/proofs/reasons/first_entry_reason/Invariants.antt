use Rattle.std.proofs.Common.{◌≡◌, ◌++◌, ℕ, map, take, drop, length, filter, find, not, codes, option_map, string_bytes}
use Rattle.lw_top.specs.Reasons.{first_told, entry_reason}
use Rattle.lw_top.specs.Given.{given_values}
use Rattle.lw_top.specs.Syntaxes.{entry_values, syntax_values}
use Rattle.lw_top.proofs.reasons.first_entry_reason.Given as goal

abbrev pub invariant-loop-entry : goal.invariant-loop-entry
invariant-loop-entry l = first_told (entry_reason (map given_values l.given)) (map entry_values (drop l.entry-index l.entries)) ≡ first_told (entry_reason (map given_values l.given)) (map entry_values l.entries)
