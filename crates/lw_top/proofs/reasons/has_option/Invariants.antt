use Rattle.std.proofs.Common.{◌≡◌, ◌++◌, ℕ, map, take, drop, length, filter, find, not, codes, option_map, string_bytes}
use Rattle.std.specs.List.{list_any}
use Rattle.lw_top.specs.Reasons.{is_option}
use Rattle.lw_top.specs.Syntaxes.{entry_values, syntax_values}
use Rattle.lw_top.proofs.reasons.has_option.Given as goal

abbrev pub invariant-loop-entry : goal.invariant-loop-entry
invariant-loop-entry l = list_any (is_option l.name) (map entry_values (drop l.entry-index l.entries)) ≡ list_any (is_option l.name) (map entry_values l.entries)
