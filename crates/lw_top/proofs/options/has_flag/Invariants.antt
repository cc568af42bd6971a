use Rattle.std.proofs.Common.{◌≡◌, map, drop}
use Rattle.lw_top.specs.Syntaxes.{entry_values, has_flag}
use Rattle.lw_top.proofs.options.has_flag.Given as goal

abbrev pub invariant-loop-entry : goal.invariant-loop-entry
invariant-loop-entry l = has_flag (map entry_values (drop l.entry-index l.entries)) l.name ≡ has_flag (map entry_values l.entries) l.name
