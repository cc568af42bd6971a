use Rattle.std.proofs.Common.{◌≡◌, ◌++◌, take, string_bytes}
use Rattle.std.specs.List.{flat_map}
use Rattle.lw_top.specs.HelpTexts.{argument_line}
use Rattle.lw_top.specs.Syntaxes.{entry_values}
use Rattle.lw_top.proofs.pages.push_arguments.Given as goal

abbrev pub invariant-loop-entry : goal.invariant-loop-entry
invariant-loop-entry l = string_bytes l.text ≡ string_bytes l.initial.text ++ flat_map (λ e. argument_line (entry_values e)) (take l.entry-index l.entries)
