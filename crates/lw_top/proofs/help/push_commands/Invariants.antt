use Rattle.std.proofs.Common.{◌≡◌, ◌++◌, take, string_bytes}
use Rattle.std.specs.List.{flat_map}
use Rattle.lw_top.specs.HelpTexts.{command_line}
use Rattle.lw_top.specs.Syntaxes.{syntax_values}
use Rattle.lw_top.proofs.help.push_commands.Given as goal

abbrev pub invariant-loop-syntax : goal.invariant-loop-syntax
invariant-loop-syntax l = string_bytes l.text ≡ string_bytes l.initial.text ++ flat_map (λ s. command_line (syntax_values s.now)) (take l.syntax-index l.list)
