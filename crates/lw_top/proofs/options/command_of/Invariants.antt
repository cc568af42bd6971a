use Rattle.std.proofs.Common.{◌≡◌, map, take}
use Rattle.clap.specs.Words.{app_of}
use Rattle.lw_top.specs.CommandLine.{app_with, rule_of_argument}
use Rattle.lw_top.proofs.options.command_of.Given as goal

abbrev pub invariant-loop-entry : goal.invariant-loop-entry
invariant-loop-entry l = app_of l.command ≡ app_with l.syntax.command.now (map (λ e. rule_of_argument e.argument) (take l.entry-index l.entry-items))
