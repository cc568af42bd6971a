use Rattle.std.proofs.Common.{◌≡◌, ◌++◌, length, map, option_map}
use Rattle.lw_top.specs.CommandLine.{texts}
use Rattle.lw_top.specs.Given.{given_values, givens_behind, givens}
use Rattle.lw_top.specs.Syntaxes.{entry_values}
use Rattle.lw_top.proofs.given.givens.Given as goal

abbrev pub invariant-loop-word : goal.invariant-loop-word
invariant-loop-word l = map given_values l.list.items ++ givens_behind (map entry_values l.entries) (option_map (λ s. s.now) l.before) (texts l.rest) ≡ givens (map entry_values l.entries) (texts l.words)

abbrev pub decreases-loop-word : goal.decreases-loop-word
decreases-loop-word l = length l.rest
