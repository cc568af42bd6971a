use Rattle.std.proofs.Common.{◌≡◌, drop, find, map}
use Rattle.std.specs.Str.{bytes_eq}
use Rattle.lw_top.specs.Syntaxes.{syntax_values}
use Rattle.lw_top.proofs.arguments.help.find_named.Given as goal

abbrev pub invariant-loop-syntax : goal.invariant-loop-syntax
invariant-loop-syntax l = find (λ s. bytes_eq s.command l.name) (map (λ s. syntax_values s.now) (drop l.syntax-index l.list)) ≡ find (λ s. bytes_eq s.command l.name) (map (λ s. syntax_values s.now) l.list)
