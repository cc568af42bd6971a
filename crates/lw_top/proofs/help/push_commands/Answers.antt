use Rattle.std.proofs.Common.{◌≡◌, ◌∙◌, ◌++◌, ℕ, List, ap, string_bytes}
use Rattle.std.specs.List.{flat_map}
use Rattle.std.proofs.lemmas.List.{take_all}
use Rattle.lw_top.specs.HelpTexts.{command_line}
use Rattle.lw_top.specs.Syntaxes.{syntax_values}
use Rattle.lw_top.proofs.PageLemmas.{mapped}
use Rattle.lw_top.proofs.help.push_commands.Goals as goal

pub returns : goal.returns
returns c =
    c.loop-syntax.invariant
    ∙ (ap (λ es. string_bytes c.args.text.now ++ flat_map (λ s. command_line (syntax_values s.now)) es) (take_all c.loop-syntax.syntax-index c.args.list.now c.loop-syntax-test.false)
    ∙ ap (λ (t : List ℕ). string_bytes c.args.text.now ++ t) (mapped command_line (λ s. syntax_values s.now) c.args.list.now))
