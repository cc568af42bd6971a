use Rattle.std.proofs.Common.{◌≡◌, ◌∙◌, ◌++◌, ℕ, List, ap, string_bytes}
use Rattle.std.specs.List.{flat_map}
use Rattle.std.proofs.lemmas.List.{take_all}
use Rattle.lw_top.specs.HelpTexts.{argument_line}
use Rattle.lw_top.specs.Syntaxes.{entry_values}
use Rattle.lw_top.specs.declared.options.Entry.{Entry}
use Rattle.lw_top.proofs.PageLemmas.{mapped}
use Rattle.lw_top.proofs.pages.push_arguments.Goals as goal

pub returns : goal.returns
returns c =
    c.loop-entry.invariant
    ∙ (ap (λ (es : List Entry). string_bytes c.args.text.now ++ flat_map (λ e. argument_line (entry_values e)) es) (take_all c.loop-entry.entry-index c.args.entries.now c.loop-entry-test.false)
    ∙ ap (λ (t : List ℕ). string_bytes c.args.text.now ++ t) (mapped argument_line entry_values c.args.entries.now))
