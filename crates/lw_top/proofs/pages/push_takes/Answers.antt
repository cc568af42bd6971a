use Rattle.std.proofs.Common.{◌≡◌, ◌++◌, OnOk, string_bytes, subst, sym}
use Rattle.lw_top.specs.HelpTexts.{takes_text}
use Rattle.lw_top.specs.Syntaxes.{argument_values}
use Rattle.lw_top.specs.declared.options.Argument.{Argument}
use Rattle.lw_top.proofs.pages.push_takes.Goals as goal

pub returns-in-NumberOr : goal.returns-in-NumberOr
returns-in-NumberOr c =
    subst (λ (a : Argument). OnOk c.push_number-in-NumberOr.result (string_bytes c.push_number-in-NumberOr.new.text ≡ string_bytes c.args.text.now ++ takes_text (argument_values a))) (sym c.in-NumberOr.is) c.push_number-in-NumberOr.ensures
