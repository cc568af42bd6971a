-- Commands that are made of their arguments.
use Rattle.std.proofs.Common.{◌≡◌, ◌∙◌, ◌<◌, ◌+◌, ℕ, List, [], ◌∷◌, ◌++◌, get_or, length, map, take, sym, ap}
use Rattle.std.proofs.lemmas.List.{map_more}
use Rattle.clap.specs.Words.{App, Rule, with_rule}
use Rattle.lw_top.specs.CommandLine.{app_with, rule_of_argument}
use Rattle.lw_top.specs.declared.options.Entry.{Entry}

abbrev rule_of_entry : Entry → Rule
rule_of_entry e = rule_of_argument e.argument

-- a command with one argument more
pub one_more : (name : List ℕ) (entries : List Entry) (i : ℕ) (d : Entry) (rule : Rule) {before now : App} → i < length entries → rule ≡ rule_of_argument (get_or entries i d).argument → before ≡ app_with name (map (λ e. rule_of_argument e.argument) (take i entries)) → now ≡ with_rule before rule
    → now ≡ app_with name (map (λ e. rule_of_argument e.argument) (take (i + 1) entries))
one_more name entries i d rule within is was added =
    added
    ∙ (ap (λ app. with_rule app rule) was
    ∙ (ap (λ (r : Rule). app_with name (map rule_of_entry (take i entries) ++ r ∷ [])) is
    ∙ ap (λ (rules : List Rule). app_with name rules) (sym (map_more rule_of_entry entries i d within))))
