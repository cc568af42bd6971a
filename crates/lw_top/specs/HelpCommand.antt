-- The command `help` as clap sees it, and the text that arguments which it takes ask for.
use Rattle.std.specs.Prelude.{ℕ, List, [], ◌∷◌, codes, false, find, Option, Some, None, option_map}
use Rattle.std.specs.List.{flat_map}
use Rattle.std.specs.Str.{bytes_eq}
use Rattle.clap.specs.Words.{App, Row, first_of}
use Rattle.lw_top.specs.AcceptCommand.{accept_syntax}
use Rattle.lw_top.specs.AskCommand.{ask_syntax}
use Rattle.lw_top.specs.CheckCommand.{check_syntax}
use Rattle.lw_top.specs.CommandLine.{app_by, values_taken}
use Rattle.lw_top.specs.CompareCommand.{compare_syntax}
use Rattle.lw_top.specs.HelpTexts.{command_line, help_text}
use Rattle.lw_top.specs.LearnCommand.{learn_syntax}
use Rattle.lw_top.specs.RecheckCommand.{recheck_syntax}
use Rattle.lw_top.specs.ServeCommand.{serve_syntax}
use Rattle.lw_top.specs.Syntaxes.{Optional, SyntaxValues, entry, syntax_values}
use Rattle.lw_top.specs.TrialCommand.{trial_syntax}
use Rattle.lw_top.specs.declared.arguments.help.Topic.{Topic}
use Rattle.lw_top.specs.declared.arguments.help.Topic.TheVariants as topic

-- help [COMMAND]
abbrev pub help_syntax : SyntaxValues
help_syntax = record {
  command = codes "help";
  about = codes "lists the commands, or the arguments of one";
  entries =
      entry (Optional (codes "command")) (codes "[COMMAND]") (codes "the command whose arguments are listed")
      ∷ [];
  texts = codes "COMMAND" ∷ [];
  takes_more = false;
  in_place = [];
  together = [];
  instead = [];
  either = [];
}

-- as clap sees it
abbrev pub help_app : App
help_app = app_by help_syntax

abbrev pub commands : List SyntaxValues
commands = learn_syntax ∷ accept_syntax ∷ ask_syntax ∷ recheck_syntax ∷ check_syntax ∷ compare_syntax ∷ serve_syntax ∷ trial_syntax ∷ help_syntax ∷ []

-- the command of this name
abbrev pub syntax_named : List ℕ → Option SyntaxValues
syntax_named name = find (λ s. bytes_eq s.command name) commands

-- all commands, a line each
abbrev pub overview : List ℕ
overview = flat_map command_line commands

-- the commands, or all of the one that is named
abbrev pub page_for : Option (List ℕ) → Option (List ℕ)
page_for None = Some overview
page_for (Some name) = option_map help_text (syntax_named name)

abbrev pub help_found : List Row → Option (List ℕ)
help_found rows = page_for (first_of (codes "command") rows)

-- the text that the arguments ask `help` for, where they are taken
abbrev pub help_values : List (List ℕ) → Option (List ℕ)
help_values = values_taken help_app help_found

-- the same of what was read
abbrev pub topic_text : Topic → List ℕ
topic_text topic.All = overview
topic_text (topic.One syntax) = help_text (syntax_values syntax.now)
