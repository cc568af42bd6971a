-- The line that is told behind the usage: why no command takes the arguments.
use Rattle.std.specs.Prelude.{ℕ, List, [], ◌∷◌, ◌++◌, codes, Option, Some, None}
use Rattle.lw_top.specs.Given.{givens}
use Rattle.lw_top.specs.HelpCommand.{syntax_named}
use Rattle.lw_top.specs.Reasons.{reason_by, unknown_command}
use Rattle.lw_top.specs.Syntaxes.{SyntaxValues}

abbrev pub reason_for : Option SyntaxValues → (name : List ℕ) → (words : List (List ℕ)) → List ℕ
reason_for (Some s) name words = reason_by s (givens s.entries words)
reason_for None name words = unknown_command name

-- the first of the arguments names the command
abbrev pub told_reason : List (List ℕ) → List ℕ
told_reason [] = codes "no command, or an argument that is no text"
told_reason (name ∷ words) = reason_for (syntax_named name) name words

abbrev pub reason_line : List (List ℕ) → List ℕ
reason_line words = told_reason words ++ codes "\n"
