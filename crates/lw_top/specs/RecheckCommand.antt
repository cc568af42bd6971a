-- The command `recheck` as clap sees it, and what arguments that it takes say.
use Rattle.std.specs.Prelude.{ℕ, List, [], ◌∷◌, codes, Option, Some, None, false}
use Rattle.clap.specs.Words.{App, Row, first_of}
use Rattle.lw_recheck.specs.Arguments.{RecheckValues}
use Rattle.lw_top.specs.CommandLine.{app_by, values_taken}
use Rattle.lw_top.specs.Syntaxes.{Required, SyntaxValues, entry}

-- recheck SETUP ANSWERS
abbrev pub recheck_syntax : SyntaxValues
recheck_syntax = record {
  command = codes "recheck";
  about = codes "asks a program the words of recorded answers again";
  entries =
      entry (Required (codes "setup")) (codes "SETUP") (codes "the setup file of the program")
      ∷ entry (Required (codes "answers")) (codes "ANSWERS") (codes "the file of the answers")
      ∷ [];
  texts = codes "SETUP" ∷ codes "ANSWERS" ∷ [];
  takes_more = false;
  in_place = [];
  together = [];
  instead = [];
  either = [];
}

-- as clap sees it
abbrev pub recheck_app : App
recheck_app = app_by recheck_syntax

abbrev pub recheck_from : Option (List ℕ) → Option (List ℕ) → Option RecheckValues
recheck_from None answers = None
recheck_from (Some setup) None = None
recheck_from (Some setup) (Some answers) = Some (record { setup = setup; answers = answers })

abbrev pub recheck_found : List Row → Option RecheckValues
recheck_found rows = recheck_from (first_of (codes "setup") rows) (first_of (codes "answers") rows)

-- the files that the arguments name to `recheck`, where they are taken
abbrev pub recheck_values : List (List ℕ) → Option RecheckValues
recheck_values = values_taken recheck_app recheck_found
