-- The command `check` as clap sees it, and what arguments that it takes say.
use Rattle.std.specs.Prelude.{ℕ, List, [], ◌∷◌, codes, string_bytes, Option, Some, None, option_and_then, false}
use Rattle.clap.specs.Words.{App, Row, first_of}
use Rattle.lw_chunks.specs.declared.method.Method.{Method}
use Rattle.lw_check.specs.declared.arguments.CheckArguments.{CheckArguments}
use Rattle.lw_system.specs.declared.goal.Goal.{Goal}
use Rattle.lw_system.specs.declared.goal.Goal.TheVariants.{Machine, Acceptor}
use Rattle.lw_top.specs.CommandLine.{app_by, method_named, number_given, values_taken}
use Rattle.lw_top.specs.Syntaxes.{Optional, SyntaxValues, Text, entry, extra_entry, suite_entry}
use Rattle.lw_top.specs.declared.ranges.TheConstants.{EXTRA}

-- the values of the arguments of `check`: whether the model file is a machine's or an acceptor's, the model file, the answers
-- file, the extra states and how suites are made
pub record CheckValues : Type 0 where
  pub goal : Goal
  pub model : List ℕ
  pub answers : List ℕ
  pub extra : ℕ
  pub suite : Method

-- the values of arguments that were read
abbrev pub check_read : CheckArguments → CheckValues
check_read a = record { goal = a.goal; model = string_bytes a.model; answers = string_bytes a.answers; extra = a.extra; suite = a.suite }

-- check (MODEL | --acceptor FILE) ANSWERS [--extra K] [--suite w|wp|h]
abbrev pub check_syntax : SyntaxValues
check_syntax = record {
  command = codes "check";
  about = codes "says whether answers fix a model, or why not";
  entries =
      entry (Optional (codes "first")) (codes "(MODEL | --acceptor FILE)") (codes "the file of the model")
      ∷ entry (Optional (codes "second")) (codes "ANSWERS") (codes "the file of the answers")
      ∷ entry (Text (codes "acceptor")) (codes "FILE") (codes "the file of an acceptor in place of the model")
      ∷ extra_entry
      ∷ suite_entry
      ∷ [];
  texts = codes "MODEL" ∷ codes "ANSWERS" ∷ [];
  takes_more = false;
  in_place = codes "acceptor" ∷ [];
  together = [];
  instead = [];
  either = [];
}

-- as clap sees it
abbrev pub check_app : App
check_app = app_by check_syntax

-- the two files, and whether the first is an acceptor's
pub record CheckedFiles : Type 0 where
  pub goal : Goal
  pub model : List ℕ
  pub answers : List ℕ

-- a model and answers, or an acceptor by its option and answers
abbrev pub checked_files : (acceptor first second : Option (List ℕ)) → Option CheckedFiles
checked_files None (Some model) (Some answers) = Some (record { goal = Machine; model = model; answers = answers })
checked_files (Some acceptor) (Some answers) None = Some (record { goal = Acceptor; model = acceptor; answers = answers })
checked_files None None second = None
checked_files None (Some model) None = None
checked_files (Some acceptor) None second = None
checked_files (Some acceptor) (Some answers) (Some second) = None

-- the values, where all are given, and suites are made by a method
abbrev pub check_values_from : Option CheckedFiles → Option ℕ → Option Method → Option CheckValues
check_values_from None extra suite = None
check_values_from (Some files) None suite = None
check_values_from (Some files) (Some extra) None = None
check_values_from (Some files) (Some extra) (Some suite) = Some (record { goal = files.goal; model = files.model; answers = files.answers; extra = extra; suite = suite })

abbrev pub checked_in : List Row → Option CheckedFiles
checked_in rows = checked_files (first_of (codes "acceptor") rows) (first_of (codes "first") rows) (first_of (codes "second") rows)

abbrev pub check_found : List Row → Option CheckValues
check_found rows = check_values_from (checked_in rows) (number_given (codes "extra") EXTRA rows) (option_and_then method_named (first_of (codes "suite") rows))

-- what the arguments say to `check`, where they are taken
abbrev pub check_values : List (List ℕ) → Option CheckValues
check_values = values_taken check_app check_found
