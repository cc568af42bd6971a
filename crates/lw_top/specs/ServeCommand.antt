-- The command `serve` as clap sees it, and what arguments that it takes say.
use Rattle.std.specs.Prelude.{ℕ, List, [], ◌∷◌, codes, Option, false}
use Rattle.clap.specs.Words.{App, first_of}
use Rattle.lw_top.specs.CommandLine.{app_by, values_taken}
use Rattle.lw_top.specs.Syntaxes.{Required, SyntaxValues, entry}

-- serve MODEL
abbrev pub serve_syntax : SyntaxValues
serve_syntax = record {
  command = codes "serve";
  about = codes "plays a machine as a program that answers lines";
  entries =
      entry (Required (codes "model")) (codes "MODEL") (codes "the file of the machine")
      ∷ [];
  texts = codes "MODEL" ∷ [];
  takes_more = false;
  in_place = [];
  together = [];
  instead = [];
  either = [];
}

-- as clap sees it
abbrev pub serve_app : App
serve_app = app_by serve_syntax

-- the model file that the arguments name to `serve`, where they are taken
abbrev pub serve_values : List (List ℕ) → Option (List ℕ)
serve_values = values_taken serve_app (first_of (codes "model"))
