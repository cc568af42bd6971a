-- The command `compare` as clap sees it, and what arguments that it takes say.
use Rattle.std.specs.Prelude.{ℕ, List, [], ◌∷◌, codes, Option, false}
use Rattle.clap.specs.Words.{App, Row, first_of}
use Rattle.lw_top.specs.CommandLine.{app_by, values_taken}
use Rattle.lw_top.specs.Syntaxes.{Required, SyntaxValues, entry}
use Rattle.lw_top.specs.FilePairs.{PairValues, pair_from}

-- compare MODEL MODEL
abbrev pub compare_syntax : SyntaxValues
compare_syntax = record {
  command = codes "compare";
  about = codes "reports the least word on which two models differ";
  entries =
      entry (Required (codes "first")) (codes "MODEL") (codes "the file of the first model")
      ∷ entry (Required (codes "second")) (codes "MODEL") (codes "the file of the second model")
      ∷ [];
  texts = codes "MODEL" ∷ codes "MODEL" ∷ [];
  takes_more = false;
  in_place = [];
  together = [];
  instead = [];
  either = [];
}

-- as clap sees it
abbrev pub compare_app : App
compare_app = app_by compare_syntax

abbrev pub compare_found : List Row → Option PairValues
compare_found rows = pair_from (first_of (codes "first") rows) (first_of (codes "second") rows)

-- the files that the arguments name to `compare`, where they are taken
abbrev pub compare_values : List (List ℕ) → Option PairValues
compare_values = values_taken compare_app compare_found
