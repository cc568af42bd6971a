-- What comes of asking one word more.
use Rattle.std.specs.Prelude.{◌≡◌, ◌⊎◌, ℕ, ◌<◌, List, [], ◌∷◌, ◌++◌, length, Option}
use Rattle.std.specs.List.{All}
use Rattle.lw_words.specs.declared.kept.KeptAnswer.{KeptAnswer}
use Rattle.lw_mealy.specs.Machine.{Rows}
use Rattle.lw_names.specs.Names.{IsGrown}
use Rattle.lw_sul.specs.SessionState.{run_of}
use Rattle.lw_sul.specs.Told.{Answers}
use Rattle.lw_sul.specs.declared.runs.Run.{Run}
use Rattle.lw_outside.specs.Streams.{TakesAll, TakesSome}
use Rattle.lw_ask.specs.Asking.{kept_run}
use Rattle.lw_ask.specs.Lines.{line_of}
use Rattle.lw_ask.specs.declared.stop.AskingStop.{AskingStop}
use Rattle.lw_ask.specs.declared.stop.AskingStop.TheVariants.{Sul, Sink, NoMemory}

-- a word's run was finished with these outputs and kept; names may have come
pub record GainsRun (machine : Option Rows) (w outs : List ℕ) (names_before names : List (List ℕ)) (runs_before runs : List Run) (kept_before kept : List KeptAnswer) : Type 0 where
  pub journal : runs ≡ runs_before ++ run_of w outs ∷ []
  pub keeps : kept ≡ kept_before ++ kept_run (length runs_before) (run_of w outs) ∷ []
  pub below : All (λ y. y < length names) outs
  pub given : Answers machine w outs
  pub grown : IsGrown names_before names

-- and its line was taken
pub record GainsLine (machine : Option Rows) (letters : List (List ℕ)) (w : List ℕ) (names_before names : List (List ℕ)) (runs_before runs : List Run) (kept_before kept : List KeptAnswer) (before now : Option (List ℕ)) : Type 0 where
  pub outs : List ℕ
  pub gains : GainsRun machine w outs names_before names runs_before runs kept_before kept
  pub line : TakesAll (line_of letters names w outs) before now

-- or only a prefix of its line
pub record GainsPart (machine : Option Rows) (letters : List (List ℕ)) (w : List ℕ) (names_before names : List (List ℕ)) (runs_before runs : List Run) (kept_before kept : List KeptAnswer) (before now : Option (List ℕ)) : Type 0 where
  pub outs : List ℕ
  pub gains : GainsRun machine w outs names_before names runs_before runs kept_before kept
  pub part : TakesSome (line_of letters names w outs) before now

-- no run was finished
pub record GainsNone (names_before names : List (List ℕ)) (runs_before runs : List Run) (kept_before kept : List KeptAnswer) (before now : Option (List ℕ)) : Type 0 where
  pub journal : runs ≡ runs_before
  pub keeps : kept ≡ kept_before
  pub grown : IsGrown names_before names
  pub untaken : now ≡ before

-- a word was not answered, or its line not taken whole, by why
abbrev pub StopsOne : (machine : Option Rows) (letters : List (List ℕ)) (w : List ℕ) (names_before names : List (List ℕ)) (runs_before runs : List Run) (kept_before kept : List KeptAnswer) (before now : Option (List ℕ)) → AskingStop → Type 0
StopsOne machine letters w names_before names runs_before runs kept_before kept before now (Sul stop) = GainsNone names_before names runs_before runs kept_before kept before now
StopsOne machine letters w names_before names runs_before runs kept_before kept before now Sink = GainsPart machine letters w names_before names runs_before runs kept_before kept before now
StopsOne machine letters w names_before names runs_before runs kept_before kept before now NoMemory =
    GainsNone names_before names runs_before runs kept_before kept before now ⊎ GainsPart machine letters w names_before names runs_before runs kept_before kept before now
