-- What comes of asking one word again, and of asking words up to the first that comes out otherwise.
use Rattle.std.specs.Prelude.{◌≡◌, ℕ, ◌<◌, List, [], ◌∷◌, ◌++◌, length, take, Option, Some, None, Result, Ok, Err}
use Rattle.std.specs.List.{All}
use Rattle.lw_words.specs.Word.{answer_at, answers_of, named}
use Rattle.lw_words.specs.declared.kept.KeptAnswer.{KeptAnswer}
use Rattle.lw_words.specs.declared.stop.RunStop.{RunStop}
use Rattle.lw_mealy.specs.Machine.{Rows}
use Rattle.lw_names.specs.Names.{IsGrown}
use Rattle.lw_sul.specs.SessionState.{run_of}
use Rattle.lw_sul.specs.Told.{Answers}
use Rattle.lw_sul.specs.declared.runs.Run.{Run}
use Rattle.lw_recheck.specs.Again.{AreAgain, NamesDifferAt}
use Rattle.lw_recheck.specs.declared.asking.Other.{Other}

-- a word's run was finished with these outputs; names may have come
pub record GainsRun (machine : Option Rows) (w outs : List ℕ) (names_before names : List (List ℕ)) (runs_before runs : List Run) : Type 0 where
  pub journal : runs ≡ runs_before ++ run_of w outs ∷ []
  pub even : length outs ≡ length w
  pub below : All (λ y. y < length names) outs
  pub given : Answers machine w outs
  pub grown : IsGrown names_before names

-- a run gave an answer again
pub record GainsAgain (machine : Option Rows) (outputs : List (List ℕ)) (k : KeptAnswer) (names_before names : List (List ℕ)) (runs_before runs : List Run) : Type 0 where
  pub outs : List ℕ
  pub gains : GainsRun machine k.word outs names_before names runs_before runs
  pub same : named names outs ≡ named outputs k.outs

-- a run came out otherwise, at this place first
pub record GainsOther (machine : Option Rows) (outputs : List (List ℕ)) (k : KeptAnswer) (names_before names : List (List ℕ)) (runs_before runs : List Run) (place : ℕ) (outs : List ℕ) : Type 0 where
  pub gains : GainsRun machine k.word outs names_before names runs_before runs
  pub differs : NamesDifferAt (named outputs k.outs) (named names outs) place

abbrev pub GainsOne : (machine : Option Rows) (outputs : List (List ℕ)) (number : ℕ) (k : KeptAnswer) (names_before names : List (List ℕ)) (runs_before runs : List Run) → Option Other → Type 0
GainsOne machine outputs number k names_before names runs_before runs None = GainsAgain machine outputs k names_before names runs_before runs
GainsOne machine outputs number k names_before names runs_before runs (Some other) =
    (other.number ≡ number) × GainsOther machine outputs k names_before names runs_before runs other.place other.outs

-- the answers before one were given again, and the run of its word came out otherwise
pub record FindsOther (machine : Option Rows) (outputs : List (List ℕ)) (answers : List KeptAnswer) (names : List (List ℕ)) (runs : List Run) (other : Other) : Type 0 where
  pub front : List Run
  pub within : other.number < length answers
  pub count : other.number ≡ length front
  pub are : AreAgain machine outputs (take other.number answers) names front
  pub journal : runs ≡ front ++ run_of (answer_at (answers_of answers) other.number).word other.outs ∷ []
  pub even : length other.outs ≡ length (answer_at (answers_of answers) other.number).word
  pub below : All (λ y. y < length names) other.outs
  pub given : Answers machine (answer_at (answers_of answers) other.number).word other.outs
  pub differs : NamesDifferAt (named outputs (answer_at (answers_of answers) other.number).outs) (named names other.outs) other.place

-- the answers before the number of runs were given again
pub record HasGone (machine : Option Rows) (outputs : List (List ℕ)) (answers : List KeptAnswer) (names : List (List ℕ)) (runs : List Run) : Type 0 where
  pub some : length runs < length answers
  pub are : AreAgain machine outputs (take (length runs) answers) names runs

-- all answers were given again, or one came out otherwise, or it stopped
abbrev pub HasFound : (machine : Option Rows) (outputs : List (List ℕ)) (answers : List KeptAnswer) (names : List (List ℕ)) (runs : List Run) → Result (Option Other) RunStop → Type 0
HasFound machine outputs answers names runs (Ok None) = AreAgain machine outputs answers names runs
HasFound machine outputs answers names runs (Ok (Some other)) = FindsOther machine outputs answers names runs other
HasFound machine outputs answers names runs (Err why) = HasGone machine outputs answers names runs

-- a run that came out otherwise is kept behind the answers, by names that begin with theirs
pub record KeepsOther (outputs names : List (List ℕ)) (answers : List KeptAnswer) (other : Other) (shown : List (List ℕ)) (kept : List KeptAnswer) : Type 0 where
  pub outs : List ℕ
  pub grown : IsGrown outputs shown
  pub below : All (λ y. y < length shown) outs
  pub shown_is : named shown outs ≡ named names other.outs
  pub kept_is : kept ≡ answers ++ record { instance = 0; run = other.number; word = (answer_at (answers_of answers) other.number).word; outs = outs } ∷ []
