-- What comes of asking the words of answers again, in a session that was asked nothing before. The outputs of the answers and
-- those of the runs are numbered by names of their own, and are compared by these.
use Rattle.std.specs.Prelude.{◌≡◌, ℕ, ◌<◌, ◌≤◌, List, [], ◌∷◌, ◌++◌, length, map, take, Option, Some, None, Result, Ok, Err, ◌≢◌, slice_index_or}
use Rattle.std.specs.List.{All}
use Rattle.lw_words.specs.Word.{answer_at, answers_of, Answer, IsNames, named}
use Rattle.lw_words.specs.declared.kept.KeptAnswer.{KeptAnswer}
use Rattle.lw_words.specs.declared.stop.RunStop.{RunStop}
use Rattle.lw_words.specs.declared.stop.RunStop.TheVariants.{Sul}
use Rattle.lw_words.specs.declared.stop.SulStop.{SulStop}
use Rattle.lw_cache.specs.Clash.{ClashAt}
use Rattle.lw_cache.specs.declared.stops.Clash.{Clash}
use Rattle.lw_mealy.specs.Machine.{Rows}
use Rattle.lw_names.specs.Names.{IsGrown}
use Rattle.lw_sul.specs.Told.{Answers}
use Rattle.lw_sul.specs.declared.runs.Run.{Run}

-- a word with its outputs by their names
pub record SaidRun : Type 0 where
  pub word : List ℕ
  pub outs : List (List ℕ)

abbrev pub run_in_names : (names : List (List ℕ)) → (word outs : List ℕ) → SaidRun
run_in_names names word outs = record { word = word; outs = named names outs }

abbrev pub said_runs : (names : List (List ℕ)) → List Run → List SaidRun
said_runs names runs = map (λ r. run_in_names names r.word r.outs) runs

abbrev pub said_answers : (names : List (List ℕ)) → List KeptAnswer → List SaidRun
said_answers names kept = map (λ k. run_in_names names k.word k.outs) kept

-- runs that give these answers again, each of them and in their order: of a machine where that is observed, with
-- outputs that have names
pub record AreAgain (machine : Option Rows) (outputs : List (List ℕ)) (answers : List KeptAnswer) (names : List (List ℕ)) (runs : List Run) : Type 0 where
  pub same : said_runs names runs ≡ said_answers outputs answers
  pub below : All (λ r. All (λ y. y < length names) r.outs) runs
  pub given : All (λ r. Answers machine r.word r.outs) runs

-- each answer was given again, and nothing more is kept
pub record AllAgain (machine : Option Rows) (outputs : List (List ℕ)) (answers : List KeptAnswer) (names : List (List ℕ)) (runs : List Run) (kept : List KeptAnswer) : Type 0 where
  pub are : AreAgain machine outputs answers names runs
  pub kept_is : kept ≡ answers

-- the names at a place are the first that differ
pub record NamesDifferAt (first second : List (List ℕ)) (place : ℕ) : Type 0 where
  pub within : place < length first
  pub other : place < length second
  pub before : take place first ≡ take place second
  pub here : slice_index_or first place [] ≢ slice_index_or second place []

-- a run of an answer's word whose outputs have other names than the answer's, at this place first
pub record IsOtherwise (machine : Option Rows) (outputs : List (List ℕ)) (k : Answer) (names : List (List ℕ)) (run : Run) (place : ℕ) : Type 0 where
  pub word : run.word ≡ k.word
  pub below : All (λ y. y < length names) run.outs
  pub given : Answers machine run.word run.outs
  pub differs : NamesDifferAt (named outputs k.outs) (named names run.outs) place

-- the answers before one were given again, and the run of its word came out otherwise, which is kept behind all answers as the
-- instance 0's: its outputs by the numbers that their names have in the answers' list, or behind it
pub record ComesOtherwise (machine : Option Rows) (outputs : List (List ℕ)) (answers : List KeptAnswer) (names : List (List ℕ)) (runs : List Run) (shown : List (List ℕ)) (kept : List KeptAnswer) (clash : Clash) : Type 0 where
  pub front : List Run
  pub last : Run
  pub both : runs ≡ front ++ last ∷ []
  pub within : clash.first < length answers
  pub count : clash.first ≡ length front
  pub are : AreAgain machine outputs (take clash.first answers) names front
  pub otherwise : IsOtherwise machine outputs (answer_at (answers_of answers) clash.first) names
      last clash.place
  pub grown : IsGrown outputs shown
  pub distinct : IsNames shown
  pub outs : List ℕ
  pub below : All (λ y. y < length shown) outs
  pub shown_is : named shown outs ≡ named names last.outs
  pub kept_is : kept ≡ answers ++ record {
    instance = 0;
    run = clash.first;
    word = last.word;
    outs =
        outs;
  } ∷ []
  pub second : clash.second ≡ length answers
  pub here : ClashAt (answer_at (answers_of answers) clash.first)
      (record { word = last.word; outs = outs }) clash.place

-- the first answers were given again, and then no more words were asked, or the run of the next one's word came out otherwise
-- and there was no memory to keep it; the answers are kept
pub record StopsAgain (machine : Option Rows) (outputs : List (List ℕ)) (answers : List KeptAnswer) (names : List (List ℕ)) (runs : List Run) (kept : List KeptAnswer) (why : RunStop) : Type 0 where
  pub front : List Run
  pub rest : List Run
  pub both : runs ≡ front ++ rest
  pub few : length rest ≤ 1
  pub none : (stop : SulStop) → why ≡ Sul stop → rest ≡ []
  pub unkept : (run : Run) → rest ≡ run ∷ [] → (place : ℕ) ×
      IsOtherwise machine outputs (answer_at (answers_of answers) (length front)) names run place
  pub some : length front < length answers
  pub are : AreAgain machine outputs (take (length front) answers) names front
  pub kept_is : kept ≡ answers

-- the words of answers were asked again: all, or up to the one whose run came out otherwise, or up to where it stopped
abbrev pub HasRechecked : (machine : Option Rows) (outputs : List (List ℕ)) (answers : List KeptAnswer) (names : List (List ℕ)) (runs : List Run) (shown : List (List ℕ)) (kept : List KeptAnswer) → Result (Option Clash) RunStop → Type 0
HasRechecked machine outputs answers names runs shown kept (Ok None) = AllAgain machine outputs answers names runs kept
HasRechecked machine outputs answers names runs shown kept (Ok (Some clash)) = ComesOtherwise machine outputs answers names runs shown kept clash
HasRechecked machine outputs answers names runs shown kept (Err why) = StopsAgain machine outputs answers names runs kept why
