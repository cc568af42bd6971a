-- What comes of asking words one after the other in a session that was asked nothing before.
use Rattle.std.specs.Prelude.{◌≡◌, ◌⊎◌, ℕ, ◌+◌, ◌<◌, ◌≤◌, List, [], ◌∷◌, ◌++◌, length, map, take, Option, Result, Err, IfErr, OnOk}
use Rattle.std.specs.List.{All}
use Rattle.lw_words.specs.Cause.{CountedFault}
use Rattle.lw_words.specs.declared.kept.KeptAnswer.{KeptAnswer}
use Rattle.lw_mealy.specs.Machine.{Rows}
use Rattle.lw_sul.specs.Told.{Answers}
use Rattle.lw_sul.specs.declared.runs.Run.{Run}
use Rattle.lw_outside.specs.Streams.{TakesAll, TakesSome, SinkState}
use Rattle.lw_ask.specs.Lines.{answer_line, answer_lines}
use Rattle.lw_ask.specs.declared.stop.AskingStop.{AskingStop}
use Rattle.lw_ask.specs.declared.stop.AskingStop.TheVariants.{Sul, Sink, NoMemory}

-- the answer that is kept of a run, the n-th of the instance 0
abbrev pub kept_run : ℕ → Run → KeptAnswer
kept_run n r = record { instance = 0; run = n; word = r.word; outs = r.outs }

-- the answers that are kept of runs, which are numbered from n on
abbrev pub kept_from : ℕ → List Run → List KeptAnswer
kept_from n [] = []
kept_from n (r ∷ rs) = kept_run n r ∷ kept_from (n + 1) rs

-- the words of runs
abbrev pub words_in : List Run → List (List ℕ)
words_in runs = map (λ r. r.word) runs

-- runs of these words in their order, and what is kept of them: of a machine where that is observed, with outputs that
-- have names
pub record AreRunsOf (machine : Option Rows) (words names : List (List ℕ)) (runs : List Run) (kept : List KeptAnswer) : Type 0 where
  pub words_are : words_in runs ≡ words
  pub kept_is : kept ≡ kept_from 0 runs
  pub below : All (λ k. All (λ y. y < length names) k.outs) kept
  pub given : All (λ r. Answers machine r.word r.outs) runs

-- all words were asked, and the line of each answer was taken
pub record HasAsked (machine : Option Rows) (letters words names : List (List ℕ)) (runs : List Run) (kept : List KeptAnswer) (before now : Option (List ℕ)) : Type 0 where
  pub are : AreRunsOf machine words names runs kept
  pub lines : TakesAll (answer_lines letters names kept) before now

-- the lines of the answers were taken, but that of the last one only in part
pub record LacksLast (letters names : List (List ℕ)) (kept : List KeptAnswer) (before now : Option (List ℕ)) : Type 0 where
  pub front : List KeptAnswer
  pub last : KeptAnswer
  pub both : kept ≡ front ++ last ∷ []
  pub between : Option (List ℕ)
  pub whole : TakesAll (answer_lines letters names front) before between
  pub part : TakesSome (answer_line letters names last) between now

-- the lines that were taken, by why no more words were asked: those of all answers; but where the stream refused one or there
-- was no memory for it, that of the last one only in part
abbrev pub TakesLines : (letters names : List (List ℕ)) → List KeptAnswer → (before now : Option (List ℕ)) → AskingStop → Type 0
TakesLines letters names kept before now (Sul stop) = TakesAll (answer_lines letters names kept) before now
TakesLines letters names kept before now Sink = LacksLast letters names kept before now
TakesLines letters names kept before now NoMemory = TakesAll (answer_lines letters names kept) before now ⊎ LacksLast letters names kept before now

-- how many of the words were answered, by why no more were: where the system stopped, it left one without an answer
abbrev pub LeavesWords : (answered all : ℕ) → AskingStop → Type 0
LeavesWords answered all (Sul stop) = answered < all
LeavesWords answered all Sink = answered ≤ all
LeavesWords answered all NoMemory = answered ≤ all

-- the first words were asked, and then no more, for this cause
pub record HasStopped (machine : Option Rows) (letters words names : List (List ℕ)) (runs : List Run) (kept : List KeptAnswer) (before now : Option (List ℕ)) (stop : AskingStop) : Type 0 where
  pub some : LeavesWords (length runs) (length words) stop
  pub are : AreRunsOf machine (take (length runs) words) names runs kept
  pub lines : TakesLines letters names kept before now stop

-- words were asked, all of them or up to where it stopped, over `out`
pub record HasPut (machine : Option Rows) (letters words names : List (List ℕ)) (runs : List Run) (kept : List KeptAnswer) (out_before out_now : SinkState) (came : Result (Unit {0}) AskingStop) : Type 0 where
  pub all : OnOk came (HasAsked machine letters words names runs kept out_before.taken out_now.taken)
  pub some : IfErr came (HasStopped machine letters words names runs kept out_before.taken out_now.taken)
  pub refused : came ≡ Err Sink → CountedFault out_before.faults out_now.faults
  pub quiet : ¬ (came ≡ Err Sink) → out_now.faults ≡ out_before.faults
