-- What comes of a learning of a machine that stands in for a system, by instances of it.
use Rattle.std.specs.Prelude.{◌≡◌, ℕ, ◌<◌, ◌≤◌, ◌==◌, List, ◌++◌, length, map, filter, Result, Ok, Err}
use Rattle.std.specs.List.{All, range_with_len}
use Rattle.lw_words.specs.Word.{AreAnswers, answers_of, IsWord}
use Rattle.lw_words.specs.declared.kept.KeptAnswer.{KeptAnswer}
use Rattle.lw_mealy.specs.Machine.{Gives, MealyMachine, Rows, IsMachine}
use Rattle.lw_cache.specs.FirstClash.{IsFirstClash}
use Rattle.lw_cache.specs.declared.stops.AskStop.TheVariants as ask
use Rattle.lw_pool.specs.Pool.{AskedOnce}
use Rattle.lw_chunks.specs.Size.{suite_size, greatest_suite}
use Rattle.lw_rounds.specs.Learner.{refinements_of}
use Rattle.lw_rounds.specs.declared.learned.Learned.{Learned}
use Rattle.lw_rounds.specs.declared.stops.LearnStop.{LearnStop}
use Rattle.lw_rounds.specs.declared.stops.LearnStop.TheVariants as learn

-- the numbers of an instance's runs, in the order in which their answers are kept
abbrev pub run_numbers : ℕ → List KeptAnswer → List ℕ
run_numbers instance kept = map (λ k. k.run) (filter (λ k. k.instance == instance) kept)

-- the recorded answers are first the prior ones, as they were, and since then runs of a machine's instances, of which
-- there are this many: those of each instance are its runs 0, 1, 2 and so on; each is the machine's answer to a word
-- over its inputs; and the word of none was known when it was asked
pub record KeepsRuns (t : MealyMachine) (instances : ℕ) (prior kept : List KeptAnswer) : Type 0 where
  pub since : List KeptAnswer
  pub first : kept ≡ prior ++ since
  pub instances_are : All (λ k. k.instance < instances) since
  pub numbered : (i : ℕ) → i < instances → run_numbers i since ≡ range_with_len 0 (length (run_numbers i since))
  pub words : AreAnswers t.inputs (answers_of kept)
  pub outputs : All (λ k. IsWord t.outputs k.outs) kept
  pub gives : Gives t.rows (answers_of since)
  pub once : AskedOnce prior kept

-- why a learning of a machine stopped, by the recorded answers: no instance stops; a clash is that of the first two of
-- them that no one machine agrees with, which takes a prior answer that isn't the machine's
abbrev pub IsMachineStop : List KeptAnswer → LearnStop → Type 0
IsMachineStop kept (learn.Ask (ask.Sul instance stop)) = ⊥
IsMachineStop kept (learn.Ask (ask.Clash c)) = IsFirstClash (answers_of kept) c
IsMachineStop kept (learn.Ask ask.NoMemory) = Unit {0}
IsMachineStop kept (learn.Crowd words) = Unit {0}
IsMachineStop kept (learn.TooLarge model number) = Unit {0}

-- a model comes, of a learner that was refined fewer times than n, or memory runs out
abbrev pub IsReached : ℕ → Result Learned LearnStop → Type 0
IsReached n (Ok l) = refinements_of l.learner < n
IsReached n (Err (learn.Ask stop)) = stop ≡ ask.NoMemory
IsReached n (Err (learn.Crowd words)) = ⊥
IsReached n (Err (learn.TooLarge model number)) = ⊥

-- the limits hold for some machine that agrees with the answers: it has no more states than there may be, and its suite
-- is not too large
pub record IsWithin (a k most : ℕ) (m : Rows) : Type 0 where
  pub machine : IsMachine a m
  pub few : length m ≤ most
  pub small : suite_size (length m) a k ≤ greatest_suite
