-- What is kept of a learning over children: the runs that went over their links.
use Rattle.std.specs.Prelude.{◌≡◌, ◌⊎◌, ℕ, ◌<◌, List, ◌++◌, length, slice_index_or, Bool, Option, Some, None}
use Rattle.std.specs.List.{All, range_with_len}
use Rattle.lw_words.specs.Word.{AreAnswers, answers_of}
use Rattle.lw_words.specs.declared.kept.KeptAnswer.{KeptAnswer}
use Rattle.lw_sul.specs.declared.runs.Run.{Run}
use Rattle.lw_outside.specs.Links.{LinkState, Transcript}
use Rattle.lw_desk.specs.Ending.{kept_runs}
use Rattle.lw_pool.specs.Pool.{AskedOnce, journal_runs}
use Rattle.lw_line.specs.Transcripts.{BreaksIn, IsProper, SpellsAll, spelled}
use Rattle.lw_system.specs.NewLines.{most_outputs_of}
use Rattle.lw_system.specs.Told.{AreFinished, AreOwn, IsBroken}
use Rattle.lw_workers.specs.Machines.{run_numbers}

-- the recorded answers of an instance are the runs that the transcript of its link spells, by the names of their
-- outputs and numbered from 0: all of them, where all that was sent is lines of these runs, or where the link broke in
-- a reset; where it broke in a step, all but the last one, which that cut off
pub record KeepsTranscript (letters : List (List ℕ)) (outputs : Option (List (List ℕ))) (names : List (List ℕ)) (instance : ℕ) (since : List KeptAnswer) (link : LinkState) (t : Transcript) : Type 0 where
  pub proper : IsProper letters link.faults t
  -- the names of the child's outputs, in the order in which they came where they weren't declared
  pub own : List (List ℕ)
  pub owns : AreOwn outputs own t
  pub runs : List Run
  pub kept : kept_runs names instance since ≡ journal_runs own 0 runs
  pub ends :
      (SpellsAll letters own t × (spelled letters own t ≡ runs))
      ⊎ (IsBroken own (most_outputs_of outputs) link t × ((cut : Bool) × BreaksIn letters own link.faults cut t × AreFinished cut (spelled letters own t) runs))

abbrev pub KeepsTold : List (List ℕ) → Option (List (List ℕ)) → List (List ℕ) → ℕ → List KeptAnswer → LinkState → Option Transcript → Type 0
KeepsTold letters outputs names instance since link None = Unit {0}
KeepsTold letters outputs names instance since link (Some t) = KeepsTranscript letters outputs names instance since link t

-- nothing of a transcript is left out: the recorded answers of its instance are all the runs that it spells, and all
-- that was sent is lines of these runs
pub record KeepsWhole (letters : List (List ℕ)) (outputs : Option (List (List ℕ))) (names : List (List ℕ)) (instance : ℕ) (since : List KeptAnswer) (t : Transcript) : Type 0 where
  pub own : List (List ℕ)
  pub owns : AreOwn outputs own t
  pub kept : kept_runs names instance since ≡ journal_runs own 0 (spelled letters own t)
  pub covered : SpellsAll letters own t

-- the recorded answers are the prior ones and then, for each link, the runs of its transcript, where that is observed;
-- the runs of each instance are 0, 1, 2 and so on, observed or not; the word of none was known when it was asked
pub record KeepsChildren (letters : List (List ℕ)) (outputs : Option (List (List ℕ))) (names : List (List ℕ)) (prior kept : List KeptAnswer) (links : List LinkState) : Type 0 where
  pub since : List KeptAnswer
  pub first : kept ≡ prior ++ since
  pub instances : All (λ k. k.instance < length links) since
  pub numbered : (i : ℕ) → i < length links →
      run_numbers i since ≡ range_with_len 0 (length (run_numbers i since))
  pub runs : (i : ℕ) (d : LinkState) → i < length links →
      let link = slice_index_or links i d in KeepsTold letters outputs names i since link
      link.transcript
  pub words : AreAnswers (length letters) (answers_of kept)
  pub below : All (λ k. All (λ y. y < length names) k.outs) kept
  pub once : AskedOnce prior kept
