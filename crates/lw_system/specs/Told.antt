-- What the record of a link says of its child: the names of its outputs, the runs that went over the link, and why it stopped.
use Rattle.std.specs.Prelude.{◌≡◌, ◌⊎◌, ℕ, ◌≤◌, List, [], ◌∷◌, ◌++◌, length, Bool, true, false, Option, Some, None}
use Rattle.std.specs.List.{All}
use Rattle.lw_words.specs.Cause.{CountedFault}
use Rattle.lw_words.specs.Word.{AllDiffer}
use Rattle.lw_words.specs.declared.stop.SulStop.{SulStop}
use Rattle.lw_words.specs.declared.stop.SulStop.TheVariants.{Failed, BadLine, Gone}
use Rattle.lw_outside.specs.Links.{LinkState, Transcript}
use Rattle.lw_line.specs.Causes.{EndsWithin, IsRefusedLine, IsToldName}
use Rattle.lw_line.specs.Transcripts.{BreaksIn, IsProper, SpellsAll, spelled}
use Rattle.lw_sul.specs.declared.runs.Run.{Run}
use Rattle.lw_system.specs.NewLines.{most_outputs_of}

-- the names of a child's outputs are those that were declared, or at most 256 different ones, each told by an answer to a letter
abbrev pub AreOwn : Option (List (List ℕ)) → List (List ℕ) → Transcript → Type 0
AreOwn None own t = (length own ≤ 256) × AllDiffer own × All (IsToldName t) own
AreOwn (Some names) own t = own ≡ names

-- the record of a link says why it was of no more use: it failed, it ended, or what came last over it was refused
abbrev pub IsBroken : (own : List (List ℕ)) (most : ℕ) → LinkState → Transcript → Type 0
IsBroken own most link t = CountedFault 0 link.faults ⊎ CountedFault 0 link.ends ⊎ ((line : List ℕ) × IsRefusedLine own most t line)

-- the finished ones of some runs: all of them, or, where a step cut the last one off, all before that
abbrev pub AreFinished : (cut : Bool) (runs finished : List Run) → Type 0
AreFinished false runs finished = runs ≡ finished
AreFinished true runs finished = (r : Run) × (runs ≡ finished ++ r ∷ [])

-- where the transcript of a link is observed, it is such a one
abbrev pub IfTold : (Transcript → Type 0) → Option Transcript → Type 0
IfTold P None = Unit {0}
IfTold P (Some t) = P t

-- what came last over a link is this bad line
abbrev pub HasRefused : Option (List (List ℕ)) → List ℕ → Transcript → Type 0
HasRefused outputs line t = (own : List (List ℕ)) × AreOwn outputs own t × IsRefusedLine own (most_outputs_of outputs) t line

-- why the child of an instance stopped, by the record of its link
abbrev pub IsStopped : Option (List (List ℕ)) → SulStop → LinkState → Type 0
IsStopped outputs Failed link = CountedFault 0 link.faults
IsStopped outputs Gone link = CountedFault 0 link.ends × IfTold EndsWithin link.transcript
IsStopped outputs (BadLine line) link = IfTold (HasRefused outputs line) link.transcript

-- the transcript of a link spells these runs by the names of their outputs: all that was sent is lines of them; or the link
-- broke, in a reset, or in a step, which cut the last one off
pub record SpellsRuns (letters : List (List ℕ)) (outputs : Option (List (List ℕ))) (names : List (List ℕ)) (runs : List Run) (link : LinkState) (t : Transcript) : Type 0 where
  pub proper : IsProper letters link.faults t
  pub owns : AreOwn outputs names t
  pub ends :
      (SpellsAll letters names t × (spelled letters names t ≡ runs))
      ⊎ (IsBroken names (most_outputs_of outputs) link t × ((cut : Bool) × BreaksIn letters names link.faults cut t × AreFinished cut (spelled letters names t) runs))

-- and nothing else went over the link
pub record SpellsWhole (letters names : List (List ℕ)) (runs : List Run) (t : Transcript) : Type 0 where
  pub covered : SpellsAll letters names t
  pub runs_are : spelled letters names t ≡ runs
