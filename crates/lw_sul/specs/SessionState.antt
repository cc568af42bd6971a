-- A session: a system and the journal of the runs that were finished in it.
use Rattle.std.specs.Prelude.{◌≡◌, ℕ, ◌<◌, List, [], ◌∷◌, ◌++◌, length, map, Bool, true, false, Option, Some, None}
use Rattle.lw_words.specs.declared.stop.SulStop.{SulStop}
use Rattle.lw_words.specs.Word.{IsPrefix}
use Rattle.lw_sul.specs.declared.runs.Run.{Run}

pub record SessionState (S : Type 0) : Type 0 where
  pub instance : ℕ
  pub sul : S
  pub journal : List Run

abbrev pub run_of : List ℕ → List ℕ → Run
run_of w o = record { word = w; outs = o }

-- the runs of a list of words with their outputs
abbrev pub runs_of_pairs : List (List ℕ × List ℕ) → List Run
runs_of_pairs pairs = map (λ p. run_of p.0 p.1) pairs

-- observed runs that are none
abbrev pub NoRuns : Option (List Run) → Type 0
NoRuns None = Unit {0}
NoRuns (Some rs) = rs ≡ []

-- a prefix of a run of the word, at least a letter shorter
pub record IsUnfinished (w : List ℕ) (r : Run) : Type 0 where
  pub short : length r.word < length w
  pub front : IsPrefix r.word w
  pub outs : length r.outs ≡ length r.word

-- observed runs where a run of the word was refused: as before, or with one unfinished run more where it was cut off
abbrev pub CutOff : List ℕ → Option (List Run) → Option (List Run) → Bool → Type 0
CutOff w None new cut = new ≡ None
CutOff w (Some rs) new false = new ≡ Some rs
CutOff w (Some rs) new true = (r : Run) × IsUnfinished w r × (new ≡ Some (rs ++ r ∷ []))

-- observed runs are the journal, followed by one unfinished run exactly where a stop cut a run off
abbrev pub IsJournal : Option (List Run) → List Run → Option SulStop → Bool → Type 0
IsJournal None journal stop cut = Unit {0}
IsJournal (Some rs) journal None cut = rs ≡ journal
IsJournal (Some rs) journal (Some stop) false = rs ≡ journal
IsJournal (Some rs) journal (Some stop) true = (r : Run) × (rs ≡ journal ++ r ∷ [])
