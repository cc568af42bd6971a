-- A child system: its link, the names of its letters and of its outputs so far, how many these may become, why it stopped, and
-- whether that was in a step.
use Rattle.std.specs.Prelude.{◌≡◌, ◌⊎◌, ℕ, List, length, Bool, Option, option_map}
use Rattle.lw_words.specs.declared.stop.SulStop.{SulStop}
use Rattle.lw_sul.specs.declared.runs.Run.{Run}
use Rattle.lw_outside.specs.Links.{Transcript}
use Rattle.lw_line.specs.Causes.{AreToldNames}
use Rattle.lw_line.specs.Transcripts.{spelled}

pub record LineState (L : Type 0) : Type 0 where
  pub link : L
  pub letters : List (List ℕ)
  pub names : List (List ℕ)
  pub most : ℕ
  pub outputs : ℕ
  pub started : Bool
  pub stop : Option SulStop
  pub cut : Bool

-- its runs, where its link tells what went over it
abbrev pub told_runs : (letters names : List (List ℕ)) → Option Transcript → Option (List Run)
told_runs letters names transcript = option_map (spelled letters names) transcript

-- names that weren't declared: they may become 256, under numbers below 4,096
abbrev pub AreFree : ℕ → ℕ → Type 0
AreFree most outputs = (most ≡ 256) × (outputs ≡ 4096)

-- such names; or declared ones, under their places
abbrev pub IsNaming : List (List ℕ) → ℕ → ℕ → Type 0
IsNaming names most outputs = AreFree most outputs ⊎ ((most ≡ length names) × (outputs ≡ length names))

-- names that weren't declared came over the link
abbrev pub AreToldIfFree : List (List ℕ) → ℕ → ℕ → Option Transcript → Type 0
AreToldIfFree names most outputs told = AreFree most outputs → AreToldNames names told
