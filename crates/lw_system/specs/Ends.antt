-- What the record of a link bears out of its system and its session.
use Rattle.std.specs.Prelude.{ℕ, List, Bool, Option}
use Rattle.lw_words.specs.declared.stop.SulStop.{SulStop}
use Rattle.lw_outside.specs.Links.{LinkState}
use Rattle.lw_line.specs.Causes.{StopIsCounted, IsTranscriptOf}
use Rattle.lw_line.specs.LineState.{AreToldIfFree, IsNaming, told_runs}
use Rattle.lw_names.specs.Names.{AreNamed}
use Rattle.lw_sul.specs.SessionState.{IsJournal}
use Rattle.lw_sul.specs.declared.runs.Run.{Run}

pub record IsBorneOut (letters names : List (List ℕ)) (most outputs : ℕ) (stop : Option SulStop) (cut : Bool) (runs : List Run) (r : LinkState) : Type 0 where
  pub counted : StopIsCounted r.faults r.ends stop
  pub told : IsTranscriptOf letters names most r.faults stop cut r.transcript
  pub naming : IsNaming names most outputs
  pub told_names : AreToldIfFree names most outputs r.transcript
  pub named : AreNamed most names
  pub journal : IsJournal (told_runs letters names r.transcript) runs stop cut
