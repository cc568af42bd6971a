-- A child that was asked, and what the record of its link says.
use Rattle.std.proofs.Common.{◌≡◌, ℕ, List, [], ◌∷◌, Bool, Option, Some, None, Result, Ok, Err, OnOk, subst}
use Rattle.lw_words.specs.declared.kept.KeptAnswer.{KeptAnswer}
use Rattle.lw_words.specs.declared.stop.SulStop.{SulStop}
use Rattle.lw_mealy.specs.Machine.{Rows}
use Rattle.lw_names.specs.Names.{IsGrown}
use Rattle.lw_sul.specs.SessionState.{IsJournal}
use Rattle.lw_sul.specs.declared.runs.Run.{Run}
use Rattle.lw_outside.specs.Links.{LinkState, SpawnerState}
use Rattle.lw_line.specs.Causes.{StopIsCounted, IsTranscriptOf}
use Rattle.lw_line.specs.LineState.{told_runs}
use Rattle.lw_outside.specs.Streams.{SinkState}
use Rattle.lw_system.specs.Ends.{IsBorneOut}
use Rattle.lw_system.specs.NewLines.{count_of, first_names, most_outputs_of}
use Rattle.lw_system.specs.Spawners.{StartsAndRetires}
use Rattle.lw_system.specs.Told.{IfTold, SpellsWhole}
use Rattle.lw_system.proofs.ToldLemmas.{names_declared, names_own, spells_told, stopped_by, whole_told}
use Rattle.lw_ask.specs.Asking.{HasPut}
use Rattle.lw_ask.specs.Child.{AsksChild}
use Rattle.lw_ask.specs.declared.stop.AskingStop.{AskingStop}
use Rattle.lw_ask.specs.declared.stop.AskingStop.TheVariants.{Sul}

-- what came of asking a child, by what is told of its link
module _ (command letters : List (List ℕ)) (outputs : Option (List (List ℕ))) (words : List (List ℕ)) (b z : SpawnerState) (o p : SinkState) (kept : List KeptAnswer) (came : Result (Unit {0}) AskingStop) (link : LinkState) (names : List (List ℕ)) (runs : List Run) (stop : Option SulStop) (cut : Bool) where
  pub asked_child : StartsAndRetires command b z (link ∷ []) → z.faults ≡ b.faults → HasPut None letters words names runs kept o p came → IsGrown (first_names outputs) names → IsBorneOut letters names (most_outputs_of outputs) (count_of outputs) stop cut runs link → OnOk came (stop ≡ None) → ((why : SulStop) → came ≡ Err (Sul why) → stop ≡ Some why) → AsksChild command letters outputs words b z o p kept came
  asked_child spawner quiet put grown bears live stopped =
      let owns = names_own outputs names link.transcript grown bears.named bears.naming bears.told_names in
      record {
        link = link;
        spawner = spawner;
        quiet = quiet;
        names = names;
        declared = names_declared outputs names grown bears.naming;
        runs = runs;
        put = put;
        spells = spells_told letters outputs names link link.transcript runs stop cut owns bears.counted bears.told bears.journal;
        whole = whole came live;
        cause = λ why is. let at = stopped why is in
            stopped_by letters outputs names link why cut owns (subst (StopIsCounted link.faults link.ends) at bears.counted) (subst (λ (s : Option SulStop). IsTranscriptOf letters names (most_outputs_of outputs) link.faults s cut link.transcript) at bears.told);
      }
    where
      whole : (came : Result (Unit {0}) AskingStop) → OnOk came (stop ≡ None) → OnOk came (IfTold (SpellsWhole letters names runs) link.transcript)
      whole (Err why) live = tt
      whole (Ok done) live =
          whole_told letters outputs names link link.transcript runs cut (subst (λ (s : Option SulStop). IsTranscriptOf letters names (most_outputs_of outputs) link.faults s cut link.transcript) live bears.told)
          (subst (λ (s : Option SulStop). IsJournal (told_runs letters names link.transcript) runs s cut) live bears.journal)

-- a system that has no stop didn't stop
pub never_stopped : (came : Result (Unit {0}) AskingStop) (stop : Option SulStop) → stop ≡ None → ((why : SulStop) → came ≡ Err (Sul why) → stop ≡ Some why) → (why : SulStop) → ¬ (came ≡ Err (Sul why))
never_stopped came stop none stopped why is = let wrong = stopped why is in absurd (cc)

-- what was put of a machine that is told, under these names
pub put_as : (machine told : Option Rows) (letters words names own : List (List ℕ)) (runs : List Run) (kept : List KeptAnswer) (o p : SinkState) (came : Result (Unit {0}) AskingStop) → machine ≡ told → names ≡ own → HasPut machine letters words names runs kept o p came → HasPut told letters words own runs kept o p came
put_as machine told letters words names own runs kept o p came is are put = subst (λ (m : Option Rows). HasPut m letters words own runs kept o p came) is (subst (λ (n : List (List ℕ)). HasPut machine letters words n runs kept o p came) are put)
