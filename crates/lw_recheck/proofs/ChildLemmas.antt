-- A child that was asked again, and what the record of its link says.
use Rattle.std.proofs.Common.{◌≡◌, ℕ, List, [], ◌∷◌, Bool, Option, Some, None, Result, Ok, Err, OnOk, subst}
use Rattle.lw_words.specs.declared.kept.KeptAnswer.{KeptAnswer}
use Rattle.lw_words.specs.declared.stop.RunStop.{RunStop}
use Rattle.lw_words.specs.declared.stop.RunStop.TheVariants.{Sul}
use Rattle.lw_words.specs.declared.stop.SulStop.{SulStop}
use Rattle.lw_cache.specs.declared.stops.Clash.{Clash}
use Rattle.lw_mealy.specs.Machine.{Rows}
use Rattle.lw_outside.specs.Links.{LinkState, SpawnerState}
use Rattle.lw_line.specs.Causes.{StopIsCounted, IsTranscriptOf}
use Rattle.lw_line.specs.LineState.{told_runs}
use Rattle.lw_names.specs.Names.{IsGrown}
use Rattle.lw_sul.specs.SessionState.{IsJournal}
use Rattle.lw_sul.specs.declared.runs.Run.{Run}
use Rattle.lw_system.specs.Told.{IfTold, SpellsWhole}
use Rattle.lw_system.specs.NewLines.{first_names, count_of, most_outputs_of}
use Rattle.lw_system.specs.Spawners.{StartsAndRetires}
use Rattle.lw_system.specs.Ends.{IsBorneOut}
use Rattle.lw_system.proofs.ToldLemmas.{names_declared, names_own, spells_told, stopped_by, whole_told}
use Rattle.lw_recheck.specs.Again.{HasRechecked}
use Rattle.lw_recheck.specs.Child.{RechecksChild}

-- what came of asking a child again, by what is told of its link
module _ (command letters : List (List ℕ)) (declared : Option (List (List ℕ))) (outputs : List (List ℕ)) (answers : List KeptAnswer) (b z : SpawnerState) (shown : List (List ℕ)) (kept : List KeptAnswer) (came : Result (Option Clash) RunStop) (link : LinkState) (names : List (List ℕ)) (runs : List Run) (stop : Option SulStop) (cut : Bool) where
  pub rechecked_child : StartsAndRetires command b z (link ∷ []) → z.faults ≡ b.faults → HasRechecked None outputs answers names runs shown kept came → IsGrown (first_names declared) names → IsBorneOut letters names (most_outputs_of declared) (count_of declared) stop cut runs link → OnOk came (stop ≡ None) → ((why : SulStop) → came ≡ Err (Sul why) → stop ≡ Some why) → RechecksChild command letters declared outputs answers b z shown kept came
  rechecked_child spawner quiet has grown bears live stopped =
      let owns = names_own declared names link.transcript grown bears.named bears.naming bears.told_names in
      record {
        link = link;
        spawner = spawner;
        quiet = quiet;
        names = names;
        declared_are = names_declared declared names grown bears.naming;
        runs = runs;
        has = has;
        spells = spells_told letters declared names link link.transcript runs stop cut owns bears.counted bears.told bears.journal;
        whole = whole came live;
        cause = λ why is. let at = stopped why is in
            stopped_by letters declared names link why cut owns (subst (StopIsCounted link.faults link.ends) at bears.counted) (subst (λ (s : Option SulStop). IsTranscriptOf letters names (most_outputs_of declared) link.faults s cut link.transcript) at bears.told);
      }
    where
      whole : (came : Result (Option Clash) RunStop) → OnOk came (stop ≡ None) → OnOk came (IfTold (SpellsWhole letters names runs) link.transcript)
      whole (Err why) live = tt
      whole (Ok found) live =
          whole_told letters declared names link link.transcript runs cut (subst (λ (s : Option SulStop). IsTranscriptOf letters names (most_outputs_of declared) link.faults s cut link.transcript) live bears.told)
          (subst (λ (s : Option SulStop). IsJournal (told_runs letters names link.transcript) runs s cut) live bears.journal)

-- what was asked of a machine that is told, under these names
pub rechecked_as : (machine told : Option Rows) (outputs : List (List ℕ)) (answers : List KeptAnswer) (names own : List (List ℕ)) (runs : List Run) (shown : List (List ℕ)) (kept : List KeptAnswer) (came : Result (Option Clash) RunStop) → machine ≡ told → names ≡ own → HasRechecked machine outputs answers names runs shown kept came → HasRechecked told outputs answers own runs shown kept came
rechecked_as machine told outputs answers names own runs shown kept came is are has =
    subst (λ (m : Option Rows). HasRechecked m outputs answers own runs shown kept came) is (subst (λ (n : List (List ℕ)). HasRechecked machine outputs answers n runs shown kept came) are has)

-- a system that has no stop didn't stop
pub never_stopped : (came : Result (Option Clash) RunStop) (stop : Option SulStop) → stop ≡ None → ((why : SulStop) → came ≡ Err (Sul why) → stop ≡ Some why) → (why : SulStop) → ¬ (came ≡ Err (Sul why))
never_stopped came stop none stopped why is = let wrong = stopped why is in absurd (cc)
