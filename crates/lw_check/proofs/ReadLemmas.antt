-- What was read, and why no pair was.
use Rattle.std.proofs.Common.{◌≡◌, ◌∙◌, ◌⊎◌, ⊎_elim, inl, inr, ℕ, List, Option, true, false, Result, Ok, Err, refl, sym, ap, subst}
use Rattle.lw_words.specs.Cause.{CountedFault}
use Rattle.lw_accept.specs.AcceptorFile.{IsAcceptorFault}
use Rattle.lw_accept.specs.declared.fault.AcceptorFault.{AcceptorFault}
use Rattle.lw_json.specs.AnswersFault.{IsAnswersFault}
use Rattle.lw_json.specs.Formats.{IsAnswersFile, IsMachineFile}
use Rattle.lw_json.specs.MachineFault.{IsMachineFault}
use Rattle.lw_json.specs.declared.files.Answers.{Answers}
use Rattle.lw_json.specs.declared.files.Machine.{Machine}
use Rattle.lw_json.specs.declared.fault.JsonFault.{JsonFault}
use Rattle.lw_outside.specs.Files.{File, HoldsLong, noted, read_call, FilesState, ReadsFile}
use Rattle.lw_system.specs.AcceptorSystems.{IsViewFile}
use Rattle.lw_system.specs.Goals.{IsModelFile}
use Rattle.lw_system.specs.Reading.{HasRead, ReadsBadFile}
use Rattle.lw_system.specs.declared.goal.Goal.{Goal}
use Rattle.lw_system.specs.declared.goal.Goal.TheVariants as goal
use Rattle.lw_system.specs.declared.stops.ReadStop.{ReadStop}
use Rattle.lw_system.specs.declared.stops.ReadStop.TheVariants.{Failed, TooLong, Bad, NoMemory}
use Rattle.lw_report.specs.Stops.{acceptor_outcome, read_outcome}
use Rattle.lw_report.specs.declared.outcome.Outcome.{Outcome}
use Rattle.lw_report.specs.declared.role.Role.TheVariants as role
use Rattle.lw_check.specs.Decision.{pair_of}
use Rattle.lw_check.specs.Reading.{IsUnread, ReadsModel, ReadsPair, answers_read, model_read}
use Rattle.lw_check.specs.bodies.Models.{HasReadModel}

-- memory ran out in reading the model
wanted : (model answers : List ℕ) (before now : FilesState) → (now.calls ≡ before.calls) ⊎ (now.calls ≡ model_read model false before) → (now.calls ≡ before.calls) ⊎ ((now.calls ≡ model_read model false before) ⊎ (now.calls ≡ answers_read model answers false before))
wanted model answers before now calls = ⊎_elim (λ (c : now.calls ≡ before.calls). inl c) (λ (c : now.calls ≡ model_read model false before). inr (inl c)) calls

-- a machine's file was read for the model, or was not
module _ (model : List ℕ) (before now : FilesState) (r : Result Machine (ReadStop JsonFault)) (has : HasRead IsMachineFile IsMachineFault model before now r) where
  no_machine : (stop : ReadStop JsonFault) → r ≡ Err stop → (answers : List ℕ) → IsUnread goal.Machine model answers before now (read_outcome role.Model stop)
  no_machine Failed is answers = (has.failed is, has.failed_call is, has.failed_unread is)
  no_machine TooLong is answers = (has.long is, has.long_call is, has.long_unread is)
  no_machine (Bad fault) is answers = (has.bad fault is, has.bad_call fault is, refl)
  no_machine NoMemory is answers = wanted model answers before now (has.memory is)

  pub machine_unread : (stop : ReadStop JsonFault) (outcome : Outcome) → r ≡ Err stop → outcome ≡ read_outcome role.Model stop → HasReadModel goal.Machine model before now (Err outcome)
  machine_unread stop outcome is told = record {
    ok = tt;
    calls = tt;
    quiet = tt;
    err = λ answers. subst (IsUnread goal.Machine model answers before now) (sym told) (no_machine stop is answers);
    counts = has.counts;
    same = has.same;
  }

  pub machine_read : (m : Machine) → r ≡ Ok m → HasReadModel goal.Machine model before now (Ok m)
  machine_read m is = by (subst (λ (x : Result Machine (ReadStop JsonFault)). HasRead IsMachineFile IsMachineFault model before now x) is has)
    where
      by : HasRead IsMachineFile IsMachineFault model before now (Ok m) → HasReadModel goal.Machine model before now (Ok m)
      by h = record { ok = record { bytes = h.ok.bytes; read = h.ok.read; file = h.ok.file }; calls = h.ok_call; quiet = h.quiet; err = tt; counts = h.counts; same = h.same }

-- an acceptor's file was
module _ (model : List ℕ) (before now : FilesState) (r : Result Machine (ReadStop AcceptorFault)) (has : HasRead IsViewFile IsAcceptorFault model before now r) where
  no_view : (stop : ReadStop AcceptorFault) → r ≡ Err stop → (answers : List ℕ) → IsUnread goal.Acceptor model answers before now (acceptor_outcome role.Model stop)
  no_view Failed is answers = (has.failed is, has.failed_call is, has.failed_unread is)
  no_view TooLong is answers = (has.long is, has.long_call is, has.long_unread is)
  no_view (Bad fault) is answers = (has.bad fault is, has.bad_call fault is, refl)
  no_view NoMemory is answers = wanted model answers before now (has.memory is)

  pub view_unread : (stop : ReadStop AcceptorFault) (outcome : Outcome) → r ≡ Err stop → outcome ≡ acceptor_outcome role.Model stop → HasReadModel goal.Acceptor model before now (Err outcome)
  view_unread stop outcome is told = record {
    ok = tt;
    calls = tt;
    quiet = tt;
    err = λ answers. subst (IsUnread goal.Acceptor model answers before now) (sym told) (no_view stop is answers);
    counts = has.counts;
    same = has.same;
  }

  pub view_read : (m : Machine) → r ≡ Ok m → HasReadModel goal.Acceptor model before now (Ok m)
  view_read m is = by (subst (λ (x : Result Machine (ReadStop AcceptorFault)). HasRead IsViewFile IsAcceptorFault model before now x) is has)
    where
      by : HasRead IsViewFile IsAcceptorFault model before now (Ok m) → HasReadModel goal.Acceptor model before now (Ok m)
      by h = record { ok = record { bytes = h.ok.bytes; read = h.ok.read; file = h.ok.file }; calls = h.ok_call; quiet = h.quiet; err = tt; counts = h.counts; same = h.same }

-- the model was read, and then the answers were, or were not
module _ (aim : Goal) (model answers : List ℕ) (before middle now : FilesState) (m : Machine) (first : HasReadModel aim model before middle (Ok m)) (r : Result Answers (ReadStop JsonFault)) (has : HasRead IsAnswersFile IsAnswersFault answers middle now r) where
  -- the calls, with that of the answers
  then : (failed : _) → now.calls ≡ noted (read_call answers failed) middle.calls → now.calls ≡ answers_read model answers failed before
  then failed call = call ∙ ap (noted (read_call answers failed)) first.calls

  -- the model, where the answers gave no bytes
  alone : now.reads ≡ middle.reads → ReadsModel aim model before now.reads
  alone same = (m, subst (λ (reads : List File). ReadsFile (IsModelFile aim) model before.holds before.reads reads m) (sym same) first.ok)

  no_answers : (stop : ReadStop JsonFault) → r ≡ Err stop → IsUnread aim model answers before now (read_outcome role.Answers stop)
  no_answers Failed is = (subst (λ (n : ℕ). CountedFault n now.faults) first.quiet (has.failed is), then true (has.failed_call is), alone (has.failed_unread is))
  no_answers TooLong is = (subst (λ (h : Option (List File)). HoldsLong h answers) first.same (has.long is), then false (has.long_call is), alone (has.long_unread is))
  no_answers (Bad fault) is = (
    (middle.reads, m, first.ok, subst (λ (h : Option (List File)). ReadsBadFile IsAnswersFile IsAnswersFault answers h middle.reads now.reads fault) first.same (has.bad fault is)),
    then false (has.bad_call fault is),
  )
  no_answers NoMemory is =
      ⊎_elim
      (λ (none : now.calls ≡ middle.calls). inr (inl (none ∙ first.calls)))
      (λ (one : now.calls ≡ noted (read_call answers false) middle.calls). inr (inr (then false one)))
      (has.memory is)

  pub answers_unread : (stop : ReadStop JsonFault) (outcome : Outcome) → r ≡ Err stop → outcome ≡ read_outcome role.Answers stop → IsUnread aim model answers before now outcome
  answers_unread stop outcome is told = subst (IsUnread aim model answers before now) (sym told) (no_answers stop is)

  pub pair_read : (a : Answers) → r ≡ Ok a → ReadsPair aim model answers before now (pair_of m a)
  pair_read a is = by (subst (λ (x : Result Answers (ReadStop JsonFault)). HasRead IsAnswersFile IsAnswersFault answers middle now x) is has)
    where
      by : HasRead IsAnswersFile IsAnswersFault answers middle now (Ok a) → ReadsPair aim model answers before now (pair_of m a)
      by h = record {
        machine = m;
        read_answers = a;
        middle = middle.reads;
        model_file = first.ok;
        answers_file = subst (λ (holds : Option (List File)). ReadsFile IsAnswersFile answers holds middle.reads now.reads a) first.same h.ok;
        pair = refl;
        calls = then false h.ok_call;
        quiet = h.quiet ∙ first.quiet;
      }
