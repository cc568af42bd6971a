use Rattle.std.proofs.Common.{◌≡◌, ◌∙◌, List, ℕ, Option, Err, false, inl, inr, ap, subst}
use Rattle.lw_outside.specs.Files.{Call, File, FilesState, noted, read_call}
use Rattle.lw_json.specs.declared.fault.JsonFault.{JsonFault}
use Rattle.lw_system.specs.declared.stops.ReadStop.{ReadStop}
use Rattle.lw_compare.specs.bodies.Unread.{HasStopped}
use Rattle.lw_compare.proofs.reading.read_models.Goals as goal

abbrev files_of : Option (List File) → Option (List Call) → List File → ℕ → FilesState
files_of holds calls reads faults = record { holds = holds; calls = calls; reads = reads; faults = faults }

pub returns-in-Err-clause-err : goal.returns-in-Err-clause-err
returns-in-Err-clause-err g c =
    let told = c.read_machine_file.ensures in
    let is = c.in-Err.is in
    inl (
      c.in-Err.stop,
      record {
        bad = λ fault kind. let e = is ∙ ap (λ (s : ReadStop JsonFault). Err s) kind in (told.bad fault e, told.bad_call fault e);
        long = λ kind. let e = is ∙ ap (λ (s : ReadStop JsonFault). Err s) kind in (told.long e, told.long_call e, told.long_unread e);
        failed = λ kind. let e = is ∙ ap (λ (s : ReadStop JsonFault). Err s) kind in (told.failed e, told.failed_call e, told.failed_unread e);
        memory = λ kind. told.memory (is ∙ ap (λ (s : ReadStop JsonFault). Err s) kind);
      },
      c.read_outcome.ensures,
    )

pub returns-in-Err-read_machine_file-clause-err : goal.returns-in-Err-read_machine_file-clause-err
returns-in-Err-read_machine_file-clause-err g c =
    let F = g.F.Files in
    let told = c.read_machine_file-2.ensures in
    let is = c.in-Err-read_machine_file.is in
    let first = c.in-Ok.ensures in
    let two = c.args.second.now in
    let s = c.in-Err-read_machine_file.stop in
    let now = F.state c.read_machine_file-2.new.files in
    let mid = c.read_machine_file.new.files in
    let stopped : HasStopped two (F.state mid) now s = record {
      bad = λ fault kind. let e = is ∙ ap (λ (s : ReadStop JsonFault). Err s) kind in (told.bad fault e, told.bad_call fault e);
      long = λ kind. let e = is ∙ ap (λ (s : ReadStop JsonFault). Err s) kind in (told.long e, told.long_call e, told.long_unread e);
      failed = λ kind. let e = is ∙ ap (λ (s : ReadStop JsonFault). Err s) kind in (told.failed e, told.failed_call e, told.failed_unread e);
      memory = λ kind. told.memory (is ∙ ap (λ (s : ReadStop JsonFault). Err s) kind);
    } in
    let at_holds : HasStopped two (files_of (F.state c.args.files.now).holds (F.state mid).calls (F.state mid).reads (F.state mid).faults) now s = subst (λ (h : Option (List File)). HasStopped two (files_of h (F.state mid).calls (F.state mid).reads (F.state mid).faults) now s) first.same stopped in
    let at_calls : HasStopped two (files_of (F.state c.args.files.now).holds (noted (read_call c.args.first.now false) (F.state c.args.files.now).calls) (F.state mid).reads (F.state mid).faults) now s = subst (λ (k : Option (List Call)). HasStopped two (files_of (F.state c.args.files.now).holds k (F.state mid).reads (F.state mid).faults) now s) first.ok_call at_holds in
    let at_faults : HasStopped two (files_of (F.state c.args.files.now).holds (noted (read_call c.args.first.now false) (F.state c.args.files.now).calls) (F.state mid).reads (F.state c.args.files.now).faults) now s = subst (λ (n : ℕ). HasStopped two (files_of (F.state c.args.files.now).holds (noted (read_call c.args.first.now false) (F.state c.args.files.now).calls) (F.state mid).reads n) now s) first.quiet at_calls in
    inr (s, (F.state mid).reads, c.in-Ok.machine, first.ok, at_faults, c.read_outcome-in-Err-read_machine_file.ensures)
