use Rattle.std.proofs.Common.{◌≡◌, List, ℕ, Option, Err, ap, subst, sym}
use Rattle.lw_outside.specs.Files.{Call}
use Rattle.lw_report.specs.Stops.{tell_outcome}
use Rattle.lw_report.specs.declared.outcome.Outcome.{Outcome}
use Rattle.lw_report.specs.declared.role.Role.TheVariants.{Kept}
use Rattle.lw_report.specs.declared.stops.TellStop.{TellStop}
use Rattle.lw_report.specs.declared.stops.TellStop.TheVariants.{File, NoMemory, Sink}
use Rattle.lw_learn.specs.Writing.{StandsInFile, WritesFiles, WritesOut}
use Rattle.lw_learn.proofs.WriteLemmas.{answers_stand, files_behind, gained_none, not_kept, out_before, out_behind, out_told, told_calls, told_err}
use Rattle.lw_learn.proofs.writing.write_model.Goals as goal

pub returns-in_err-texts-clause-files : goal.returns-in_err-texts-clause-files
returns-in_err-texts-clause-files g c =
    let files = g.F.Files.state c.args.files.now in
    let text = c.args.report.text.items in
    let is = told_err c.args.report.outcome c.from_residual-in_err-texts.result NoMemory c.from_residual-in_err-texts.ensures.1 in
    subst (λ (o : Outcome). WritesFiles c.args.arguments.now text c.args.model.now.machine c.args.model.now.kept.answers o files.holds (files.calls, files.calls)) (sym is)
    (record { model = λ u. absurd u; answers = λ u. absurd u; calls = (0, gained_none files.calls) })

pub returns-in_err-texts-clause-out : goal.returns-in_err-texts-clause-out
returns-in_err-texts-clause-out g c =
    let taken = (g.O.Sink.state c.args.out.now).taken in
    let faults : ℕ × ℕ = ((g.O.Sink.state c.args.out.now).faults, (g.O.Sink.state c.args.out.now).faults) in
    let is = told_err c.args.report.outcome c.from_residual-in_err-texts.result NoMemory c.from_residual-in_err-texts.ensures.1 in
    subst (λ (o : Outcome). WritesOut c.args.arguments.now.model c.args.report.text.items o (taken, taken) faults) (sym is)
    (out_before c.args.arguments.now.model c.args.report.text.items taken faults NoMemory (λ e. let wrong : NoMemory ≡ Sink = e in cc) (λ e. let wrong : NoMemory ≡ File Kept = e in cc))

pub returns-in_err-write_files-clause-out : goal.returns-in_err-write_files-clause-out
returns-in_err-write_files-clause-out g c =
    let taken = (g.O.Sink.state c.args.out.now).taken in
    let faults : ℕ × ℕ = ((g.O.Sink.state c.args.out.now).faults, (g.O.Sink.state c.args.out.now).faults) in
    let stop = c.in_err-write_files.field-0.0 in
    let is = told_err c.args.report.outcome c.from_residual-in_err-write_files.result stop c.from_residual-in_err-write_files.ensures.1 in
    subst (λ (o : Outcome). WritesOut c.args.arguments.now.model c.args.report.text.items o (taken, taken) faults) (sym is)
    (out_before c.args.arguments.now.model c.args.report.text.items taken faults stop (λ e. c.in_err-write_files.ensures.no_sink (ap (λ (s : TellStop). Err s) e))
    (λ e. not_kept (c.in_err-write_files.ensures.role Kept (ap (λ (s : TellStop). Err s) e))))

pub returns-in_err-put_streams-clause-files : goal.returns-in_err-put_streams-clause-files
returns-in_err-put_streams-clause-files g c =
    let F = g.F.Files in
    let a = c.args.arguments.now in
    let m = c.args.model.now.machine in
    let kept = c.args.model.now.kept.answers in
    let holds = (F.state c.write_files.new.files).holds in
    let calls : Option (List Call) × Option (List Call) = ((F.state c.args.files.now).calls, (F.state c.write_files.new.files).calls) in
    let stop = c.in_err-put_streams.field-0.0 in
    let is = told_err c.args.report.outcome c.from_residual-in_err-put_streams.result stop c.from_residual-in_err-put_streams.ensures.1 in
    subst (λ (o : Outcome). WritesFiles a c.args.report.text.items m kept o holds calls) (sym is)
    (files_behind a c.args.report.text.items m kept holds calls stop c.in_err-put_streams.ensures.stops
    (λ differ. subst (λ (t : List ℕ). StandsInFile a.model holds t) c.in_ok-texts.ensures.model (c.in_ok-write_files.ensures.model differ))
    (answers_stand a.answers holds m kept c.in_ok-texts.texts.answers.items c.in_ok-texts.ensures.answers c.in_ok-write_files.ensures.answers) c.in_ok-write_files.ensures.ok)

pub returns-in_err-put_streams-clause-out : goal.returns-in_err-put_streams-clause-out
returns-in_err-put_streams-clause-out g c =
    let O = g.O.Sink in
    let a = c.args.arguments.now in
    let m = c.args.model.now.machine in
    let taken : Option (List ℕ) × Option (List ℕ) = ((O.state c.args.out.now).taken, (O.state c.put_streams.new.out).taken) in
    let faults : ℕ × ℕ = ((O.state c.args.out.now).faults, (O.state c.put_streams.new.out).faults) in
    let stop = c.in_err-put_streams.field-0.0 in
    let w = c.in_err-put_streams.ensures in
    let is = told_err c.args.report.outcome c.from_residual-in_err-put_streams.result stop c.from_residual-in_err-put_streams.ensures.1 in
    subst (λ (o : Outcome). WritesOut a.model c.args.report.text.items o taken faults) (sym is)
    (subst (λ (t : List ℕ). WritesOut a.model t (tell_outcome stop) taken faults) c.in_ok-texts.ensures.model
    (out_behind a.model c.in_ok-texts.texts.model.items taken faults stop w.stops w.whole (λ e. w.behind (ap (λ (s : TellStop). Err s) e)) w.part))

pub returns-clause-files : goal.returns-clause-files
returns-clause-files g c =
    let F = g.F.Files in
    let a = c.args.arguments.now in
    let m = c.args.model.now.machine in
    let kept = c.args.model.now.kept.answers in
    let holds = (F.state c.write_files.new.files).holds in
    record {
      model = λ _ differ. subst (λ (t : List ℕ). StandsInFile a.model holds t) c.in_ok-texts.ensures.model (c.in_ok-write_files.ensures.model differ);
      answers = λ _. answers_stand a.answers holds m kept c.in_ok-texts.texts.answers.items c.in_ok-texts.ensures.answers c.in_ok-write_files.ensures.answers;
      calls = told_calls a c.args.report.outcome (F.state c.args.files.now).calls (F.state c.write_files.new.files).calls c.requires.tells c.in_ok-write_files.ensures.ok;
    }

pub returns-clause-out : goal.returns-clause-out
returns-clause-out g c =
    let O = g.O.Sink in
    let a = c.args.arguments.now in
    let taken : Option (List ℕ) × Option (List ℕ) = ((O.state c.args.out.now).taken, (O.state c.put_streams.new.out).taken) in
    let faults : ℕ × ℕ = ((O.state c.args.out.now).faults, (O.state c.put_streams.new.out).faults) in
    subst (λ (t : List ℕ). WritesOut a.model t c.args.report.outcome taken faults) c.in_ok-texts.ensures.model
    (out_told a.model c.in_ok-texts.texts.model.items taken faults c.args.report.outcome c.requires.tells c.in_ok-put_streams.ensures.written c.in_ok-put_streams.ensures.part)
