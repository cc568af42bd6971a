use Rattle.std.proofs.Common.{◌≡◌, ◌∙◌, rules, Err, List, ℕ, Option, Some, None, string_bytes, sym, ap, refl, subst}
use Rattle.lw_report.specs.declared.outcome.Outcome.TheVariants.{Usage}
use Rattle.lw_compare.specs.CompareRun.{IsCompareRun}
use Rattle.lw_learn.specs.Arguments.{LearnValues, with_earlier}
use Rattle.lw_learn.specs.LearnRun.{IsLearnRun}
use Rattle.lw_outside.specs.Links.{SpawnerState}
use Rattle.lw_serve.specs.ServeRun.{IsServeRun}
use Rattle.lw_top.specs.Call.{CallValues, Learn, call_of, values_of}
use Rattle.lw_top.specs.CommandLine.{texts}
use Rattle.lw_top.specs.HelpCommand.{topic_text}
use Rattle.lw_top.specs.Promises.{CausesAreTold}
use Rattle.lw_top.specs.Run.{Runs, RunsLearn}
use Rattle.lw_top.specs.World.{WorldState, seen, states}
use Rattle.lw_top.specs.declared.call.Call.{Call}
use Rattle.lw_top.specs.declared.values.ArgumentStop.{ArgumentStop}
use Rattle.lw_top.proofs.CauseLemmas.{causes}
use Rattle.lw_top.proofs.HelpLemmas.{helps_never}
use Rattle.lw_top.proofs.RunLemmas.{names_learn, names_other, refused}
use Rattle.lw_top.proofs.top.run_call.Goals as goal

pub returns-in-Learn-clause-ran : goal.returns-in-Learn-clause-ran
returns-in-Learn-clause-ran g c =
    let F = g.F.Files in
    let P = g.P.Spawner in
    let I = g.I.Source in
    let O = g.O.Sink in
    let E = g.E.Sink in
    let words = texts c.args.arguments.now in
    let w = c.args.world.now in
    let before : WorldState = seen F.state P.state I.state O.state E.state (λ l. l.state) w in
    let now : WorldState = seen F.state P.state I.state O.state E.state (λ l. l.state) c.learn.new.world in
    let is : call_of words ≡ Some (values_of c.in-Ok.call) = c.in-Ok.ensures.ok in
    let here = subst (λ (call : Call). call_of words ≡ Some (values_of call)) c.in-Learn.is is in
    let begun = c.begin_journal-values.ensures.begun in
    let opened = c.begin_journal-values.result in
    let run : IsLearnRun opened before.files now.files before.spawner now.spawner before.out now.out before.err now.err now.log c.learn.result =
    subst (λ (s : SpawnerState). IsLearnRun opened before.files now.files s now.spawner before.out now.out before.err now.err now.log c.learn.result) c.begin_journal-values.ensures.same c.learn.ensures.run in
    let of : IsLearnRun (with_earlier begun.0 c.in-Learn.values) before.files now.files before.spawner now.spawner before.out now.out before.err now.err now.log c.learn.result =
    subst (λ (a : LearnValues). IsLearnRun a before.files now.files before.spawner now.spawner before.out now.out before.err now.err now.log c.learn.result) begun.2 run in
    let runs : RunsLearn c.in-Learn.values before now c.learn.result = record { ran = (begun.0, begun.1, of); input = ap (λ i. I.state i) c.learn.ensures.input } in
    let told : CausesAreTold (Some (Learn c.in-Learn.values)) before now c.learn.result = causes words before now c.learn.result (Some (Learn c.in-Learn.values)) runs in
    record {
      status = c.learn.ensures.status;
      ran = subst (λ (call : Option CallValues). Runs words call before now c.learn.result) (sym here) runs;
      usage = λ usage. here ∙ told.usage usage;
      counts = search rules;
    }

pub returns-in-Learn-clause-unlogged : goal.returns-in-Learn-clause-unlogged
returns-in-Learn-clause-unlogged g c unnamed =
    let words = texts c.args.arguments.now in
    let is : call_of words ≡ Some (values_of c.in-Ok.call) = c.in-Ok.ensures.ok in
    absurd (names_learn words c.in-Learn.values (subst (λ (call : Call). call_of words ≡ Some (values_of call)) c.in-Learn.is is) unnamed)

pub returns-in-Check-clause-ran : goal.returns-in-Check-clause-ran
returns-in-Check-clause-ran g c =
    let F = g.F.Files in
    let P = g.P.Spawner in
    let I = g.I.Source in
    let O = g.O.Sink in
    let E = g.E.Sink in
    let words = texts c.args.arguments.now in
    let w = c.args.world.now in
    let before : WorldState = seen F.state P.state I.state O.state E.state (λ l. l.state) w in
    let now : WorldState = states (F.state c.check.new.files) (P.state w.spawner) (I.state w.input) (O.state c.check.new.out) (E.state c.check.new.err) w.log.state in
    let is : call_of words ≡ Some (values_of c.in-Ok.call) = c.in-Ok.ensures.ok in
    let here = subst (λ (call : Call). call_of words ≡ Some (values_of call)) c.in-Check.is is in
    let taken : ¬ (c.check.result.outcome ≡ Usage) = search rules in
    record {
      status = c.check.ensures.status;
      ran = subst (λ (call : Option CallValues). Runs words call before now c.check.result) (sym here) (record { ran = c.check.ensures.ran; spawner = refl; input = refl; log = refl });
      usage = λ usage. absurd (taken usage);
      counts = search rules;
    }

pub returns-in-Trial-clause-ran : goal.returns-in-Trial-clause-ran
returns-in-Trial-clause-ran g c =
    let F = g.F.Files in
    let P = g.P.Spawner in
    let I = g.I.Source in
    let O = g.O.Sink in
    let E = g.E.Sink in
    let words = texts c.args.arguments.now in
    let w = c.args.world.now in
    let before : WorldState = seen F.state P.state I.state O.state E.state (λ l. l.state) w in
    let now : WorldState = states (F.state w.files) (P.state w.spawner) (I.state w.input) (O.state c.trial.new.out) (E.state c.trial.new.err) w.log.state in
    let is : call_of words ≡ Some (values_of c.in-Ok.call) = c.in-Ok.ensures.ok in
    let here = subst (λ (call : Call). call_of words ≡ Some (values_of call)) c.in-Trial.is is in
    let taken : ¬ (c.trial.result.outcome ≡ Usage) = search rules in
    record {
      status = c.trial.ensures.status;
      ran = subst (λ (call : Option CallValues). Runs words call before now c.trial.result) (sym here) (record { ran = c.trial.ensures.ran; files = refl; spawner = refl; input = refl; log = refl });
      usage = λ usage. absurd (taken usage);
      counts = search rules;
    }

pub returns-in-Serve-clause-ran : goal.returns-in-Serve-clause-ran
returns-in-Serve-clause-ran g c =
    let F = g.F.Files in
    let P = g.P.Spawner in
    let I = g.I.Source in
    let O = g.O.Sink in
    let E = g.E.Sink in
    let words = texts c.args.arguments.now in
    let w = c.args.world.now in
    let before : WorldState = seen F.state P.state I.state O.state E.state (λ l. l.state) w in
    let now : WorldState = states (F.state c.serve.new.files) (P.state w.spawner) (I.state c.serve.new.input) (O.state c.serve.new.out) (E.state c.serve.new.err) w.log.state in
    let is : call_of words ≡ Some (values_of c.in-Ok.call) = c.in-Ok.ensures.ok in
    let here = subst (λ (call : Call). call_of words ≡ Some (values_of call)) c.in-Serve.is is in
    let taken : ¬ (c.serve.result.outcome ≡ Usage) = search rules in
    let ran : IsServeRun (string_bytes c.in-Serve.model) before.files now.files before.input now.input before.out now.out before.err now.err c.serve.result = subst (λ (m : List ℕ). IsServeRun m before.files now.files before.input now.input before.out now.out before.err now.err c.serve.result) c.as_str.ensures.value c.serve.ensures.ran in
    record {
      status = c.serve.ensures.status;
      ran = subst (λ (call : Option CallValues). Runs words call before now c.serve.result) (sym here) (record { ran = ran; spawner = refl; log = refl });
      usage = λ usage. absurd (taken usage);
      counts = search rules;
    }

pub returns-in-Ask-clause-ran : goal.returns-in-Ask-clause-ran
returns-in-Ask-clause-ran g c =
    let F = g.F.Files in
    let P = g.P.Spawner in
    let I = g.I.Source in
    let O = g.O.Sink in
    let E = g.E.Sink in
    let words = texts c.args.arguments.now in
    let w = c.args.world.now in
    let before : WorldState = seen F.state P.state I.state O.state E.state (λ l. l.state) w in
    let now : WorldState = states (F.state c.ask.new.files) (P.state c.ask.new.spawner) (I.state w.input) (O.state c.ask.new.out) (E.state c.ask.new.err) w.log.state in
    let is : call_of words ≡ Some (values_of c.in-Ok.call) = c.in-Ok.ensures.ok in
    let here = subst (λ (call : Call). call_of words ≡ Some (values_of call)) c.in-Ask.is is in
    let taken : ¬ (c.ask.result.outcome ≡ Usage) = search rules in
    record {
      status = c.ask.ensures.status;
      ran = subst (λ (call : Option CallValues). Runs words call before now c.ask.result) (sym here) (record { ran = c.ask.ensures.ran; cause = c.ask.ensures.why; input = refl; log = refl });
      usage = λ usage. absurd (taken usage);
      counts = search rules;
    }

pub returns-in-Compare-clause-ran : goal.returns-in-Compare-clause-ran
returns-in-Compare-clause-ran g c =
    let F = g.F.Files in
    let P = g.P.Spawner in
    let I = g.I.Source in
    let O = g.O.Sink in
    let E = g.E.Sink in
    let words = texts c.args.arguments.now in
    let w = c.args.world.now in
    let before : WorldState = seen F.state P.state I.state O.state E.state (λ l. l.state) w in
    let now : WorldState = states (F.state c.compare.new.files) (P.state w.spawner) (I.state w.input) (O.state c.compare.new.out) (E.state c.compare.new.err) w.log.state in
    let is : call_of words ≡ Some (values_of c.in-Ok.call) = c.in-Ok.ensures.ok in
    let here = subst (λ (call : Call). call_of words ≡ Some (values_of call)) c.in-Compare.is is in
    let taken : ¬ (c.compare.result.outcome ≡ Usage) = search rules in
    let v = c.in-Compare.pair in
    let ran : IsCompareRun v.first v.second before.files now.files before.out now.out before.err now.err c.compare.result = search rules in
    record {
      status = c.compare.ensures.status;
      ran = subst (λ (call : Option CallValues). Runs words call before now c.compare.result) (sym here) (record { ran = ran; spawner = refl; input = refl; log = refl });
      usage = λ usage. absurd (taken usage);
      counts = search rules;
    }

pub returns-in-Recheck-clause-ran : goal.returns-in-Recheck-clause-ran
returns-in-Recheck-clause-ran g c =
    let F = g.F.Files in
    let P = g.P.Spawner in
    let I = g.I.Source in
    let O = g.O.Sink in
    let E = g.E.Sink in
    let words = texts c.args.arguments.now in
    let w = c.args.world.now in
    let before : WorldState = seen F.state P.state I.state O.state E.state (λ l. l.state) w in
    let now : WorldState = states (F.state c.recheck.new.files) (P.state c.recheck.new.spawner) (I.state w.input) (O.state c.recheck.new.out) (E.state c.recheck.new.err) w.log.state in
    let is : call_of words ≡ Some (values_of c.in-Ok.call) = c.in-Ok.ensures.ok in
    let here = subst (λ (call : Call). call_of words ≡ Some (values_of call)) c.in-Recheck.is is in
    let taken : ¬ (c.recheck.result.outcome ≡ Usage) = search rules in
    record {
      status = c.recheck.ensures.status;
      ran = subst (λ (call : Option CallValues). Runs words call before now c.recheck.result) (sym here) (record { ran = c.recheck.ensures.ran; cause = c.recheck.ensures.why; input = refl; log = refl });
      usage = λ usage. absurd (taken usage);
      counts = search rules;
    }

pub returns-in-Help-clause-ran : goal.returns-in-Help-clause-ran
returns-in-Help-clause-ran g c =
    let F = g.F.Files in
    let P = g.P.Spawner in
    let I = g.I.Source in
    let O = g.O.Sink in
    let E = g.E.Sink in
    let words = texts c.args.arguments.now in
    let w = c.args.world.now in
    let before : WorldState = seen F.state P.state I.state O.state E.state (λ l. l.state) w in
    let now : WorldState = states (F.state w.files) (P.state w.spawner) (I.state w.input) (O.state c.help.new.out) (E.state c.help.new.err) w.log.state in
    let is : call_of words ≡ Some (values_of c.in-Ok.call) = c.in-Ok.ensures.ok in
    let here = subst (λ (call : Call). call_of words ≡ Some (values_of call)) c.in-Help.is is in
    let taken : ¬ (c.help.result.outcome ≡ Usage) = λ u. helps_never (topic_text c.in-Help.topic) before.out now.out before.err now.err c.help.result c.help.ensures.ran _ u (λ k. k) in
    record {
      status = c.help.ensures.status;
      ran = subst (λ (call : Option CallValues). Runs words call before now c.help.result) (sym here) (record { ran = c.help.ensures.ran; files = refl; spawner = refl; input = refl; log = refl });
      usage = λ usage. absurd (taken usage);
      counts = search rules;
    }

pub returns-in-Err-clause-ran : goal.returns-in-Err-clause-ran
returns-in-Err-clause-ran g c =
    let F = g.F.Files in
    let P = g.P.Spawner in
    let I = g.I.Source in
    let O = g.O.Sink in
    let E = g.E.Sink in
    let words = texts c.args.arguments.now in
    let w = c.args.world.now in
    let none : c.refuse_call.result.outcome ≡ Usage → call_of words ≡ None = λ u. c.in-Err.ensures.refused (ap (λ (s : ArgumentStop). Err s) (c.refuse_call.ensures.usage u)) in
    record {
      status = c.refuse_call.ensures.status;
      ran = refused (F.state w.files) (P.state w.spawner) (I.state w.input) (O.state w.out) (E.state w.err) (E.state c.refuse_call.new.err) w.log.state c.log_refused.new.log.state c.refuse_call.result words (call_of words) c.refuse_call.ensures.ended none
          (λ call is other. ap (λ l. l.state) (c.log_refused.ensures (names_other words call is other)));
      usage = none;
      counts = search rules;
    }
