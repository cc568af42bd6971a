use Rattle.std.proofs.Common.{◌∙◌, List, [], Ok, Err, IfOk, Result, Some, ap, subst}
use Rattle.lw_words.specs.Word.{answers_of}
use Rattle.lw_words.specs.declared.kept.KeptAnswer.{KeptAnswer}
use Rattle.lw_mealy.specs.Machine.{MealyMachine}
use Rattle.lw_rounds.specs.Plain.{by_suites}
use Rattle.lw_rounds.specs.declared.settings.Testing.{Testing}
use Rattle.lw_rounds.specs.Learned.{IsEnoughFor}
use Rattle.lw_names.specs.Naming.{Naming}
use Rattle.lw_workers.specs.Machines.{KeepsRuns}
use Rattle.lw_workers.specs.Plain.{RunsAsPlain}
use Rattle.lw_rounds.specs.declared.learned.Learned.{Learned}
use Rattle.lw_rounds.specs.declared.stops.LearnStop.{LearnStop}
use Rattle.lw_report.specs.Outcomes.{StandsOrWants}
use Rattle.lw_report.specs.declared.outcome.Outcome.{Outcome}
use Rattle.lw_trial.proofs.RunLemmas.{HasCome, few_refinements, of_drawn, plain_drawn, plain_tried, stopped_run}
use Rattle.lw_trial.proofs.command.learn.Goals as goal

pub report-requires-clause-reached : goal.report-requires-clause-reached
report-requires-clause-reached g c =
    let v = c.args.arguments.now in
    let came = c.learn_machine-learned.ensures in
    let kept = c.learn_machine-learned.result.kept.answers in
    let all : HasCome c.args.drawn.now.machine c.workers.result kept c.learn_machine-learned.result.learned = record {
      within = c.requires.complete;
      runs = subst (λ (prior : List KeptAnswer). KeepsRuns c.args.drawn.now.machine c.workers.result prior kept) c.new.ensures.kept came.kept;
      stops = came.stops;
      caused = came.caused;
      reached = came.reached;
    } in
    let ok = subst (λ (r : Result Learned LearnStop). HasCome c.args.drawn.now.machine c.workers.result kept r) c.in-Ok.is all in
    few_refinements v kept c.in-Ok.learned (of_drawn v c.args.drawn.now.machine c.workers.result kept (Ok c.in-Ok.learned) c.requires.machine c.workers.ensures.value ok)

pub report-requires-clause-plainly : goal.report-requires-clause-plainly
report-requires-clause-plainly g c =
    let v = c.args.arguments.now in
    let came = c.learn_machine-learned.ensures in
    let kept = c.learn_machine-learned.result.kept.answers in
    let all : HasCome c.args.drawn.now.machine c.workers.result kept c.learn_machine-learned.result.learned = record {
      within = c.requires.complete;
      runs = subst (λ (prior : List KeptAnswer). KeepsRuns c.args.drawn.now.machine c.workers.result prior kept) c.new.ensures.kept came.kept;
      stops = came.stops;
      caused = came.caused;
      reached = came.reached;
    } in
    let ok = subst (λ (r : Result Learned LearnStop). HasCome c.args.drawn.now.machine c.workers.result kept r) c.in-Ok.is all in
    let has = of_drawn v c.args.drawn.now.machine c.workers.result kept (Ok c.in-Ok.learned) c.requires.machine c.workers.ensures.value ok in
    let runs = plain_drawn v c.learner.result c.by.result c.args.drawn.now.machine.inputs c.new-2.result c.learn_machine-learned.result.learned c.new.result.kept kept c.learner.ensures (c.by.ensures ∙ ap by_suites c.suite.ensures) (ap (λ (m : MealyMachine). m.inputs) c.requires.machine) c.new-2.ensures c.new.ensures.kept came.plainly in
    plain_tried v kept c.in-Ok.learned has (subst (λ (r : Result Learned LearnStop). RunsAsPlain v.learner (by_suites v.suite) v.inputs 1 1024 [] r [] kept) c.in-Ok.is runs)

pub report-requires-clause-enough : goal.report-requires-clause-enough
report-requires-clause-enough g c =
    let kept = c.learn_machine-learned.result.kept.answers in
    let by = c.by.result in
    let enough = subst (λ (r : Result Learned LearnStop). IfOk r (λ l. IsEnoughFor by c.args.drawn.now.machine.inputs 1 (answers_of kept) l.model)) c.in-Ok.is c.learn_machine-learned.ensures.enough in
    subst (λ (m : MealyMachine). IsEnoughFor (by_suites c.args.arguments.now.suite) m.inputs 1 (answers_of kept) c.in-Ok.learned.model) c.requires.machine
    (subst (λ (t : Testing). IsEnoughFor t c.args.drawn.now.machine.inputs 1 (answers_of kept) c.in-Ok.learned.model) (c.by.ensures ∙ ap by_suites c.suite.ensures) enough)

pub returns-in-Err-clause-ran : goal.returns-in-Err-clause-ran
returns-in-Err-clause-ran g c =
    let O = g.O.Sink in
    let E = g.E.Sink in
    let v = c.args.arguments.now in
    let o = O.state c.args.out.now in
    let e = E.state c.args.err.now in
    let d = E.state c.refuse.new.err in
    let end = c.refuse.result in
    let refused = c.refuse.ensures in
    let came = c.learn_machine-learned.ensures in
    let kept = c.learn_machine-learned.result.kept.answers in
    let stop = c.in-Err.stop in
    let all : HasCome c.args.drawn.now.machine c.workers.result kept c.learn_machine-learned.result.learned = record {
      within = c.requires.complete;
      runs = subst (λ (prior : List KeptAnswer). KeepsRuns c.args.drawn.now.machine c.workers.result prior kept) c.new.ensures.kept came.kept;
      stops = came.stops;
      caused = came.caused;
      reached = came.reached;
    } in
    let err = subst (λ (r : Result Learned LearnStop). HasCome c.args.drawn.now.machine c.workers.result kept r) c.in-Err.is all in
    let outputs = refused.named ∙ ap (λ (n : Naming). Some n) (came.names ∙ c.requires.named) in
    let stands = subst (λ (x : Outcome). StandsOrWants x end.outcome) c.learn_outcome-outcome.ensures refused.outcome in
    stopped_run v o e d end stop kept (of_drawn v c.args.drawn.now.machine c.workers.result kept (Err stop) c.requires.machine c.workers.ensures.value err) (ap (λ k. k.answers) refused.kept) refused.model refused.learner outputs stands refused.said refused.part
