use Rattle.std.proofs.Common.{◌≢◌, ◌∙◌, Err, Some, ap, length, subst}
use Rattle.lw_names.specs.Naming.{Naming}
use Rattle.lw_mealy.specs.Machine.{MealyMachine}
use Rattle.lw_rounds.specs.Learner.{refinements_of}
use Rattle.lw_report.specs.Outcomes.{StandsOrWants}
use Rattle.lw_report.specs.Text.{trial_lines}
use Rattle.lw_report.specs.Writing.{TakesSome}
use Rattle.lw_report.specs.declared.outcome.Outcome.{Outcome}
use Rattle.lw_report.specs.declared.outcome.Tried.{Tried}
use Rattle.lw_report.specs.declared.stops.TellStop.{TellStop}
use Rattle.lw_trial.specs.bodies.Told.{IsToldOf}
use Rattle.lw_trial.proofs.RunLemmas.{IsCarried, IsUntold, tell_cause, tried_run, untold_run}
use Rattle.lw_trial.proofs.command.report.Goals as goal

pub returns-in-Ok-clause-ran : goal.returns-in-Ok-clause-ran
returns-in-Ok-clause-ran g c =
    let O = g.O.Sink in
    let E = g.E.Sink in
    let v = c.args.arguments.now in
    let o = O.state c.args.out.now in
    let p = O.state c.tell.new.out in
    let e = E.state c.args.err.now in
    let end = c.with_model.result in
    let made = c.with_model.ensures in
    let h = c.args.found.learned.model in
    let learner = c.args.found.learned.learner in
    let kept = c.args.found.kept.answers in
    let carried : IsCarried v end h learner kept = record {
      model = made.model;
      carried = made.learner;
      counted = made.refinements;
      keeps = ap (λ k. k.answers) made.kept;
      outputs = made.outputs ∙ ap (λ (n : Naming). Some n) c.requires.named;
      runs = c.requires.kept;
      learned = c.requires.learned;
      enough = c.requires.enough;
      plainly = c.requires.plainly;
      reached = c.requires.reached;
    } in
    let told = subst (λ (m : MealyMachine). IsToldOf v m h (refinements_of learner) (length kept) c.in-Ok.tried) c.requires.machine c.in-Ok.ensures.told in
    tried_run v o p e end h learner kept c.in-Ok.tried carried made.outcome told c.in-Ok.ensures.ok c.in-Ok.ensures.quiet

pub returns-in-Err-clause-ran : goal.returns-in-Err-clause-ran
returns-in-Err-clause-ran g c =
    let O = g.O.Sink in
    let E = g.E.Sink in
    let v = c.args.arguments.now in
    let o = O.state c.args.out.now in
    let p = O.state c.tell.new.out in
    let e = E.state c.args.err.now in
    let d = E.state c.say-outcome.new.err in
    let end = c.with_model-in-Err.result in
    let made = c.with_model-in-Err.ensures in
    let h = c.args.found.learned.model in
    let learner = c.args.found.learned.learner in
    let kept = c.args.found.kept.answers in
    let stop = c.in-Err.stop in
    let why = c.in-Err.ensures in
    let now = c.say-outcome.result in
    let carried : IsCarried v end h learner kept = record {
      model = made.model;
      carried = made.learner;
      counted = made.refinements;
      keeps = ap (λ k. k.answers) made.kept;
      outputs = made.outputs ∙ ap (λ (n : Naming). Some n) c.requires.named;
      runs = c.requires.kept;
      learned = c.requires.learned;
      enough = c.requires.enough;
      plainly = c.requires.plainly;
      reached = c.requires.reached;
    } in
    let stands = subst (λ (x : Outcome). StandsOrWants x now) c.from.ensures c.say-outcome.ensures.outcome in
    let untold : IsUntold v o p e d h learner now kept = record {
      cause = tell_cause o p stop (λ role is. why.no_file role (ap (λ (s : TellStop). Err s) is)) (λ is. why.failed (ap (λ (s : TellStop). Err s) is)) (λ is. why.memory (ap (λ (s : TellStop). Err s) is)) now stands;
      some = subst (λ (m : MealyMachine). p.taken ≢ o.taken → (t : Tried) × IsToldOf v m h (refinements_of learner) (length kept) t × TakesSome (trial_lines t) o.taken p.taken) c.requires.machine why.part;
      said = c.say-outcome.ensures.said;
      part = c.say-outcome.ensures.part;
    } in
    untold_run v o p e d end h learner kept now carried made.outcome untold
