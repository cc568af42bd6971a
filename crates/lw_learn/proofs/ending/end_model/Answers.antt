use Rattle.std.proofs.Common.{◌≡◌, ◌∙◌, [], ℕ, Some, ap, subst, sym}
use Rattle.lw_mealy.specs.Machine.{MealyMachine}
use Rattle.lw_rounds.specs.Learner.{refinements_of}
use Rattle.lw_report.specs.declared.outcome.Outcome.{Outcome}
use Rattle.lw_report.specs.Outcomes.{StandsOrWants}
use Rattle.lw_report.specs.Text.{text_of}
use Rattle.lw_report.specs.Writing.{TakesAll, TakesSome}
use Rattle.lw_words.specs.Cause.{CountedFault}
use Rattle.lw_system.specs.declared.goal.Goal.{Goal}
use Rattle.lw_learn.specs.Outcomes.{IsUntold, told_of}
use Rattle.lw_learn.specs.Writing.{IsModelText}
use Rattle.lw_learn.proofs.RunLemmas.{HasWritten, saved_wants, told_left, told_written, untold_saved}
use Rattle.lw_learn.proofs.ending.end_model.Goals as goal

pub returns-in-Ok-clause-told : goal.returns-in-Ok-clause-told
returns-in-Ok-clause-told g c =
    let F = g.F.Files in
    let O = g.O.Sink in
    let E = g.E.Sink in
    let before = c.args.files.now in
    let files = c.write_out.new.files in
    let f = F.state before in
    let h = F.state files in
    let o = O.state c.args.out.now in
    let p = O.state c.write_out.new.out in
    let e = E.state c.args.err.now in
    let d = E.state c.write_out.new.err in
    let is = c.in-Ok.ensures in
    let w = c.write_out.ensures in
    let m = c.in-Ok.machine in
    let learner = c.args.ended.came.learner in
    let a = c.args.arguments.now in
    let outcome : c.in-Ok.report.outcome ≡ told_of a.goal m.mealy (refinements_of learner) =
    is.outcome
    ∙ (ap (λ (k : Goal). told_of k c.args.ended.came.model c.refinements.result) c.goal-goal.ensures
    ∙ (ap (λ (n : ℕ). told_of a.goal c.args.ended.came.model n) c.refinements.ensures.value ∙ ap (λ (h : MealyMachine). told_of a.goal h (refinements_of learner)) (sym is.mealy))) in
    told_written c.args.arguments.now c.args.system.now c.args.ended.names c.args.ended.came c.in-Ok.machine c.args.ended.kept.answers c.args.ended.saved f h o p e d c.write_out.result c.in-Ok.report.text.items is.inputs is.outputs is.mealy
    (w.outputs ∙ c.outputs_of-outputs.ensures)
    (subst (λ (k : Goal). IsModelText k m c.in-Ok.report.text.items) c.goal-goal.ensures is.text)
    (subst (λ (x : Outcome). HasWritten a c.in-Ok.report.text.items x m learner c.args.ended.kept.answers c.args.ended.saved f h o p e d c.write_out.result) outcome (record {
      outcome = w.outcome;
      model = w.model;
      learner_is = w.learner;
      refinements = w.refinements;
      kept_is = ap (λ k. k.answers) w.kept;
      files = w.files;
      out = w.out;
      beside = w.beside;
      may = w.may;
      role = w.role;
      failed = w.failed;
      refused = w.refused;
      said = w.said;
      part = w.part;
      reads = w.reads;
      quiet = w.quiet;
      counts = w.counts;
    }))

pub returns-in-Err-clause-told : goal.returns-in-Err-clause-told
returns-in-Err-clause-told g c =
    let F = g.F.Files in
    let O = g.O.Sink in
    let E = g.E.Sink in
    let before = c.args.files.now in
    let f = F.state before in
    let o = O.state c.args.out.now in
    let e = E.state c.args.err.now in
    let d = E.state c.leave_model.new.err in
    let w = c.leave_model.ensures in
    let a = c.args.arguments.now in
    let was = c.args.ended.saved in
    let why = c.in-Err.untold.outcome in
    let rows = c.args.ended.came.model.rows in
    let end = c.leave_model.result in
    let kept = c.args.ended.kept.answers in
    let stands = subst (λ (x : Outcome). StandsOrWants x end.outcome) c.outcome-told.ensures w.outcome in
    let untold = untold_saved a.goal rows was why end.outcome (subst (λ (k : Goal). IsUntold k rows why) c.goal-goal.ensures c.in-Err.ensures.untold) stands in
    told_left a c.args.system.now c.args.ended.names c.args.ended.came kept was f o e d end c.requires.few c.requires.sizes untold
    (saved_wants was why end.outcome stands)
    (w.model ∙ ap (λ (m : MealyMachine). Some m) c.in-Err.ensures.back)
    w.learner w.refinements
    (ap (λ k. k.answers) w.kept)
    (w.outputs ∙ c.outputs_of-outputs.ensures)
    (subst (λ (x : ℕ). ¬ CountedFault e.faults d.faults → TakesAll (text_of [] [] kept x end.outcome) e.taken d.taken) c.extra.ensures.value w.said)
    (subst (λ (x : ℕ). TakesSome (text_of [] [] kept x end.outcome) e.taken d.taken) c.extra.ensures.value w.part)
    w.counts
