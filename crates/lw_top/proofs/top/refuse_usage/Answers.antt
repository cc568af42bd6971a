use Rattle.std.proofs.Common.{◌∙◌, ℕ, List, inl, inr, subst}
use Rattle.lw_report.specs.Writing.{TakesAll, TakesSome}
use Rattle.lw_top.proofs.top.refuse_usage.Goals as goal

pub returns-in-Ok-clause-ended : goal.returns-in-Ok-clause-ended
returns-in-Ok-clause-ended g c =
    let E = g.E.Sink in
    let end = c.refuse_with.ensures in
    let before = E.state c.args.err.now in
    let now = E.state c.refuse_with.new.err in
    let same = c.as_str.ensures.value ∙ c.in-Ok.ensures in
    inl (record {
      outcome = end.outcome;
      model = end.model;
      learner = end.learner;
      kept = end.kept;
      outputs = end.outputs;
      said = λ quiet. subst (λ (t : List ℕ). TakesAll t before.taken now.taken) same (end.said quiet);
      part = subst (λ (t : List ℕ). TakesSome t before.taken now.taken) same end.part;
    })

pub returns-in-Err-clause-ended : goal.returns-in-Err-clause-ended
returns-in-Err-clause-ended g c = inr (record { outcome = c.without_arguments.ensures.outcome; tells = c.without_arguments.ensures.ended })
