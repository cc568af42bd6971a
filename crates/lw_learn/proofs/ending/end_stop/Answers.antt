use Rattle.std.proofs.Common.{◌≡◌, ◌∙◌, ℕ, List, option_map, refl, ap, subst}
use Rattle.lw_report.specs.Text.{names_of as names_said}
use Rattle.lw_report.specs.Writing.{TakesAll, TakesSome}
use Rattle.lw_system.specs.Systems.{letters_of}
use Rattle.lw_learn.proofs.WriteLemmas.{text_same}
use Rattle.lw_report.specs.Learnings.{learn_outcome}
use Rattle.lw_report.specs.Outcomes.{StandsOrWants}
use Rattle.lw_report.specs.declared.outcome.Outcome.{Outcome}
use Rattle.lw_learn.specs.Saving.{saved_outcome}
use Rattle.lw_learn.proofs.RunLemmas.{saved_stands, saved_wants}
use Rattle.lw_learn.proofs.ending.end_stop.Goals as goal

pub returns-in-Ok-clause-outcome : goal.returns-in-Ok-clause-outcome
returns-in-Ok-clause-outcome g c =
    let why = learn_outcome c.args.ended.came in
    let is : c.outcome-outcome.result ≡ saved_outcome c.args.ended.saved why = c.outcome-outcome.ensures ∙ ap (λ (o : Outcome). saved_outcome c.args.ended.saved o) c.learn_outcome.ensures in
    saved_stands c.args.ended.saved c.args.ended.came c.refuse.result.outcome (subst (λ (o : Outcome). StandsOrWants o c.refuse.result.outcome) is c.refuse.ensures.outcome)

pub returns-in-Ok-clause-wants : goal.returns-in-Ok-clause-wants
returns-in-Ok-clause-wants g c =
    let why = learn_outcome c.args.ended.came in
    let is : c.outcome-outcome.result ≡ saved_outcome c.args.ended.saved why = c.outcome-outcome.ensures ∙ ap (λ (o : Outcome). saved_outcome c.args.ended.saved o) c.learn_outcome.ensures in
    saved_wants c.args.ended.saved why c.refuse.result.outcome (subst (λ (o : Outcome). StandsOrWants o c.refuse.result.outcome) is c.refuse.ensures.outcome)

pub returns-in-Ok-clause-said : goal.returns-in-Ok-clause-said
returns-in-Ok-clause-said g c none =
    let kept = c.args.ended.kept.answers in
    let names = names_said (option_map (λ n. n.now) c.as_ref.result) in
    let same = text_same c.inputs.result.now (letters_of c.args.system.now) names c.args.ended.names.names kept kept c.args.extra c.refuse.result.outcome c.inputs.ensures (ap names_said c.as_ref.ensures.value ∙ c.in-Ok.ensures) refl in
    subst (λ (t : List ℕ). TakesAll t (g.E.Sink.state c.args.err.now).taken (g.E.Sink.state c.refuse.new.err).taken) same (c.refuse.ensures.said none)

pub returns-in-Ok-clause-part : goal.returns-in-Ok-clause-part
returns-in-Ok-clause-part g c =
    let kept = c.args.ended.kept.answers in
    let names = names_said (option_map (λ n. n.now) c.as_ref.result) in
    let same = text_same c.inputs.result.now (letters_of c.args.system.now) names c.args.ended.names.names kept kept c.args.extra c.refuse.result.outcome c.inputs.ensures (ap names_said c.as_ref.ensures.value ∙ c.in-Ok.ensures) refl in
    subst (λ (t : List ℕ). TakesSome t (g.E.Sink.state c.args.err.now).taken (g.E.Sink.state c.refuse.new.err).taken) same c.refuse.ensures.part
