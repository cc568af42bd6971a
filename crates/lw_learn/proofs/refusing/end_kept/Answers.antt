use Rattle.std.proofs.Common.{List, ℕ, option_and_then, option_map, ap, subst, sym, ◌∙◌}
use Rattle.lw_report.specs.Outcomes.{StandsOrWants}
use Rattle.lw_report.specs.Text.{names_of as names_said, text_of}
use Rattle.lw_report.specs.Writing.{TakesAll, TakesSome}
use Rattle.lw_report.specs.declared.outcome.Outcome.{Outcome}
use Rattle.lw_system.specs.Systems.{declared_of, letters_of}
use Rattle.lw_learn.proofs.RunLemmas.{saved_or, saved_wants}
use Rattle.lw_learn.proofs.WriteLemmas.{text_same}
use Rattle.lw_learn.proofs.refusing.end_kept.Goals as goal

pub returns-clause-outcome : goal.returns-clause-outcome
returns-clause-outcome g c =
    let end = c.refuse.result in
    saved_or c.save_read-saved.result c.args.outcome end.outcome (subst (λ (o : Outcome). StandsOrWants o end.outcome) c.outcome-outcome.ensures c.refuse.ensures.outcome)

pub returns-clause-saved : goal.returns-clause-saved
returns-clause-saved g c =
    let end = c.refuse.result in
    record {
      was = c.save_read-saved.result;
      saved = c.save_read-saved.ensures;
      wants = saved_wants c.save_read-saved.result c.args.outcome end.outcome (subst (λ (o : Outcome). StandsOrWants o end.outcome) c.outcome-outcome.ensures c.refuse.ensures.outcome);
    }

pub returns-clause-said : goal.returns-clause-said
returns-clause-said g c none =
    let u = c.args.read in
    let end = c.refuse.result in
    let same = text_same (names_said (option_map (λ n. n.now) c.letters_read-inputs.result)) (names_said (option_map letters_of u.system)) (names_said (option_map (λ n. n.now) c.outputs_read-outputs.result)) (names_said (option_and_then declared_of u.system)) u.kept.answers end.kept.answers c.extra-extra.result end.outcome
    (ap names_said c.letters_read-inputs.ensures) (ap names_said c.outputs_read-outputs.ensures) (ap (λ k. k.answers) (sym c.refuse.ensures.kept)) in
    let extra = ap (λ (x : ℕ). text_of (names_said (option_map letters_of u.system)) (names_said (option_and_then declared_of u.system)) end.kept.answers x end.outcome) c.extra-extra.ensures.value in
    subst (λ (t : List ℕ). TakesAll t (g.E.Sink.state c.args.err.now).taken (g.E.Sink.state c.refuse.new.err).taken) (same ∙ extra) (c.refuse.ensures.said none)

pub returns-clause-part : goal.returns-clause-part
returns-clause-part g c =
    let u = c.args.read in
    let end = c.refuse.result in
    let same = text_same (names_said (option_map (λ n. n.now) c.letters_read-inputs.result)) (names_said (option_map letters_of u.system)) (names_said (option_map (λ n. n.now) c.outputs_read-outputs.result)) (names_said (option_and_then declared_of u.system)) u.kept.answers end.kept.answers c.extra-extra.result end.outcome
    (ap names_said c.letters_read-inputs.ensures) (ap names_said c.outputs_read-outputs.ensures) (ap (λ k. k.answers) (sym c.refuse.ensures.kept)) in
    let extra = ap (λ (x : ℕ). text_of (names_said (option_map letters_of u.system)) (names_said (option_and_then declared_of u.system)) end.kept.answers x end.outcome) c.extra-extra.ensures.value in
    subst (λ (t : List ℕ). TakesSome t (g.E.Sink.state c.args.err.now).taken (g.E.Sink.state c.refuse.new.err).taken) (same ∙ extra) c.refuse.ensures.part
