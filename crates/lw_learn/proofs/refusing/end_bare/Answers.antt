use Rattle.std.proofs.Common.{inr, ℕ, List, [], option_and_then, option_map, ap, subst, sym}
use Rattle.lw_report.specs.Text.{names_of as names_said}
use Rattle.lw_report.specs.Writing.{TakesAll, TakesSome}
use Rattle.lw_system.specs.Systems.{declared_of, letters_of}
use Rattle.lw_learn.proofs.RunLemmas.{text_memory, wanted, wanted_or}
use Rattle.lw_learn.proofs.WriteLemmas.{text_same}
use Rattle.lw_learn.proofs.refusing.end_bare.Goals as goal

pub returns-in_default-clause-outcome : goal.returns-in_default-clause-outcome
returns-in_default-clause-outcome g c = inr (wanted c.refuse.result.outcome c.refuse.ensures.outcome)

pub returns-in_default-clause-part : goal.returns-in_default-clause-part
returns-in_default-clause-part g c =
    let u = c.args in
    let end = c.refuse.result in
    let same = text_memory [] (names_said (option_map letters_of u.system)) [] (names_said (option_and_then declared_of u.system)) u.kept.answers end.kept.answers c.args.extra c.args.extra end.outcome (wanted end.outcome c.refuse.ensures.outcome) in
    subst (λ (t : List ℕ). TakesSome t (g.E.Sink.state c.args.err.now).taken (g.E.Sink.state c.refuse.new.err).taken) same c.refuse.ensures.part

pub returns-clause-outcome : goal.returns-clause-outcome
returns-clause-outcome g c = wanted_or c.args.outcome c.refuse-2.result.outcome c.refuse-2.ensures.outcome

pub returns-clause-said : goal.returns-clause-said
returns-clause-said g c none =
    let u = c.args in
    let end = c.refuse-2.result in
    let same = text_same (names_said (option_map (λ n. n.now) c.letters_read-inputs.result)) (names_said (option_map letters_of u.system)) (names_said (option_map (λ n. n.now) c.outputs_read-names.result)) (names_said (option_and_then declared_of u.system)) u.kept.answers end.kept.answers c.args.extra end.outcome
    (ap names_said c.letters_read-inputs.ensures) (ap names_said c.outputs_read-names.ensures) (ap (λ k. k.answers) (sym c.refuse-2.ensures.kept)) in
    subst (λ (t : List ℕ). TakesAll t (g.E.Sink.state c.args.err.now).taken (g.E.Sink.state c.refuse-2.new.err).taken) same (c.refuse-2.ensures.said none)

pub returns-clause-part : goal.returns-clause-part
returns-clause-part g c =
    let u = c.args in
    let end = c.refuse-2.result in
    let same = text_same (names_said (option_map (λ n. n.now) c.letters_read-inputs.result)) (names_said (option_map letters_of u.system)) (names_said (option_map (λ n. n.now) c.outputs_read-names.result)) (names_said (option_and_then declared_of u.system)) u.kept.answers end.kept.answers c.args.extra end.outcome
    (ap names_said c.letters_read-inputs.ensures) (ap names_said c.outputs_read-names.ensures) (ap (λ k. k.answers) (sym c.refuse-2.ensures.kept)) in
    subst (λ (t : List ℕ). TakesSome t (g.E.Sink.state c.args.err.now).taken (g.E.Sink.state c.refuse-2.new.err).taken) same c.refuse-2.ensures.part
