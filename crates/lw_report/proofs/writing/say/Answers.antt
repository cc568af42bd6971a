use Rattle.std.proofs.Common.{List, ℕ, option_map, subst}
use Rattle.lw_report.specs.Text.{names_of}
use Rattle.lw_report.specs.Writing.{TakesAll, TakesSome}
use Rattle.lw_report.proofs.writing.say.Goals as goal

pub returns-in-Some-clause-said : goal.returns-in-Some-clause-said
returns-in-Some-clause-said g c none =
    let is = c.in-Some.ensures.some (names_of (option_map (λ n. n.now) c.args.said.inputs)) (names_of (option_map (λ n. n.now) c.args.said.outputs)) c.args.kept.now.answers c.args.extra in
    subst (λ (t : List ℕ). TakesAll t (g.E.Sink.state c.args.err.now).taken (g.E.Sink.state c.put_text.new.sink).taken) is (c.put_text.ensures.whole none)

pub returns-in-Some-clause-part : goal.returns-in-Some-clause-part
returns-in-Some-clause-part g c =
    let is = c.in-Some.ensures.some (names_of (option_map (λ n. n.now) c.args.said.inputs)) (names_of (option_map (λ n. n.now) c.args.said.outputs)) c.args.kept.now.answers c.args.extra in
    subst (λ (t : List ℕ). TakesSome t (g.E.Sink.state c.args.err.now).taken (g.E.Sink.state c.put_text.new.sink).taken) is c.put_text.ensures.part
