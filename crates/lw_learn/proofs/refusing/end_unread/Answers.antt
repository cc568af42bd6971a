use Rattle.std.proofs.Common.{◌≡◌, ℕ, [], Option, option_and_then, option_map, subst}
use Rattle.lw_report.specs.Text.{names_of as names_said}
use Rattle.lw_report.specs.Writing.{TakesAll, TakesSome, said_text}
use Rattle.lw_words.specs.Cause.{CountedFault}
use Rattle.lw_learn.specs.Saving.{IsSaved}
use Rattle.lw_system.specs.Systems.{declared_of, letters_of}
use Rattle.lw_names.specs.Naming.{Naming}
use Rattle.lw_learn.specs.bodies.UnreadState.{IsNamed, UnreadState}
use Rattle.lw_learn.proofs.RunLemmas.{none_saved}
use Rattle.lw_learn.proofs.refusing.end_unread.Goals as goal

pub returns-in-Some-clause-saved : goal.returns-in-Some-clause-saved
returns-in-Some-clause-saved g c =
    let F = g.F.Files in
    let before = c.args.files.now in
    let now = c.end_kept.new.files in
    let f = F.state before in
    let h = F.state now in
    subst (λ (u : UnreadState). IsSaved c.args.arguments.now.kept (names_said (option_map letters_of u.system)) (names_said (option_and_then declared_of u.system)) u.kept f h c.end_kept.result.outcome) c.unread.view_is c.end_kept.ensures.saved

pub returns-in-Some-clause-said : goal.returns-in-Some-clause-said
returns-in-Some-clause-said g c =
    let end = c.end_kept.result in
    subst (λ (u : UnreadState). ¬ CountedFault (g.E.Sink.state c.args.err.now).faults (g.E.Sink.state c.end_kept.new.err).faults → TakesAll (said_text (option_map letters_of u.system) (option_and_then declared_of u.system) end.kept.answers c.args.arguments.now.extra end.outcome) (g.E.Sink.state c.args.err.now).taken (g.E.Sink.state c.end_kept.new.err).taken)
    c.unread.view_is c.end_kept.ensures.said

pub returns-in-Some-clause-part : goal.returns-in-Some-clause-part
returns-in-Some-clause-part g c =
    let end = c.end_kept.result in
    subst (λ (u : UnreadState). TakesSome (said_text (option_map letters_of u.system) (option_and_then declared_of u.system) end.kept.answers c.args.arguments.now.extra end.outcome) (g.E.Sink.state c.args.err.now).taken (g.E.Sink.state c.end_kept.new.err).taken)
    c.unread.view_is c.end_kept.ensures.part

pub returns-in-None-clause-saved : goal.returns-in-None-clause-saved
returns-in-None-clause-saved g c =
    let F = g.F.Files in
    let before = c.args.files.now in
    let f = F.state before in
    let w = c.unread.inside in
    let none : w.kept.answers ≡ [] = subst (λ (names : Option Naming). IsNamed w.system w.kept.answers names) c.in-None.is c.unread.invariant in
    subst (λ (u : UnreadState). IsSaved c.args.arguments.now.kept (names_said (option_map letters_of u.system)) (names_said (option_and_then declared_of u.system)) u.kept f f c.end_bare.result.outcome) c.unread.view_is
    (none_saved c.args.arguments.now.kept (names_said (option_map letters_of w.system)) (names_said (option_and_then declared_of w.system)) w.kept.answers f c.end_bare.result.outcome none)

pub returns-in-None-clause-said : goal.returns-in-None-clause-said
returns-in-None-clause-said g c =
    let end = c.end_bare.result in
    let w = c.unread.inside in
    let extra = subst (λ (x : ℕ). ¬ CountedFault (g.E.Sink.state c.args.err.now).faults (g.E.Sink.state c.end_bare.new.err).faults → TakesAll (said_text (option_map letters_of w.system) (option_and_then declared_of w.system) end.kept.answers x end.outcome) (g.E.Sink.state c.args.err.now).taken (g.E.Sink.state c.end_bare.new.err).taken) c.extra.ensures.value c.end_bare.ensures.said in
    subst (λ (u : UnreadState). ¬ CountedFault (g.E.Sink.state c.args.err.now).faults (g.E.Sink.state c.end_bare.new.err).faults → TakesAll (said_text (option_map letters_of u.system) (option_and_then declared_of u.system) end.kept.answers c.args.arguments.now.extra end.outcome) (g.E.Sink.state c.args.err.now).taken (g.E.Sink.state c.end_bare.new.err).taken)
    c.unread.view_is extra

pub returns-in-None-clause-part : goal.returns-in-None-clause-part
returns-in-None-clause-part g c =
    let end = c.end_bare.result in
    let w = c.unread.inside in
    let extra = subst (λ (x : ℕ). TakesSome (said_text (option_map letters_of w.system) (option_and_then declared_of w.system) end.kept.answers x end.outcome) (g.E.Sink.state c.args.err.now).taken (g.E.Sink.state c.end_bare.new.err).taken) c.extra.ensures.value c.end_bare.ensures.part in
    subst (λ (u : UnreadState). TakesSome (said_text (option_map letters_of u.system) (option_and_then declared_of u.system) end.kept.answers c.args.arguments.now.extra end.outcome) (g.E.Sink.state c.args.err.now).taken (g.E.Sink.state c.end_bare.new.err).taken)
    c.unread.view_is extra
