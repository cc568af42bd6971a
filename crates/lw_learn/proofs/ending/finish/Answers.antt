use Rattle.std.proofs.Common.{List, Result, ℕ, ap, subst, sym}
use Rattle.lw_words.specs.Cause.{CountedFault}
use Rattle.lw_rounds.specs.declared.learned.Learned.{Learned}
use Rattle.lw_rounds.specs.declared.stops.LearnStop.{LearnStop}
use Rattle.lw_report.specs.Text.{text_of}
use Rattle.lw_report.specs.Writing.{TakesAll, TakesSome}
use Rattle.lw_learn.specs.Ending.{IsToldOf}
use Rattle.lw_learn.specs.Saving.{HasSaved}
use Rattle.lw_system.specs.Systems.{letters_of}
use Rattle.lw_learn.proofs.RunLemmas.{end_of, told_stop}
use Rattle.lw_learn.proofs.ending.finish.Goals as goal

pub returns-in-Ok-clause-told : goal.returns-in-Ok-clause-told
returns-in-Ok-clause-told g c =
    let F = g.F.Files in
    let O = g.O.Sink in
    let E = g.E.Sink in
    let a = c.args.arguments.now in
    let s = c.args.system.now in
    let naming = c.args.found.names in
    let kept = c.args.found.kept.answers in
    let before = c.args.files.now in
    let between = c.save_kept-saved.new.files in
    let after = c.end_model.new.files in
    let f = F.state before in
    let m = F.state between in
    let h = F.state after in
    let o = O.state c.args.out.now in
    let p = O.state c.end_model.new.out in
    let e = E.state c.args.err.now in
    let d = E.state c.end_model.new.err in
    let was = c.save_kept-saved.result in
    let saved = subst (λ (l : List (List ℕ)). HasSaved a.kept l naming.names kept f m was) c.inputs.ensures c.save_kept-saved.ensures in
    end_of a s naming c.args.found.learned kept was f m h o p e d c.end_model.result saved
    (subst (λ (x : Result Learned LearnStop). IsToldOf a s naming x kept was m h o p e d c.end_model.result) (sym c.in-Ok.is) c.end_model.ensures.told)

pub returns-in-Err-clause-told : goal.returns-in-Err-clause-told
returns-in-Err-clause-told g c =
    let F = g.F.Files in
    let O = g.O.Sink in
    let E = g.E.Sink in
    let a = c.args.arguments.now in
    let s = c.args.system.now in
    let naming = c.args.found.names in
    let kept = c.args.found.kept.answers in
    let before = c.args.files.now in
    let between = c.save_kept-saved.new.files in
    let f = F.state before in
    let m = F.state between in
    let o = O.state c.args.out.now in
    let e = E.state c.args.err.now in
    let d = E.state c.end_stop.new.err in
    let w = c.end_stop.ensures in
    let end = c.end_stop.result in
    let was = c.save_kept-saved.result in
    let saved = subst (λ (l : List (List ℕ)). HasSaved a.kept l naming.names kept f m was) c.inputs.ensures c.save_kept-saved.ensures in
    end_of a s naming c.args.found.learned kept was f m m o o e d end saved
    (subst (λ (x : Result Learned LearnStop). IsToldOf a s naming x kept was m m o o e d end) (sym c.in-Err.is)
    (told_stop a s naming c.in-Err.came kept was m o e d end w.outcome w.wants w.model w.learner
    (ap (λ k. k.answers) w.kept)
    w.outputs
    (subst (λ (x : ℕ). ¬ CountedFault e.faults d.faults → TakesAll (text_of (letters_of s) naming.names kept x end.outcome) e.taken d.taken) c.extra.ensures.value w.said)
    (subst (λ (x : ℕ). TakesSome (text_of (letters_of s) naming.names kept x end.outcome) e.taken d.taken) c.extra.ensures.value w.part)
    w.counts))
