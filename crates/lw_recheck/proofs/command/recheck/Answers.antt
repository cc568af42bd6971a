use Rattle.std.proofs.Common.{List, ℕ, refl, subst, subst₂}
use Rattle.lw_recheck.specs.Ending.{IsBare, IsTold}
use Rattle.lw_recheck.specs.Reading.{HasReadBoth}
use Rattle.lw_recheck.proofs.RunLemmas.{asked_run, never_unstarted, unread_run}
use Rattle.lw_recheck.proofs.command.recheck.Goals as goal

pub returns-in-Ok-clause-ran : goal.returns-in-Ok-clause-ran
returns-in-Ok-clause-ran g c =
    let F = g.F.Files in
    let P = g.P.Spawner in
    let O = g.O.Sink in
    let E = g.E.Sink in
    let a = c.args.arguments.now in
    let files = c.args.files.now in
    let read = c.read_both.new.files in
    let f = F.state files in
    let m = F.state read in
    let before = c.args.spawner.now in
    let b = P.state before in
    let o = O.state c.args.out.now in
    let e = E.state c.args.err.now in
    let has = subst₂ (λ (s k : List ℕ). HasReadBoth s k f m c.read_both.result) c.setup.ensures c.answers.ensures c.read_both.ensures.read in
    let now = c.recheck_task.new.spawner in
    let z = P.state now in
    let p = O.state c.recheck_task.new.out in
    let d = E.state c.recheck_task.new.err in
    asked_run a f m b z o p e d c.recheck_task.result c.read_both.result has c.in-Ok.task c.in-Ok.is c.recheck_task.ensures.asks

pub returns-in-Err-clause-ran : goal.returns-in-Err-clause-ran
returns-in-Err-clause-ran g c =
    let F = g.F.Files in
    let P = g.P.Spawner in
    let O = g.O.Sink in
    let E = g.E.Sink in
    let a = c.args.arguments.now in
    let files = c.args.files.now in
    let read = c.read_both.new.files in
    let f = F.state files in
    let m = F.state read in
    let before = c.args.spawner.now in
    let b = P.state before in
    let o = O.state c.args.out.now in
    let e = E.state c.args.err.now in
    let has = subst₂ (λ (s k : List ℕ). HasReadBoth s k f m c.read_both.result) c.setup.ensures c.answers.ensures c.read_both.ensures.read in
    let d = E.state c.end_refused.new.err in
    let end = c.end_refused.result in
    unread_run a f m b b o o e d end c.read_both.result has c.in-Err.outcome c.in-Err.is refl
    (subst (λ ks. IsBare ks end) c.new.ensures c.end_refused.ensures.bare)
    (subst (λ ks. IsTold _ _ c.in-Err.outcome ks o o e d end) c.new.ensures (c.end_refused.ensures.told (O.state c.args.out.now)))

pub returns-in-Err-clause-why : goal.returns-in-Err-clause-why
returns-in-Err-clause-why g c cause came =
    let F = g.F.Files in
    let P = g.P.Spawner in
    let O = g.O.Sink in
    let E = g.E.Sink in
    let a = c.args.arguments.now in
    let files = c.args.files.now in
    let read = c.read_both.new.files in
    let f = F.state files in
    let m = F.state read in
    let before = c.args.spawner.now in
    let b = P.state before in
    let o = O.state c.args.out.now in
    let e = E.state c.args.err.now in
    let has = subst₂ (λ (s k : List ℕ). HasReadBoth s k f m c.read_both.result) c.setup.ensures c.answers.ensures c.read_both.ensures.read in
    let d = E.state c.end_refused.new.err in
    let end = c.end_refused.result in
    absurd (never_unstarted a f m b b o o e d end c.read_both.result has c.in-Err.outcome cause c.in-Err.is (c.end_refused.ensures.unstarted cause came))
