use Rattle.std.proofs.Common.{ℕ, List, length, None, ap, sym, ◌∙◌, subst, arith}
use Rattle.std.proofs.lemmas.List.{length_push}
use Rattle.lw_words.specs.Cause.{CountedFault}
use Rattle.lw_sul.specs.SessionState.{SessionState}
use Rattle.lw_line.specs.LineState.{LineState}
use Rattle.lw_system.specs.Spawners.{StartsLinks}
use Rattle.lw_children.specs.Crews.{HasBegun}
use Rattle.lw_children.proofs.BegunLemmas.{none_begun, more_begun, begun_with}
use Rattle.lw_children.proofs.StartLemmas.{none_starts, one_link, then_starts, then_some}
use Rattle.lw_children.proofs.starting.start_all.Goals as goal

pub loop-instance-init : goal.loop-instance-init
loop-instance-init g c =
    let none = c.in-Ok.ensures.items in (
      (ap (λ (l : List (SessionState (LineState g.row.P-Link.Denot))). length l) none, c.in-Ok.ensures.len, omega (arith, c.in-Ok.ensures.capacity, c.from.ensures)),
      subst (λ (l : List (SessionState (LineState g.row.P-Link.Denot))). StartsLinks c.args.command.now.words (g.P.Spawner.state c.args.spawner.now) (g.P.Spawner.state c.args.spawner.now) (length l)) (sym none) (none_starts c.args.command.now.words (g.P.Spawner.state c.args.spawner.now)),
      subst (λ (l : List (SessionState (LineState g.row.P-Link.Denot))). HasBegun g.P.Link.Link.state c.args.command.now.inputs c.args.command.now.outputs (g.P.Spawner.state c.args.spawner.now) l None) (sym none) (none_begun g.P.Link.Link.state c.args.command.now.inputs c.args.command.now.outputs (g.P.Spawner.state c.args.spawner.now)),
    )

pub push_reserved-requires : goal.push_reserved-requires
push_reserved-requires g c = omega (arith, c.loop-instance.invariant.0.1, c.loop-instance.invariant.0.2)

pub returns-in-Err-start_one-clause-few : goal.returns-in-Err-start_one-clause-few
returns-in-Err-start_one-clause-few g c = (omega (arith, c.loop-instance.invariant.0.0, one_link c.in-Err-start_one.unmade.link), omega (arith, c.loop-instance.invariant.0.0))

pub returns-in-Err-start_one-clause-broken : goal.returns-in-Err-start_one-clause-broken
returns-in-Err-start_one-clause-broken g c =
    begun_with g.P.Link.Link.state c.args.command.now.inputs c.args.command.now.outputs c.args.command.now.words (g.P.Spawner.state c.args.spawner.now) (g.P.Spawner.state c.loop-instance.spawner) c.loop-instance.sessions.items c.loop-instance.invariant.2 c.loop-instance.invariant.1 c.in-Err-start_one.unmade.link c.in-Err-start_one.ensures.unmade c.in-Err-start_one.ensures.earlier_too

pub returns-in-Err-start_one-clause-some : goal.returns-in-Err-start_one-clause-some
returns-in-Err-start_one-clause-some g c =
    then_some c.args.command.now.words (g.P.Spawner.state c.args.spawner.now) (g.P.Spawner.state c.loop-instance.spawner) (g.P.Spawner.state c.start_one.new.spawner) (length c.loop-instance.sessions.items) _ c.loop-instance.invariant.1 c.in-Err-start_one.ensures.none

pub returns-in-Err-start_one-clause-failed : goal.returns-in-Err-start_one-clause-failed
returns-in-Err-start_one-clause-failed g c =
    λ e. let f = c.in-Err-start_one.ensures.failed e in (f.0, subst (λ (n : ℕ). CountedFault n (g.P.Spawner.state c.start_one.new.spawner).faults) c.loop-instance.invariant.1.faults f.1)

pub loop-instance-preserved : goal.loop-instance-preserved
loop-instance-preserved g c =
    let inv = c.loop-instance.invariant in
    let sessions = c.loop-instance.sessions.items in
    let s = c.in-Ok-start_one.session in
    let pushed = c.push_reserved.ensures.items in
    let long = length_push sessions s in (
      (ap (λ (l : List (SessionState (LineState g.row.P-Link.Denot))). length l) pushed ∙ omega (arith, long, inv.0.0), omega (arith, c.push_reserved.ensures.len, inv.0.1), omega (arith, c.push_reserved.ensures.capacity, inv.0.2)),
      subst (λ (l : List (SessionState (LineState g.row.P-Link.Denot))). StartsLinks c.args.command.now.words (g.P.Spawner.state c.args.spawner.now) (g.P.Spawner.state c.start_one.new.spawner) (length l)) (sym pushed)
          (subst (λ (n : ℕ). StartsLinks c.args.command.now.words (g.P.Spawner.state c.args.spawner.now) (g.P.Spawner.state c.start_one.new.spawner) n) (sym long) (then_starts c.args.command.now.words (g.P.Spawner.state c.args.spawner.now) (g.P.Spawner.state c.loop-instance.spawner) (g.P.Spawner.state c.start_one.new.spawner) (length sessions) 1 inv.1 c.in-Ok-start_one.ensures.one)),
      subst (λ (l : List (SessionState (LineState g.row.P-Link.Denot))). HasBegun g.P.Link.Link.state c.args.command.now.inputs c.args.command.now.outputs (g.P.Spawner.state c.args.spawner.now) l None) (sym pushed)
          (more_begun g.P.Link.Link.state c.args.command.now.inputs c.args.command.now.outputs c.args.command.now.words (g.P.Spawner.state c.args.spawner.now) (g.P.Spawner.state c.loop-instance.spawner) sessions inv.2 inv.1 s c.from-in-loop-instance.result (c.from-in-loop-instance.ensures ∙ sym inv.0.0) c.in-Ok-start_one.ensures.made.0 c.in-Ok-start_one.ensures.made.1 c.in-Ok-start_one.ensures.earlier),
    )

pub returns-clause-count : goal.returns-clause-count
returns-clause-count g c =
    omega (arith, c.loop-instance.invariant.0.0)

pub returns-clause-made : goal.returns-clause-made
returns-clause-made g c =
    c.loop-instance.invariant.2

pub returns-clause-all : goal.returns-clause-all
returns-clause-all g c =
    subst (λ (n : ℕ). StartsLinks c.args.command.now.words (g.P.Spawner.state c.args.spawner.now) (g.P.Spawner.state c.loop-instance.spawner) n) (omega (arith, c.loop-instance.invariant.0.0)) c.loop-instance.invariant.1
