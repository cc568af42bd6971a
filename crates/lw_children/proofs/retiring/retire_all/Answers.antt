use Rattle.std.proofs.Common.{ℕ, ◌<◌, List, [], ◌∷◌, ◌++◌, map, Contains, ap, sym, ◌∙◌, subst, append_assoc}
use Rattle.std.specs.Vec.Iter.{into_iter_items}
use Rattle.lw_sul.specs.SessionState.{SessionState}
use Rattle.lw_line.specs.LineState.{LineState}
use Rattle.lw_children.specs.Crews.{RetiresAll}
use Rattle.lw_children.proofs.RetireLemmas.{all_done, borne_seen, none_retired, was_started, not_retired, one_more_retired}
use Rattle.lw_children.proofs.retiring.retire_all.Goals as goal

pub loop-session-init : goal.loop-session-init
loop-session-init g c = record {
  can = tt;
  ends = tt;
  rest = sym c.into_iter-session-iterator.ensures.into_iter_gives.0;
  retires = none_retired g.P.Link.Link.state (g.P.Spawner.state c.args.spawner.now);
}

pub retire-requires-clause-started : goal.retire-requires-clause-started
retire-requires-clause-started g c =
    subst (λ (n : ℕ). n < (g.P.Spawner.state c.loop-session.spawner).started) (ap (λ x. (g.P.Link.Link.state x).number) (sym c.link_of-link.ensures.link))
    (was_started g.P.Link.Link.state c.args.sessions.items c.loop-session.yielded (into_iter_items c.next.new.self) c.in-Some.session (g.P.Spawner.state c.args.spawner.now) (g.P.Spawner.state c.loop-session.spawner) c.requires.linked c.loop-session.invariant.retires (c.loop-session.invariant.rest ∙ ap (λ (l : List (SessionState (LineState g.row.P-Link.Denot))). c.loop-session.yielded ++ l) c.in-Some.ensures.steps.0))

pub retire-requires-clause-once : goal.retire-requires-clause-once
retire-requires-clause-once g c =
    subst (λ (n : ℕ). ¬ Contains (map (λ r. r.number) (g.P.Spawner.state c.loop-session.spawner).retired) n) (ap (λ x. (g.P.Link.Link.state x).number) (sym c.link_of-link.ensures.link))
    (not_retired g.P.Link.Link.state c.args.sessions.items c.loop-session.yielded (into_iter_items c.next.new.self) c.in-Some.session (g.P.Spawner.state c.args.spawner.now) (g.P.Spawner.state c.loop-session.spawner) c.requires.linked c.loop-session.invariant.retires (c.loop-session.invariant.rest ∙ ap (λ (l : List (SessionState (LineState g.row.P-Link.Denot))). c.loop-session.yielded ++ l) c.in-Some.ensures.steps.0))

pub loop-session-preserved : goal.loop-session-preserved
loop-session-preserved g c = record {
  can = tt;
  ends = tt;
  rest = c.loop-session.invariant.rest ∙ (ap (λ (l : List (SessionState (LineState g.row.P-Link.Denot))). c.loop-session.yielded ++ l) c.in-Some.ensures.steps.0 ∙ sym (append_assoc c.loop-session.yielded (c.in-Some.session ∷ []) (into_iter_items c.next.new.self)));
  retires = one_more_retired g.P.Link.Link.state c.args.sessions.items c.loop-session.yielded (into_iter_items c.next.new.self) c.in-Some.session (g.P.Spawner.state c.args.spawner.now) (g.P.Spawner.state c.loop-session.spawner) c.requires.linked c.loop-session.invariant.retires (c.loop-session.invariant.rest ∙ ap (λ (l : List (SessionState (LineState g.row.P-Link.Denot))). c.loop-session.yielded ++ l) c.in-Some.ensures.steps.0)
      (g.P.Link.Link.state c.link_of-link.result) (g.P.Spawner.state c.retire.new.self)
      (borne_seen g.P.Link.Link.state c.in-Some.session (g.P.Link.Link.state c.link_of-link.result) (ap (λ x. (g.P.Link.Link.state x).number) c.link_of-link.ensures.link) c.link_of-link.ensures.bears) c.retire.ensures.retired c.retire.ensures.started c.retire.ensures.faults c.retire.ensures.commands;
}

pub returns : goal.returns
returns g c =
    let it = c.loop-session.session-iterator in
    subst (λ (l : List (SessionState (LineState g.row.P-Link.Denot))). RetiresAll g.P.Link.Link.state l (g.P.Spawner.state c.args.spawner.now) (g.P.Spawner.state c.loop-session.spawner))
    (all_done c.args.sessions.items c.loop-session.yielded (into_iter_items it) c.loop-session.invariant.rest (sym it.rest.ok.0 ∙ c.in-None.ensures.steps.0))
    c.loop-session.invariant.retires
