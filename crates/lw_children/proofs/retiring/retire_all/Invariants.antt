use Rattle.std.proofs.Common.{◌≡◌, ◌++◌}
use Rattle.std.specs.Vec.Iter.{into_iter_items}
use Rattle.lw_children.specs.Crews.{RetiresAll}
use Rattle.lw_children.proofs.retiring.retire_all.Given as goal

abbrev pub invariant-loop-session : goal.invariant-loop-session
invariant-loop-session g l = record {
  can : (goal.iterator-loop-session g).can_next l.session-iterator;
  ends : (goal.iterator-loop-session g).is_finite l.session-iterator;
  rest : l.fn.sessions.items ≡ l.yielded ++ into_iter_items l.session-iterator;
  retires : RetiresAll g.P.Link.Link.state l.yielded
      (g.P.Spawner.state l.fn.spawner)
      (g.P.Spawner.state l.spawner);
}
