use Rattle.std.proofs.Common.{List, ◌++◌, length, map, sym, ap, ◌∙◌, arith}
use Rattle.lw_pool.specs.Opening.{member_of}
use Rattle.lw_pool.specs.declared.hands.Hand.{Hand}
use Rattle.lw_sul.specs.SessionState.{SessionState}
use Rattle.lw_pool.proofs.HandLemmas.{session_more, sessions_all}
use Rattle.lw_pool.proofs.hands.sessions_of.Goals as goal

pub loop-hand-init : goal.loop-hand-init
loop-hand-init g c = record {
  given = ap (λ (ss : List (SessionState _)). map (member_of g.S.Sul.state) ss ++ map (λ (h : Hand _). h.worker) c.into_iter-hand-iterator.result.rest.items) c.requires.0
      ∙ ap (map (λ (h : Hand _). h.worker)) c.into_iter-hand-iterator.ensures.into_iter_gives.0;
  room = omega (arith, c.requires.1, ap (λ (ss : List (SessionState _)). length ss) c.requires.0, c.args.room.ok.0, c.args.hands.ok.0, c.into_iter-hand-iterator.ensures.into_iter_gives.1);
}

pub push_reserved-requires : goal.push_reserved-requires
push_reserved-requires g c = omega (arith, c.loop-hand.invariant.room, c.in-Some.ensures.steps.1)

pub loop-hand-preserved : goal.loop-hand-preserved
loop-hand-preserved g c = record {
  given = session_more (member_of g.S.Sul.state) c.loop-hand.sessions.items c.push_reserved.new.self.items c.loop-hand.hand-iterator.rest.items c.next.new.self.rest.items c.args.hands.items _ c.in-Some.hand c.loop-hand.invariant.given c.in-Some.ensures.steps.0 c.push_reserved.ensures.items (ap (λ (h : Hand _). h.worker) (sym c.hand.view_is));
  room = omega (arith, c.loop-hand.invariant.room, c.in-Some.ensures.steps.1, c.push_reserved.ensures.len, c.push_reserved.ensures.capacity);
}

pub returns : goal.returns
returns g c = sessions_all (member_of g.S.Sul.state) c.loop-hand.sessions.items c.loop-hand.hand-iterator.rest.items c.args.hands.items c.loop-hand.invariant.given (sym c.loop-hand.hand-iterator.rest.ok.0 ∙ c.in-None.ensures.steps.0)
