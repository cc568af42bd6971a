use Rattle.std.proofs.Common.{List, ◌++◌, map, refl, sym, ap, ◌∙◌, arith}
use Rattle.lw_pool.specs.Opening.{member_of}
use Rattle.lw_pool.specs.declared.hands.Hand.{Hand}
use Rattle.lw_pool.proofs.HandLemmas.{hand_more, hands_all}
use Rattle.lw_pool.proofs.hands.hands_of.Goals as goal

pub loop-session-init : goal.loop-session-init
loop-session-init g c = record {
  made = ap (λ (hs : List (Hand _)). map (λ (h : Hand _). h.worker) hs ++ map (member_of g.S.Sul.state) c.into_iter-session-iterator.result.rest.items) c.in-Ok.ensures.items
      ∙ ap (map (member_of g.S.Sul.state)) c.into_iter-session-iterator.ensures.into_iter_gives.0;
  room = omega (arith, c.in-Ok.ensures.len, c.in-Ok.ensures.capacity, c.into_iter-session-iterator.ensures.into_iter_gives.1, c.len.ensures);
}

pub push_reserved-requires : goal.push_reserved-requires
push_reserved-requires g c = omega (arith, c.loop-session.invariant.room, c.in-Some.ensures.steps.1)

pub loop-session-preserved : goal.loop-session-preserved
loop-session-preserved g c = record {
  made = hand_more (member_of g.S.Sul.state) c.loop-session.hands.items c.push_reserved.new.self.items c.loop-session.session-iterator.rest.items c.next.new.self.rest.items c.args.sessions.items c.in-Some.session _ c.loop-session.invariant.made c.in-Some.ensures.steps.0 c.push_reserved.ensures.items refl;
  room = omega (arith, c.loop-session.invariant.room, c.in-Some.ensures.steps.1, c.push_reserved.ensures.len, c.push_reserved.ensures.capacity);
}

pub returns-clause-hands : goal.returns-clause-hands
returns-clause-hands g c = hands_all (member_of g.S.Sul.state) c.loop-session.hands.items c.loop-session.session-iterator.rest.items c.args.sessions.items c.loop-session.invariant.made (sym c.loop-session.session-iterator.rest.ok.0 ∙ c.in-None.ensures.steps.0)
