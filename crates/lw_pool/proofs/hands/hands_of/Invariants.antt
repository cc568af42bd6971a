use Rattle.std.proofs.Common.{◌≡◌, ◌+◌, ◌≤◌, ◌++◌, map, vec_len, vec_capacity}
use Rattle.lw_pool.specs.Opening.{member_of}
use Rattle.lw_pool.proofs.hands.hands_of.Given as goal

abbrev pub invariant-loop-session : goal.invariant-loop-session
invariant-loop-session g l = record {
  made : map (λ h. h.worker) l.hands.items ++ map (member_of g.S.Sul.state) l.session-iterator.rest.items ≡ map (member_of g.S.Sul.state) l.fn.sessions.items;
  room : vec_len l.hands + l.session-iterator.rest.len ≤ vec_capacity l.hands;
}
