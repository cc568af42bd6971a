use Rattle.std.proofs.Common.{◌≡◌, ◌+◌, ◌≤◌, ◌++◌, map, vec_len, vec_capacity}
use Rattle.lw_pool.specs.Opening.{member_of}
use Rattle.lw_pool.proofs.hands.sessions_of.Given as goal

abbrev pub invariant-loop-hand : goal.invariant-loop-hand
invariant-loop-hand g l = record {
  given : map (member_of g.S.Sul.state) l.sessions.items ++ map (λ h. h.worker) l.hand-iterator.rest.items ≡ map (λ h. h.worker) l.fn.hands.items;
  room : vec_len l.sessions + l.hand-iterator.rest.len ≤ vec_capacity l.sessions;
}
