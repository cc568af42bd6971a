use Rattle.lw_turn.proofs.Asking.{asked_after, number_kept}
use Rattle.lw_turn.proofs.turnstile.Turnstile.turn.Goals as goal

pub end-requires-clause-asked : goal.end-requires-clause-asked
end-requires-clause-asked g c =
    let k = g.C.Core in
    let a = c.apply-reply.ensures in
    let served = c.wait.ensures.served in
    let number = number_kept k.actor_count k.opening k.entries c.pass.inside.number c.draw-ticket.result c.pass.inside.seat.me.0.view c.draw-ticket.new.seat.me c.wait.new.seat.me served.0
    c.pass.invariant.number c.draw-ticket.ensures.waits served.1 in (
      a.asked.0,
      c.args.ask,
      c.apply-reply.result,
      asked_after k.opening k.entries k.legal a.asked.0 c.args.ask c.apply-reply.result c.wait.new.seat.me.0 c.pass.inside.number c.apply-reply.new.seat.me a.place number a.asked.1,
    )
