use Rattle.std.proofs.Common.{sym, ◌∙◌, arith}
use Rattle.lw_turn.proofs.Looks.{looks_waiting}
use Rattle.lw_turn.proofs.turnstile.Turnstile.look.Goals as goal

pub load-requires : goal.load-requires
load-requires g c =
    let k = g.C.Core in
    let t = c.self.inside.table.shared in
    let seat = c.args.seat.now in (
      c.requires.table ∙ sym c.self.view_is,
      omega (arith, c.self.invariant.0),
      looks_waiting k.actor_count k.legal k.opening k.entries (k.opening t.key.value) t.table_id.slots seat.id c.args.ticket seat.me c.requires.waits,
    )
