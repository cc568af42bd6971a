use Rattle.std.proofs.Common.{sym, ◌∙◌, arith}
use Rattle.lw_turn.proofs.Draws.{draws_idle}
use Rattle.lw_turn.proofs.turnstile.Turnstile.draw.Goals as goal

pub fetch_add-requires : goal.fetch_add-requires
fetch_add-requires g c =
    let k = g.C.Core in
    let t = c.self.inside.table.shared in
    let seat = c.args.seat.now in (
      c.requires.table ∙ sym c.self.view_is,
      omega (arith, c.self.invariant.0),
      draws_idle k.actor_count k.legal k.opening k.entries k.most g.met.C.Core.bounded (k.opening t.key.value) t.table_id.slots seat.id seat.me c.requires.idle.0 c.requires.idle.1,
    )
