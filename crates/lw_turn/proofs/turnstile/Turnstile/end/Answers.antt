use Rattle.std.proofs.Common.{sym, ◌∙◌, arith, refl}
use Rattle.lw_turn.proofs.Ends.{ends_turning}
use Rattle.lw_turn.proofs.turnstile.Turnstile.end.Goals as goal

pub fetch_add-requires : goal.fetch_add-requires
fetch_add-requires g c =
    let k = g.C.Core in
    let t = c.self.inside.table.shared in
    let seat = c.args.seat.now in
    let has = c.requires.asked in (
      c.requires.table ∙ sym c.self.view_is,
      omega (arith, c.self.invariant.0),
      ends_turning k.actor_count k.legal k.opening k.entries k.most g.met.C.Core.bounded (k.opening t.key.value) t.table_id.slots seat.id c.requires.turning.0 seat.me has.0
          record { actor = seat.me.0.view.number; ask = has.1; reply = has.2 } c.requires.turning.1 has.3.carries refl has.3.lawful,
    )
