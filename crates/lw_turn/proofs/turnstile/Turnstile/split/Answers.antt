use Rattle.std.proofs.Common.{◌<◌, ◌∙◌, ap, sym, subst, arith}
use Rattle.lw_turn.specs.Held.{Held}
use Rattle.lw_turn.proofs.Parts.{splits_idle}
use Rattle.lw_turn.proofs.turnstile.Turnstile.split.Goals as goal

pub split_seat-seat-requires : goal.split_seat-seat-requires
split_seat-seat-requires g c =
    let k = g.C.Core in
    let t = c.self.inside.table.shared in
    let seat = c.first.inside.seat in (
      ap (λ h. h.turnstile) c.first.view_is ∙ (c.requires.ours ∙ sym c.self.view_is),
      omega (arith, c.self.invariant.0),
      splits_idle k.actor_count k.legal k.opening k.entries (k.opening t.key.value) seat.id seat.me.0 c.first.invariant.idle (ap (λ h. h.knows.number) c.first.view_is ∙ c.requires.first)
          (subst (λ (h : Held g.row.C-Opening.Denot g.row.C-Ask.Denot g.row.C-Reply.Denot). h.knows.made < k.actor_count h.knows.opening) (sym c.first.view_is) c.requires.room),
    )
