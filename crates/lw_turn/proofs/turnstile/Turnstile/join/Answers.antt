use Rattle.std.proofs.Common.{sym, ap, ◌∙◌, arith}
use Rattle.lw_turn.proofs.Unions.{joins_idle}
use Rattle.lw_turn.specs.Steps.{with_ended}
use Rattle.lw_turn.proofs.Learns.{learns_idle}
use Rattle.lw_turn.proofs.Asking.{idle_still}
use Rattle.lw_turn.proofs.turnstile.Turnstile.join.Goals as goal

pub join_seat-requires : goal.join_seat-requires
join_seat-requires g c =
    let k = g.C.Core in
    let t = c.self.inside.table.shared in
    let first = c.first.inside.seat in
    let ended = c.ended.inside.seat in (
      ap (λ h. h.turnstile) c.first.view_is ∙ (c.requires.ours.0 ∙ sym c.self.view_is),
      ap (λ h. h.turnstile) c.ended.view_is ∙ (c.requires.ours.1 ∙ sym c.self.view_is),
      c.ended.invariant.empty,
      omega (arith, c.self.invariant.0),
      joins_idle k.actor_count k.legal k.opening k.entries k.some_opening (k.opening t.key.value) first.id ended.id first.me.0 ended.me.0 c.first.invariant.idle c.ended.invariant.idle,
    )

pub load-requires : goal.load-requires
load-requires g c =
    let k = g.C.Core in
    let t = c.self.inside.table.shared in
    let first = c.first.inside.seat in
    let seat = c.join_seat.new.seat in
    let e = c.join_seat.ensures in
    let idle = idle_still (with_ended first.me.0 c.ended.inside.seat.me.0) first.me.1 seat.me e.2 c.first.invariant.idle c.first.invariant.empty in (
      e.0 ∙ ap (λ h. h.turnstile) c.first.view_is ∙ c.requires.ours.0 ∙ sym c.self.view_is,
      omega (arith, c.self.invariant.0),
      learns_idle k.actor_count k.legal k.opening k.entries (k.opening t.key.value) t.table_id.slots seat.id seat.me idle.0 idle.1,
    )
