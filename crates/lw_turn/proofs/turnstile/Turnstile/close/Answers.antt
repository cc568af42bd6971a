use Rattle.std.proofs.Common.{ap}
use Rattle.lw_turn.proofs.Closes.{slot_is_full, core_is_whole}
use Rattle.lw_turn.proofs.turnstile.Turnstile.close.Goals as goal

pub unreachable-requires : goal.unreachable-requires
unreachable-requires g c =
    let k = g.C.Core in
    let seat = c.last.inside.seat in
    slot_is_full k.actor_count k.legal k.opening k.entries (k.opening c.self.inside.table.shared.key.value) seat.id seat.me.0 c.args.last.knows (ap (λ h. h.knows) c.last.view_is) c.last.invariant.idle c.requires.first
    c.requires.joined _ _ c.close_with-closed.ensures.values.2 c.take-slot.result c.take-slot.ensures.value c.in_default.is

pub returns-clause-opening : goal.returns-clause-opening
returns-clause-opening g c =
    let k = g.C.Core in
    let seat = c.last.inside.seat in
    (core_is_whole k.actor_count k.legal k.opening k.entries (k.opening c.self.inside.table.shared.key.value) seat.id seat.me.0 c.args.last.knows (ap (λ h. h.knows) c.last.view_is) c.last.invariant.idle c.requires.first
    c.requires.joined _ _ c.close_with-closed.ensures.values.2 c.take-slot.result c.take-slot.ensures.value c.in-Some.core c.in-Some.is).0

pub returns-clause-entries : goal.returns-clause-entries
returns-clause-entries g c =
    let k = g.C.Core in
    let seat = c.last.inside.seat in
    (core_is_whole k.actor_count k.legal k.opening k.entries (k.opening c.self.inside.table.shared.key.value) seat.id seat.me.0 c.args.last.knows (ap (λ h. h.knows) c.last.view_is) c.last.invariant.idle c.requires.first
    c.requires.joined _ _ c.close_with-closed.ensures.values.2 c.take-slot.result c.take-slot.ensures.value c.in-Some.core c.in-Some.is).1
