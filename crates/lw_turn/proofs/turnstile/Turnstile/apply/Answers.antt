use Rattle.std.proofs.Common.{sym, ◌∙◌}
use Rattle.std.specs.Prelude.{Some}
use Rattle.lw_turn.proofs.Asking.{only_slot}
use Rattle.lw_turn.proofs.turnstile.Turnstile.apply.Goals as goal

pub exchange-found-requires : goal.exchange-found-requires
exchange-found-requires g c =
    let has = c.requires.carries in (c.requires.table ∙ sym c.self.view_is, (Some has.0, only_slot c.args.seat.now.me.1 (0, Some has.0) has.1.slot))
