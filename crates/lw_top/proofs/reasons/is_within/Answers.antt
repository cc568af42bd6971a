use Rattle.std.proofs.Common.{◌∙◌, sym}
use Rattle.lw_top.proofs.RangeLemmas.{read_in, unread}
use Rattle.lw_top.proofs.reasons.is_within.Goals as goal

pub returns-in-Ok : goal.returns-in-Ok
returns-in-Ok c = c.is_in.ensures ∙ read_in c.args.range.low c.args.range.high c.args.text.now c.in-Ok.number c.in-Ok.ensures.value.0

pub returns-in-Err : goal.returns-in-Err
returns-in-Err c = sym (unread c.args.range.low c.args.range.high c.args.text.now c.in-Err.ensures.value.0)
