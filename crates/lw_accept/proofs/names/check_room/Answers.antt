use Rattle.std.proofs.Common.{◌∙◌, arith, sym}
use Rattle.lw_accept.specs.Acceptor.{question}
use Rattle.lw_accept.proofs.NameLemmas.{not_contained}
use Rattle.lw_accept.proofs.names.check_room.Goals as goal

pub returns-in-None-clause-ok : goal.returns-in-None-clause-ok
returns-in-None-clause-ok c =
    ((c.len.ensures.names, omega arith), not_contained c.args.inputs.now question c.len.ensures.names.differ (sym c.number.ensures.value ∙ c.in-None.is))
