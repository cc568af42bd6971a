use Rattle.lw_cex.proofs.SearchLemmas.{asks_probe}
use Rattle.lw_cex.proofs.search.agrees_at.Goals as goal

pub returns-clause-asks : goal.returns-clause-asks
returns-clause-asks g c =
    asks_probe c.args.model.now.rows c.args.access.now c.args.word.now c.in_ok-asked.asked (g.O.Oracle.state c.args.oracle.now).kept (g.O.Oracle.state c.is_as_settled.new.oracle).kept
    (c.args.place, c.requires.inside.0, c.requires.inside.1, c.in_ok-asked.ensures) c.is_as_settled.ensures.gains
