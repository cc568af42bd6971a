use Rattle.std.proofs.Common.{refl, None}
use Rattle.lw_pool.proofs.WorkLemmas.{first_working}
use Rattle.lw_pool.proofs.crew.engage.Goals as goal

pub returns-clause-begun : goal.returns-clause-begun
returns-clause-begun g c start = first_working start c.args.pass.now.knows c.turn.new.pass.knows (record { gives = c.new.result; failed = None; wanted = c.share.result }) c.turn.result c.requires.fresh c.new.ensures.items refl (c.share.ensures.some, c.share.ensures.few) c.turn.ensures.entry
