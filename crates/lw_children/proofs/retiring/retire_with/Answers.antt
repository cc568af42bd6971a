use Rattle.lw_children.proofs.RetireLemmas.{linked_first, last_not_retired}
use Rattle.lw_children.proofs.retiring.retire_with.Goals as goal

pub retire_all-requires-clause-linked : goal.retire_all-requires-clause-linked
retire_all-requires-clause-linked g c κs within = linked_first g.P.Link.Link.state c.args.sessions.items c.args.loose (g.P.Spawner.state c.args.spawner.now) c.requires.linked

pub retire-requires-clause-once : goal.retire-requires-clause-once
retire-requires-clause-once g c = last_not_retired g.P.Link.Link.state c.args.sessions.items c.args.loose c.in-Some.link (g.P.Spawner.state c.args.spawner.now) (g.P.Spawner.state c.retire_all.new.spawner) c.requires.linked c.in-Some.is c.retire_all.ensures
