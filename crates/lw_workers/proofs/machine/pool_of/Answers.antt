use Rattle.std.proofs.Common.{◌∙◌, ap, subst, sym}
use Rattle.lw_names.specs.Naming.{Naming}
use Rattle.lw_desk.specs.Ending.{IsShared}
use Rattle.lw_pool.proofs.JoinLemmas.{declared_come_up, declared_shared}
use Rattle.lw_workers.proofs.InstanceLemmas.{instances_join, pool_begun}
use Rattle.lw_workers.proofs.machine.pool_of.Goals as goal

pub new-requires-clause-shared : goal.new-requires-clause-shared
new-requires-clause-shared g c = subst (λ (n : Naming). IsShared n) (sym c.requires.shared) (declared_shared c.args.names.now)

pub new-requires-clause-come_up : goal.new-requires-clause-come_up
new-requires-clause-come_up g c = declared_come_up c.args.cache.kept c.args.shared (ap (λ (n : Naming). n.brought) c.requires.shared)

pub new-requires-clause-join : goal.new-requires-clause-join
new-requires-clause-join g c = instances_join c.args.system.now c.args.names.now c.args.shared c.inputs-inputs.result c.outputs-outputs.result c.in-Ok.sessions.items c.requires.named c.requires.shared c.inputs-inputs.ensures.value c.outputs-outputs.ensures.value c.in-Ok.ensures.each

pub returns-in-Ok-new-clause-pool : goal.returns-in-Ok-new-clause-pool
returns-in-Ok-new-clause-pool g c =
    let pool = c.in-Ok-new.ensures in
    let begun = pool.begun in
    pool_begun c.args.system.now c.args.names.now c.args.settings.workers c.args.shared c.args.cache.kept c.in-Ok.sessions.items c.in-Ok-new.pool c.in-Ok.ensures.each c.in-Ok.ensures.count pool.members (pool.numbers.0 ∙ c.inputs-inputs.ensures.value) (pool.numbers.1 ∙ c.outputs-outputs.ensures.value) begun.0 begun.1 begun.2 begun.3
