use Rattle.lw_system.proofs.AcceptorLemmas.{all_asked, table_found}
use Rattle.lw_system.specs.declared.source.Source.TheVariants as source
use Rattle.lw_system.proofs.acceptors.find_acceptor.Goals as goal

pub returns-in-Setup-clause-asked : goal.returns-in-Setup-clause-asked
returns-in-Setup-clause-asked g c =
    let F = g.F.Files in
    all_asked source.Setup c.args.name.now (F.state c.args.files.now) (F.state c.find_setup.new.files) c.find_setup.result.system c.find_setup.result.hint.items c.find_setup.ensures.found

pub returns-in-Table-clause-asked : goal.returns-in-Table-clause-asked
returns-in-Table-clause-asked g c =
    let F = g.F.Files in
    all_asked source.Table c.args.name.now (F.state c.args.files.now) (F.state c.table_system.new.files) c.table_system.result c.new.result.items
    (table_found c.args.name.now (F.state c.args.files.now) (F.state c.table_system.new.files) c.table_system.result c.new.result.items c.table_system.ensures c.new.ensures.items)
