use Rattle.std.proofs.Common.{◌∙◌, sym}
use Rattle.lw_cache.proofs.SettlingLemmas.{leaves_settled}
use Rattle.test_tree.proofs.TrialLemmas.{ready_asked}
use Rattle.test_tree.proofs.trial.ask.Goals as goal

pub returns-clause-ready : goal.returns-clause-ready
returns-clause-ready g c told =
    let o = g.O.Oracle.state c.args.oracle.now in
    let n = g.O.Oracle.state c.settle-settled.new.self in
    let result = c.settle-settled.result in
    ready_asked result o n c.args.tree.now (leaves_settled c.deref.result.now o n result c.settle-settled.ensures.settles) (sym c.is_ok.ensures.value ∙ told) c.requires.ready
