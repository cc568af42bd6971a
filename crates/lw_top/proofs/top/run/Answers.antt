use Rattle.lw_top.proofs.CauseLemmas.{accepted, causes}
use Rattle.lw_top.proofs.PromiseLemmas.{learned, yes, kept, reached}
use Rattle.lw_top.proofs.top.run.Goals as goal

pub returns-clause-learned : goal.returns-clause-learned
returns-clause-learned g c = learned _ _ _ c.run_call.result _ c.run_call.ensures.ran.ran

pub returns-clause-yes : goal.returns-clause-yes
returns-clause-yes g c = yes _ _ _ c.run_call.result _ c.run_call.ensures.ran.ran

pub returns-clause-kept : goal.returns-clause-kept
returns-clause-kept g c = kept _ _ _ c.run_call.result _ c.run_call.ensures.ran.ran

pub returns-clause-reached : goal.returns-clause-reached
returns-clause-reached g c = reached _ _ _ c.run_call.result _ c.run_call.ensures.ran.ran

pub returns-clause-accepted : goal.returns-clause-accepted
returns-clause-accepted g c = accepted _ _ _ c.run_call.result _ c.run_call.ensures.ran.ran

pub returns-clause-causes : goal.returns-clause-causes
returns-clause-causes g c = causes _ _ _ c.run_call.result _ c.run_call.ensures.ran.ran
