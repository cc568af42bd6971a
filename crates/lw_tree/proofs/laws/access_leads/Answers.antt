use Rattle.lw_tree.proofs.MachineLemmas.{access_leads}
use Rattle.lw_tree.proofs.laws.access_leads.Goals as goal

pub returns : goal.returns
returns c = access_leads
