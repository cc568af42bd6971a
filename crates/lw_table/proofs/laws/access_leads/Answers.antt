use Rattle.lw_table.proofs.MachineLemmas.{access_leads}
use Rattle.lw_table.proofs.laws.access_leads.Goals as goal

pub returns : goal.returns
returns c = access_leads
