use Rattle.lw_table.proofs.CellLemmas.{access_is_crowd}
use Rattle.lw_table.proofs.laws.access_is_crowd.Goals as goal

pub returns : goal.returns
returns c = access_is_crowd
