use Rattle.lw_table.proofs.OpenLemmas.{new_is_first}
use Rattle.lw_table.proofs.laws.new_is_first.Goals as goal

pub returns : goal.returns
returns c = new_is_first
