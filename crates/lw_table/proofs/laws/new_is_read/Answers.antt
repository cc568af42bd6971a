use Rattle.lw_table.proofs.NewLemmas.{new_is_read}
use Rattle.lw_table.proofs.laws.new_is_read.Goals as goal

pub returns : goal.returns
returns c = new_is_read
