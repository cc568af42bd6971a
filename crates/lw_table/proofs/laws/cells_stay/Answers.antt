use Rattle.lw_table.proofs.CellLemmas.{cells_stay}
use Rattle.lw_table.proofs.laws.cells_stay.Goals as goal

pub returns : goal.returns
returns c = cells_stay
