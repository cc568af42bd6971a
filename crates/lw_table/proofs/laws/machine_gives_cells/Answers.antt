use Rattle.lw_table.proofs.MachineLemmas.{machine_gives_cells}
use Rattle.lw_table.proofs.laws.machine_gives_cells.Goals as goal

pub returns : goal.returns
returns c = machine_gives_cells
