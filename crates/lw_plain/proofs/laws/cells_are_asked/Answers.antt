use Rattle.lw_plain.proofs.FilledLemmas.{cells_are_asked}
use Rattle.lw_plain.proofs.laws.cells_are_asked.Goals as goal

pub returns : goal.returns
returns c = cells_are_asked
