use Rattle.lw_table.proofs.PlainLemmas.{machine_is_plain}
use Rattle.lw_table.proofs.laws.machine_is_plain.Goals as goal

pub returns : goal.returns
returns c = machine_is_plain
