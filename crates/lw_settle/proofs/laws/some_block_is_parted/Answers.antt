use Rattle.lw_settle.proofs.PartingLemmas.{some_block_is_parted}
use Rattle.lw_settle.proofs.laws.some_block_is_parted.Goals as goal

pub returns : goal.returns
returns c = some_block_is_parted
