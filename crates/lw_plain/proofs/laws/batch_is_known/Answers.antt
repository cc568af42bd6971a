use Rattle.lw_plain.proofs.KnownLemmas.{batch_is_known}
use Rattle.lw_plain.proofs.laws.batch_is_known.Goals as goal

pub returns : goal.returns
returns c = batch_is_known
