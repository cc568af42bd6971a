use Rattle.lw_plain.proofs.KnownLemmas.{nothing_known}
use Rattle.lw_plain.proofs.laws.nothing_is_known.Goals as goal

pub returns : goal.returns
returns c = nothing_known
