use Rattle.lw_plain.proofs.KnownLemmas.{first_is_revealed}
use Rattle.lw_plain.proofs.laws.first_is_revealed.Goals as goal

pub returns : goal.returns
returns c = first_is_revealed
