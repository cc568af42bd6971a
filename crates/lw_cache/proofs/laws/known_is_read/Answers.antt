use Rattle.lw_cache.proofs.KnownLemmas.{known_is_read}
use Rattle.lw_cache.proofs.laws.known_is_read.Goals as goal

pub returns : goal.returns
returns c = known_is_read
