use Rattle.lw_cache.proofs.KnownLemmas.{reads_once}
use Rattle.lw_cache.proofs.laws.reads_once.Goals as goal

pub returns : goal.returns
returns c = reads_once
