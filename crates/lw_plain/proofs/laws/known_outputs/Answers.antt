use Rattle.lw_plain.proofs.KnownLemmas.{known_outputs}
use Rattle.lw_plain.proofs.laws.known_outputs.Goals as goal

pub returns : goal.returns
returns c = known_outputs
