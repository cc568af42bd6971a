use Rattle.lw_cache.proofs.CrowdLemmas.{crowd_needs_states}
use Rattle.lw_cache.proofs.laws.crowd_needs_states.Goals as goal

pub returns : goal.returns
returns c = crowd_needs_states
