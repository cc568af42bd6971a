use Rattle.lw_separate.proofs.UniqueLemmas.{one_canonical}
use Rattle.lw_separate.proofs.laws.canonical_is_unique.Goals as goal

pub returns : goal.returns
returns c = one_canonical
