use Rattle.lw_separate.proofs.Existence.{some_canonical}
use Rattle.lw_separate.proofs.laws.canonical_exists.Goals as goal

pub returns : goal.returns
returns c = some_canonical
