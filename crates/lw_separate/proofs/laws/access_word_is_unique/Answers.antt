use Rattle.lw_separate.proofs.OneLemmas.{one_access_word}
use Rattle.lw_separate.proofs.laws.access_word_is_unique.Goals as goal

pub returns : goal.returns
returns c = one_access_word
