use Rattle.lw_separate.proofs.OneLemmas.{one_separating_word}
use Rattle.lw_separate.proofs.laws.separating_word_is_unique.Goals as goal

pub returns : goal.returns
returns c = one_separating_word
