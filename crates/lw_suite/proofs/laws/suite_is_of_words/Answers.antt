use Rattle.lw_suite.proofs.LetterLemmas.{suite_is_of_words}
use Rattle.lw_suite.proofs.laws.suite_is_of_words.Goals as goal

pub returns : goal.returns
returns c = suite_is_of_words
