use Rattle.lw_certify.proofs.EnoughLemmas.{suites_are_of_words}
use Rattle.lw_certify.proofs.laws.suites_are_of_words.Goals as goal

pub returns : goal.returns
returns c = suites_are_of_words
