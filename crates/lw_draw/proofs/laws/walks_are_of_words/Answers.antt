use Rattle.lw_draw.proofs.WalkLemmas.{walks_are_words}
use Rattle.lw_draw.proofs.laws.walks_are_of_words.Goals as goal

pub returns : goal.returns
returns c = walks_are_words
