use Rattle.lw_renumber.proofs.LawLemmas.{renamed_answers_are}
use Rattle.lw_renumber.proofs.laws.renamed_answers_are.Goals as goal

pub returns : goal.returns
returns c = renamed_answers_are
