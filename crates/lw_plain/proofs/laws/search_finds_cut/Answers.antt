use Rattle.lw_plain.proofs.LawLemmas.{search_finds}
use Rattle.lw_plain.proofs.laws.search_finds_cut.Goals as goal

pub returns : goal.returns
returns c = search_finds
