use Rattle.lw_settle.proofs.BlockLemmas.{AreWordsTo}
use Rattle.lw_settle.proofs.parting.member_words.Given as goal

abbrev pub invariant-loop-member : goal.invariant-loop-member
invariant-loop-member l = AreWordsTo l.tree l.members l.suffix l.member-index l.words
