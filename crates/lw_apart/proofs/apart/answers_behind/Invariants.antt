use Rattle.lw_apart.proofs.BehindLemmas.{BehindTo}
use Rattle.lw_apart.proofs.apart.answers_behind.Given as goal

abbrev pub invariant-loop-number : goal.invariant-loop-number
invariant-loop-number l = BehindTo l.kept.answers l.word l.number l.numbers.items
