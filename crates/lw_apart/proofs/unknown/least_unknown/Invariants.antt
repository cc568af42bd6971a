use Rattle.lw_words.specs.Word.{answers_of}
use Rattle.lw_apart.specs.bodies.Stages.{all_fronts}
use Rattle.lw_apart.proofs.UnknownLemmas.{BestTo}
use Rattle.lw_apart.proofs.unknown.least_unknown.Given as goal

abbrev pub invariant-loop-number : goal.invariant-loop-number
invariant-loop-number l = BestTo (answers_of l.cache.kept) (all_fronts l.fronts) l.number l.best
