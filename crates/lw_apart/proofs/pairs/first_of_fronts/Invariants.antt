use Rattle.std.specs.List.{All, AllWithin}
use Rattle.lw_words.specs.Word.{answers_of}
use Rattle.lw_apart.specs.Pairs.{with_access}
use Rattle.lw_apart.specs.bodies.Stages.{all_fronts}
use Rattle.lw_apart.proofs.FirstLemmas.{Met}
use Rattle.lw_apart.proofs.pairs.first_of_fronts.Given as goal

abbrev pub invariant-loop-number : goal.invariant-loop-number
invariant-loop-number l = AllWithin (λ v. All (Met l.h.rows (answers_of l.cache.kept)) (with_access l.fronts.access v)) (all_fronts l.fronts) 0 l.number
