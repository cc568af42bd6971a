use Rattle.std.proofs.Common.{◌≡◌, ◌++◌, take, drop}
use Rattle.lw_words.specs.Renumbering.{renumbered}
use Rattle.lw_names.proofs.sorting.renumber.Given as goal

abbrev pub invariant-loop-y : goal.invariant-loop-y
invariant-loop-y l = l.numbers ≡ renumbered l.to (take l.y-index l.fn.numbers) ++ drop l.y-index l.fn.numbers
