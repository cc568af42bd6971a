use Rattle.std.proofs.Common.{◌≡◌}
use Rattle.lw_wp.proofs.MarkLemmas.{marked_so_far}
use Rattle.lw_wp.proofs.marks.marked.Given as goal

abbrev pub invariant-loop-number : goal.invariant-loop-number
invariant-loop-number l = l.numbers.items ≡ marked_so_far l.marks l.number
