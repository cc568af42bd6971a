use Rattle.std.proofs.Common.{◌≡◌, ◌+◌, take}
use Rattle.lw_mealy.specs.Machine.{row}
use Rattle.lw_accept.specs.View.{viewed}
use Rattle.lw_accept.proofs.viewing.view_row.Given as goal

abbrev pub invariant-loop-letter : goal.invariant-loop-letter
invariant-loop-letter l = l.pairs.items ≡ take (l.letter + 1) (row (viewed l.acceptor.automaton) l.state)
