use Rattle.std.proofs.Common.{◌≡◌, map}
use Rattle.std.specs.List.{range_with_len}
use Rattle.lw_plain.specs.Table.{transition_of}
use Rattle.lw_plain_run.proofs.hypothesis.transitions_of.Given as goal

abbrev pub invariant-loop-letter : goal.invariant-loop-letter
invariant-loop-letter l = l.row.items ≡ map (transition_of l.m.rows l.table l.access) (range_with_len 0 l.letter)
