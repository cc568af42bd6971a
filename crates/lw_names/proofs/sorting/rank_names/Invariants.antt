use Rattle.std.proofs.Common.{◌≡◌, length, drop}
use Rattle.lw_names.specs.bodies.OutNames.{AreRanks}
use Rattle.lw_names.proofs.sorting.rank_names.Given as goal

abbrev pub invariant-loop-number : goal.invariant-loop-number
invariant-loop-number l = record {
  ranks : AreRanks l.to l.names l.number;
  count : length l.to ≡ length l.fn.to;
  rest : drop (length l.names) l.to ≡ drop (length l.names) l.fn.to;
}
