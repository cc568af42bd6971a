use Rattle.std.proofs.Common.{◌≡◌, take}
use Rattle.lw_names.proofs.out_names.copy_names.Given as goal

abbrev pub invariant-loop-n : goal.invariant-loop-n
invariant-loop-n l = l.copy.items ≡ take l.n l.names
