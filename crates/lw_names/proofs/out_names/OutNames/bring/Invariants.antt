use Rattle.std.proofs.Common.{◌≡◌, ◌++◌, take}
use Rattle.lw_names.specs.Naming.{bring, own_names}
use Rattle.lw_names.proofs.out_names.OutNames.bring.Given as goal

abbrev pub invariant-loop-i : goal.invariant-loop-i
invariant-loop-i l = record {
  brings : l.self ≡ bring l.fn.self l.actor (take l.i l.names);
  own : own_names l.self l.actor ≡ own_names l.fn.self l.actor ++ take l.i l.names;
}
