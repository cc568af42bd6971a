use Rattle.std.proofs.Common.{◌≡◌, ◌++◌, map, take}
use Rattle.lw_plain.specs.Table.{probe_batch}
use Rattle.lw_plain_run.proofs.cut.ask_probes.Given as goal

abbrev pub invariant-loop-place : goal.invariant-loop-place
invariant-loop-place l = record {
  access : l.table.access ≡ l.initial.table.access;
  suffixes : l.table.suffixes ≡ l.initial.table.suffixes;
  batches : l.table.batches ≡ l.initial.table.batches ++ map (probe_batch l.h.rows l.initial.table.access l.word) (take l.place-index l.places);
}
