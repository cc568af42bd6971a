use Rattle.std.proofs.Common.{◌≡◌, ◌<◌, drop, length, bytes_eq}
use Rattle.lw_mealy.specs.Machine.{out}
use Rattle.lw_plain_run.proofs.rows.have_same_outputs.Given as goal

abbrev pub invariant-loop-x : goal.invariant-loop-x
invariant-loop-x l = record {
  one : l.one < length l.m.rows;
  other : l.other < length l.n.rows;
  same : bytes_eq (out l.m.rows l.one (drop l.x-index l.letters)) (out l.n.rows l.other (drop l.x-index l.letters)) ≡ bytes_eq (out l.m.rows l.initial.one l.letters) (out l.n.rows l.initial.other l.letters);
}
