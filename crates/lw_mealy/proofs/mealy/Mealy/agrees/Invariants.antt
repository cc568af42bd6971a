use Rattle.std.proofs.Common.{◌≡◌, ◌<◌, length, take, drop}
use Rattle.lw_mealy.specs.Machine.{out, answer}
use Rattle.lw_mealy.proofs.mealy.Mealy.agrees.Given as goal

abbrev pub invariant-loop-place : goal.invariant-loop-place
invariant-loop-place l = record {
  state : l.state < length l.self.rows;
  left : drop l.place (answer l.self.rows l.w) ≡ out l.self.rows l.state (drop l.place l.w);
  same : take l.place (answer l.self.rows l.w) ≡ take l.place l.o;
}
