use Rattle.std.proofs.Common.{◌≡◌, ◌-◌, length}
use Rattle.lw_plain.specs.Table.{close}
use Rattle.lw_plain.specs.Over.{IsOver}
use Rattle.lw_plain_run.proofs.table.Table.close.Given as goal

abbrev pub invariant-loop-count : goal.invariant-loop-count
invariant-loop-count l = record {
  over : IsOver l.m.inputs l.self;
  count : length l.self.access ≡ l.count;
  left : close l.m.inputs l.m.rows (l.most - l.count) l.self ≡ close l.m.inputs l.m.rows (l.most - length l.initial.self.access) l.initial.self;
}
