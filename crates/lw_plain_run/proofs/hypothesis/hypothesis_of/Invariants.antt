use Rattle.std.proofs.Common.{◌≡◌, ◌++◌, drop, map}
use Rattle.lw_plain.specs.Table.{machine_of, transitions_of}
use Rattle.lw_plain_run.proofs.hypothesis.hypothesis_of.Given as goal

abbrev pub invariant-loop-access : goal.invariant-loop-access
invariant-loop-access l = map (λ r. r.items) l.rows.items ++ map (transitions_of l.m.inputs l.m.rows l.table) (drop l.access-index l.access-items) ≡ machine_of l.m.inputs l.m.rows l.table
