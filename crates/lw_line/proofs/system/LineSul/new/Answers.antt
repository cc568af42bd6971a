use Rattle.std.proofs.Common.{false, length}
use Rattle.lw_line.proofs.Calls.{stands_first}
use Rattle.lw_line.proofs.Noting.{none_noted}
use Rattle.lw_line.proofs.Telling.{declared_told}
use Rattle.lw_line.proofs.system.LineSul.new.Goals as goal

pub invariant_of-result : goal.invariant_of-result
invariant_of-result g c = (
  stands_first c.args.inputs c.declared.result.names c.declared.result.most (g.L.Link.state c.args.link).faults (g.L.Link.state c.args.link).ends c.new.result false (g.L.Link.state c.args.link).transcript c.new.ensures c.requires,
  declared_told c.declared.result c.args.outputs (g.L.Link.state c.args.link).transcript c.declared.ensures,
  none_noted (length c.args.inputs) c.closed.result c.closed.ensures,
)
