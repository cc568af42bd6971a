use Rattle.std.proofs.Common.{subst}
use Rattle.lw_line.specs.LineState.{IsNaming}
use Rattle.lw_line.proofs.Naming.{naming_is}
use Rattle.lw_line.proofs.outputs.OutputNames.tells_naming.Goals as goal

pub returns : goal.returns
returns c = subst (λ o. IsNaming o.names o.most o.range) c.self.view_is (naming_is c.self.inside.list)
