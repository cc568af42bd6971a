use Rattle.std.proofs.Common.{map, vec_capacity}
use Rattle.lw_names.proofs.Bringing.{sixteen_lists}
use Rattle.lw_names.proofs.out_names.OutNames.is_free.Goals as goal

pub returns-clause-lists : goal.returns-clause-lists
returns-clause-lists c =
    let n = c.self.inside in
    sixteen_lists n.free n.names.items (map (λ t. t.items) n.tables.items) (vec_capacity n.names) (map (λ t. vec_capacity t) n.tables.items) c.args.self.now c.self.view_is c.self.invariant
