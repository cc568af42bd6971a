use Rattle.std.proofs.Common.{ℕ, List, not, arith}
use Rattle.std.proofs.lemmas.List.Sums.{prefix_len-le-length}
use Rattle.lw_plain.specs.Table.{has_same_row}
use Rattle.lw_plain_run.proofs.hypothesis.transition_of.Goals as goal

pub overflow_cast-result : goal.overflow_cast-result
overflow_cast-result c =
    let few = prefix_len-le-length (λ (u : List ℕ). not (has_same_row c.args.m.now.rows c.args.table.now.suffixes c.push.new.self u)) c.args.table.now.access in
    let most = c.requires.few in
    let is = c.state_of-target.ensures in
    omega (arith, few, is, most)
