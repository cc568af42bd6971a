use Rattle.std.proofs.Common.{rules, ◌≡◌, ℕ, length, subst}
use Rattle.lw_settle.proofs.BlockLemmas.{AreFound, members_found}
use Rattle.lw_settle.proofs.classes.members_of.Goals as goal

pub returns : goal.returns
returns c t g are =
    let l = c.loop-state in
    let all : l.state ≡ length c.args.roots.now = search rules in
    members_found t c.args.roots.now l.members.items c.args.root g are (subst (λ (n : ℕ). AreFound c.args.roots.now c.args.root n l.members.items) all l.invariant)
