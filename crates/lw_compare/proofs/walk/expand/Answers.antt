use Rattle.std.proofs.Common.{rules, ◌≡◌, ◌∙◌, ◌*◌, ◌<◌, ℕ, length, get_or, sym, subst, arith}
use Rattle.std.proofs.lemmas.List.{get_or_default}
use Rattle.lw_compare.proofs.StepLemmas.{node_within, pair_done}
use Rattle.lw_compare.proofs.walk.expand.Goals as goal

pub joint_step-step-requires-clause-node : goal.joint_step-step-requires-clause-node
joint_step-step-requires-clause-node c =
    let h = c.loop-x.invariant in
    let is : c.index.result.now ≡ get_or c.loop-x.walk.nodes.items c.args.i 0 = c.index.ensures ∙ get_or_default c.loop-x.walk.nodes.items c.args.i c.index.result.now 0 h.found in
    subst (λ (q : ℕ). q < length c.args.first.now.mealy.rows * length c.args.second.now.mealy.rows) (sym is)
    (node_within c.args.first.now c.args.second.now c.args.by.now.letters.items c.args.by.now.outputs.items c.requires.by c.loop-x.walk c.args.i c.loop-x.x h.walked h.found)

pub returns-clause-letter : goal.returns-clause-letter
returns-clause-letter c =
    let h = c.loop-x.invariant in
    let done : c.loop-x.x ≡ c.args.first.now.mealy.inputs = omega (arith, c.inputs-x-end.ensures.value) in
    pair_done c.args.first.now c.args.second.now c.args.by.now.letters.items c.args.by.now.outputs.items c.requires.by c.loop-x.walk c.args.i c.loop-x.x h.walked h.found done
