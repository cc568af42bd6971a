use Rattle.std.proofs.Common.{rules, ◌<◌, ℕ, None, length, ◌∙◌}
use Rattle.std.proofs.lemmas.List.{get_or_default}
use Rattle.lw_settle.specs.bodies.Parting.{number_at}
use Rattle.lw_settle.proofs.BlockLemmas.{least_more}
use Rattle.lw_settle.proofs.classes.least_states.Goals as goal

pub loop-state-preserved : goal.loop-state-preserved
loop-state-preserved c =
    let l = c.loop-state in
    let roots = c.args.roots.now in
    let known = l.known.items in
    let r : ℕ = number_at roots l.state in
    let lt : l.state < length roots = search rules in
    least_more roots l.least.items c.push.new.self.items known l.state r c.unwrap_or-first.result c.index.result.now lt (search rules) l.invariant
    (c.index.ensures ∙ get_or_default known r c.index.result.now None (l.invariant.room l.state lt)) c.unwrap_or-first.ensures c.in_ok-push.ensures.items
