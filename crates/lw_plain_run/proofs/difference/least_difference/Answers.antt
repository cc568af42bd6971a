use Rattle.std.proofs.Common.{List, ℕ, take, ◌∙◌, subst}
use Rattle.lw_plain_run.proofs.ListLemmas.{take_one_more, take_ended}
use Rattle.lw_plain_run.specs.bodies.Differences.{IsLeast}
use Rattle.lw_plain_run.proofs.difference.least_difference.Goals as goal

pub loop-word-preserved : goal.loop-word-preserved
loop-word-preserved c =
    let items = c.as_slice-word-items.result.now in
    let more = take_one_more items c.loop-word.word-index c.word-item.result c.loop-word-test.true c.word-item.is in
    subst (λ (ws : List (List ℕ)). IsLeast c.args.m.now.rows c.args.h.now.rows ws c.in_ok-best.best) more
    (c.in_ok-best.ensures (take c.loop-word.word-index items) c.loop-word.invariant)

pub returns : goal.returns
returns c =
    let all = take_ended c.as_slice-word-items.result.now c.loop-word.word-index c.loop-word-test.false ∙ c.as_slice-word-items.ensures in
    subst (λ (ws : List (List ℕ)). IsLeast c.args.m.now.rows c.args.h.now.rows ws c.loop-word.best) all c.loop-word.invariant
