use Rattle.lw_chunks.proofs.MiddleLemmas.{spelled_at}
use Rattle.lw_chunks.proofs.middle.spell.Goals as goal

pub nonzero_div-count : goal.nonzero_div-count
nonzero_div-count c = rw c.from-count.ensures (spelled_at c.args.inputs c.from-count.result c.rank_of-rank.result.letters c.loop.counter c.loop.word c.loop.number c.loop.count _ c.loop-test.true c.from-count.ensures c.loop.invariant).0

pub nonzero_div-number : goal.nonzero_div-number
nonzero_div-number c = (spelled_at c.args.inputs c.from-count.result c.rank_of-rank.result.letters c.loop.counter c.loop.word c.loop.number c.loop.count _ c.loop-test.true c.from-count.ensures c.loop.invariant).1

pub nonzero_rem-number : goal.nonzero_rem-number
nonzero_rem-number c = (spelled_at c.args.inputs c.from-count.result c.rank_of-rank.result.letters c.loop.counter c.loop.word c.loop.number c.loop.count _ c.loop-test.true c.from-count.ensures c.loop.invariant).1

pub loop-preserved : goal.loop-preserved
loop-preserved c =
    let h = (spelled_at c.args.inputs c.from-count.result c.rank_of-rank.result.letters c.loop.counter c.loop.word c.loop.number c.loop.count _ c.loop-test.true c.from-count.ensures c.loop.invariant).3 in
    rw c.in_ok-push.ensures.ok h
