use Rattle.std.proofs.Common.{◌≤◌, ◌*◌, arith}
use Rattle.lw_chunks.proofs.MiddleLemmas.{looked_more, looked_fits, looked_end}
use Rattle.lw_chunks.proofs.middle.rank_of.Goals as goal

pub overflow_mul-rank : goal.overflow_mul-rank
overflow_mul-rank c =
    let h = looked_fits c.args.inputs c.args.longest c.args.number c.loop-rank.rank.letters c.loop-rank.rank.number c.loop-rank.rank.count c.requires.letters c.requires.few c.requires.within c.loop-rank-test.true c.loop-rank.invariant in
    let e : c.loop-rank.rank.count * c.from.result ≤ 1073741824 = rw c.from.ensures h in
    omega arith

pub returns-clause-same : goal.returns-clause-same
returns-clause-same c = looked_end c.args.inputs c.args.longest c.args.number c.loop-rank.rank.letters c.loop-rank.rank.number c.loop-rank.rank.count c.loop-rank-test.false c.loop-rank.invariant

pub loop-rank-preserved : goal.loop-rank-preserved
loop-rank-preserved c =
    let step = looked_more c.args.inputs c.args.longest c.args.number c.loop-rank.rank.letters c.loop-rank.rank.number c.loop-rank.rank.count c.requires.within c.loop-rank-test.true c.loop-rank.invariant in
    rw c.from.ensures step.1

pub loop-rank-smaller : goal.loop-rank-smaller
loop-rank-smaller c =
    let step = looked_more c.args.inputs c.args.longest c.args.number c.loop-rank.rank.letters c.loop-rank.rank.number c.loop-rank.rank.count c.requires.within c.loop-rank-test.true c.loop-rank.invariant in
    let lt = step.0 in
    omega arith
