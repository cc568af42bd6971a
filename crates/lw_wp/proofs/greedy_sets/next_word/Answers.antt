use Rattle.std.proofs.Common.{◌<◌, length, ℕ, List, arith}
use Rattle.lw_wp.specs.GreedySuite.{separated_of}
use Rattle.lw_wp.proofs.GreedyLemmas.{kept, taken}
use Rattle.lw_wp.proofs.greedy_sets.next_word.Goals.{then-count-most, else-count-most}
use Rattle.lw_wp.proofs.greedy_sets.next_word.Goals as goal

pub loop-number-preserved : goal.loop-number-preserved
loop-number-preserved c =
    let n : List ℕ → ℕ = separated_of c.args.m.now.rows c.args.q c.args.left.now in
    let words = c.args.by.now.words in
    let i = c.loop-number.number in
    let lt : i < length words = omega (arith, c.loop-number-test.true, c.len-number-end.ensures) in
    elim c.if-count-most.branch [
      | then-count-most w ↦
          rw (w.best-is, w.most-is) (record {
            best = taken n words i c.loop-number.best c.loop-number.most c.separated_count-count.result c.loop-number.invariant.best lt c.loop-number.invariant.most c.separated_count-count.ensures w.if-count-most.true;
            most = c.separated_count-count.ensures;
          })
      | else-count-most w ↦
          rw (w.best-is, w.most-is) (record {
            best = kept n words i c.loop-number.best c.loop-number.most c.separated_count-count.result c.loop-number.invariant.best lt c.loop-number.invariant.most c.separated_count-count.ensures w.if-count-most.false;
            most = c.loop-number.invariant.most;
          })
    ]
