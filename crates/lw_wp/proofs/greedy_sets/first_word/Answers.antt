use Rattle.std.proofs.Common.{◌<◌, length, ℕ, List, arith}
use Rattle.lw_wp.specs.GreedySuite.{separated_of, states_of}
use Rattle.lw_wp.proofs.GreedyLemmas.{kept, taken}
use Rattle.lw_wp.proofs.greedy_sets.first_word.Goals.{then-others-most, else-others-most}
use Rattle.lw_wp.proofs.greedy_sets.first_word.Goals as goal

pub loop-number-preserved : goal.loop-number-preserved
loop-number-preserved c =
    let n : List ℕ → ℕ = separated_of c.args.m.now.rows c.args.q (states_of c.args.m.now.rows) in
    let words = c.args.by.now.words in
    let i = c.loop-number.number in
    let lt : i < length words = omega (arith, c.loop-number-test.true, c.len-number-end.ensures) in
    elim c.if-others-most.branch [
      | then-others-most w ↦
          rw (w.first-is, w.most-is) (record {
            best = taken n words i c.loop-number.first c.loop-number.most c.count_of_all-others.result c.loop-number.invariant.best lt c.loop-number.invariant.most c.count_of_all-others.ensures w.if-others-most.true;
            most = c.count_of_all-others.ensures;
          })
      | else-others-most w ↦
          rw (w.first-is, w.most-is) (record {
            best = kept n words i c.loop-number.first c.loop-number.most c.count_of_all-others.result c.loop-number.invariant.best lt c.loop-number.invariant.most c.count_of_all-others.ensures w.if-others-most.false;
            most = c.loop-number.invariant.most;
          })
    ]
