use Rattle.std.proofs.Common.{◌<◌, List, [], ◌∷◌, ◌++◌, length, sym, ap, ◌∙◌, arith}
use Rattle.lw_words.specs.declared.kept.KeptAnswer.{KeptAnswer}
use Rattle.lw_prior.specs.bodies.Placed.{placed_answer}
use Rattle.lw_prior.proofs.FillLemmas.{whole_at, take_next}
use Rattle.lw_prior.proofs.PriorLemmas.{placed_next}
use Rattle.lw_prior.proofs.prior.place.Goals as goal

pub keep-requires-clause-even : goal.keep-requires-clause-even
keep-requires-clause-even c =
    let lt : c.loop-number.number < length c.args.kept.now.answers = omega (arith, c.len-number-end.ensures, c.loop-number-test.true) in
    whole_at c.args.kept.now.answers c.loop-number.number c.get.result.now lt c.get.ensures c.requires

pub loop-number-preserved : goal.loop-number-preserved
loop-number-preserved c =
    let ks = c.args.kept.now.answers in
    let n = c.loop-number.number in
    let k = c.get.result.now in
    let lt : n < length ks = omega (arith, c.len-number-end.ensures, c.loop-number-test.true) in
    record {
      unclaimed = c.keep.ensures.unclaimed;
      kept = c.in_ok-clash.ensures.kept ∙ (ap (λ (l : List KeptAnswer). l ++ placed_answer n k ∷ []) c.loop-number.invariant.kept ∙ sym (placed_next ks n k lt (take_next ks n k lt c.get.ensures)));
      so_far = c.in_ok-clash.ensures.so_far;
    }
