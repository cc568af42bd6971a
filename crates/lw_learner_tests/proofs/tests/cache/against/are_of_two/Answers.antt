use Rattle.std.proofs.Common.{◌<◌, subst, arith}
use Rattle.std.proofs.lemmas.List.{take_all}
use Rattle.std.proofs.lemmas.List.Elements.{All-more}
use Rattle.lw_words.specs.Word.{IsWord}
use Rattle.lw_learner_tests.proofs.tests.cache.against.are_of_two.Goals as goal

pub loop-letter-preserved : goal.loop-letter-preserved
loop-letter-preserved c =
    All-more (λ x. x < 2) c.args.letters.now c.loop-letter.letter-index 0 c.loop-letter-test.true c.loop-letter.invariant (omega (arith, c.if-letter-ge2.false))

pub returns : goal.returns
returns c _ = subst (IsWord 2) (take_all c.loop-letter.letter-index c.args.letters.now c.loop-letter-test.false) c.loop-letter.invariant
