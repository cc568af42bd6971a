use Rattle.std.proofs.Common.{arith}
use Rattle.lw_words.specs.Word.{answers_of}
use Rattle.lw_apart.specs.bodies.Stages.{all_fronts}
use Rattle.lw_apart.proofs.UnknownLemmas.{best_more, best_all}
use Rattle.lw_apart.proofs.unknown.least_unknown.Goals as goal

pub loop-number-preserved : goal.loop-number-preserved
loop-number-preserved c =
    best_more (answers_of c.args.cache.now.kept) (all_fronts c.args.fronts.now) c.loop-number.number (omega (arith, c.loop-number-test.true, c.front_count-number-end.ensures))
    c.spell_front.new.front c.in_ok-spell_front.ensures c.loop-number.best c.in_ok-best.best c.loop-number.invariant c.in_ok-best.ensures

pub returns : goal.returns
returns c =
    best_all (answers_of c.args.cache.now.kept) (all_fronts c.args.fronts.now) c.loop-number.number c.loop-number.best
    (omega (arith, c.loop-number-test.false, c.front_count-number-end.ensures)) c.loop-number.invariant
