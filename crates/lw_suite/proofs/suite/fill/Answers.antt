use Rattle.std.proofs.Common.{refl, arith}
use Rattle.lw_suite.specs.bodies.Places.{number_of}
use Rattle.lw_suite.proofs.PlaceLemmas.{filled_left, filled_words}
use Rattle.lw_suite.proofs.suite.fill.Goals as goal

pub loop-index-init : goal.loop-index-init
loop-index-init c = record { place = c.requires.place; number = omega arith; here = c.in_ok-front_at.ensures; words = refl; long = omega arith }

pub step-requires-clause-more : goal.step-requires-clause-more
step-requires-clause-more c = filled_left c.args.parts.now (number_of c.args.parts.now c.args.place) c.loop-index.index c.args.count c.loop-index.at c.loop-index.front c.loop-index.chunk.items c.loop-index.invariant c.loop-index-test.true c.requires.within

pub loop-index-preserved : goal.loop-index-preserved
loop-index-preserved c =
    let n = c.in_ok-at.ensures.number in
    let before = c.loop-index.invariant.number in
    let long = c.in_ok-put.ensures.long in
    record {
      place = c.in_ok-at.ensures.place;
      number = omega arith;
      here = c.in_ok-at.ensures.front;
      words = filled_words c.args.parts.now (number_of c.args.parts.now c.args.place) c.loop-index.index c.args.count c.loop-index.at c.loop-index.front c.end_at.result.now c.loop-index.chunk.items c.put.new.chunk.items c.loop-index.invariant c.loop-index-test.true c.requires.within c.end_at.ensures c.in_ok-put.ensures.word;
      long = omega arith;
    }
