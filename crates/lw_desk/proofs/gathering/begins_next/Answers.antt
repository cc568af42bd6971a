use Rattle.std.proofs.Common.{arith}
use Rattle.lw_desk.proofs.GatherLemmas.{begins_is}
use Rattle.lw_desk.proofs.gathering.begins_next.Goals as goal

pub returns-then-at-places : goal.returns-then-at-places
returns-then-at-places c =
    begins_is c.args.words.now c.args.places.now c.args.at (omega (arith, c.if-at-places.true)) c.word_of.result.now c.word_of-then-at-places.result.now c.word_of.ensures c.word_of-then-at-places.ensures c.starts_with.result c.starts_with.ensures.value
