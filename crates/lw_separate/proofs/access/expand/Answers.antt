use Rattle.std.proofs.Common.{arith}
use Rattle.lw_separate.proofs.SearchLemmas.{word_done}
use Rattle.lw_separate.proofs.access.expand.Goals as goal

pub returns-clause-so_far : goal.returns-clause-so_far
returns-clause-so_far c =
    let h = c.loop-x.invariant in
    word_done c.args.m.now.inputs c.args.m.now.rows c.loop-x.s.words.items c.loop-x.s.states.items c.loop-x.s.places.items c.args.i c.loop-x.x h.so_far h.found (omega arith)
