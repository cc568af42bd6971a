use Rattle.std.proofs.Common.{◌+◌, take, refl}
use Rattle.lw_draw.proofs.DrawLemmas.{draws_more}
use Rattle.lw_draw.proofs.WalkLemmas.{walk_is_put}
use Rattle.lw_draw.proofs.walks.put_walk.Goals as goal

pub returns-clause-word : goal.returns-clause-word
returns-clause-word c =
    let p = c.args.parts.now in
    walk_is_put p.access p.ends p.inputs p.drawn.length c.args.number c.args.random.now c.begin.new.random (take c.args.index c.args.chunk.now.items) _ c.begin.new.word c.draw.result c.word_by.result.now
    c.in_ok-begin.ensures.word c.in_ok-begin.ensures.random c.draw.ensures.number c.word_by.ensures c.in_ok-put.ensures.word

pub returns-clause-random : goal.returns-clause-random
returns-clause-random c = draws_more c.args.random.now c.begin.new.random c.draw.new.self c.args.parts.now.drawn.length 1 (c.args.parts.now.drawn.length + 1) refl c.in_ok-begin.ensures.random c.draw.ensures.next
