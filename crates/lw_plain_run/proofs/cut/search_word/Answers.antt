use Rattle.std.proofs.Common.{◌-◌, ◌+◌, ◌<◌, ◌≤◌, length, sym, ◌∙◌, arith}
use Rattle.lw_plain.specs.Table.{agrees_at}
use Rattle.lw_plain.proofs.LawLemmas.{search_done}
use Rattle.lw_plain_run.specs.bodies.Tables.{search_of}
use Rattle.lw_plain.proofs.CutLemmas.{search_on, tried_more}
use Rattle.lw_plain_run.proofs.cut.search_word.Goals as goal

pub returns-then-search-lt2-clause-found : goal.returns-then-search-lt2-clause-found
returns-then-search-lt2-clause-found c =
    let few : c.loop-turn.search.high ≤ c.loop-turn.search.low + 1 = let lt = c.if-search-lt2.true in omega (arith, lt) in
    sym (search_done (agrees_at c.args.m.now.rows c.args.h.now.rows c.args.access.now c.args.word.now) (length c.args.word.now - c.loop-turn.turn) (search_of c.loop-turn.search) few)
    ∙ c.loop-turn.invariant.left

pub loop-turn-preserved : goal.loop-turn-preserved
loop-turn-preserved c =
    let agrees = agrees_at c.args.m.now.rows c.args.h.now.rows c.args.access.now c.args.word.now in
    let before = search_of c.loop-turn.search in
    let now = search_of c.halve.new.search in
    let wide : c.loop-turn.search.low + 1 < c.loop-turn.search.high = let le = c.if-search-lt2.false in omega (arith, le) in
    let lt : c.loop-turn.turn < length c.args.word.now = let is = c.len-turn-end.ensures in let test = c.loop-turn-test.true in omega (arith, is, test) in
    let inv = c.loop-turn.invariant in
    let halved = c.in_ok-halve.ensures.halved in
    record {
      left = search_on agrees (length c.args.word.now) c.loop-turn.turn before now _ lt wide halved inv.left;
      order = c.in_ok-halve.ensures.order;
      within = c.in_ok-halve.ensures.within;
      tried = tried_more agrees (length c.args.word.now) before now halved inv.order inv.within inv.tried;
    }
