use Rattle.std.proofs.Common.{drop, arith}
use Rattle.std.proofs.lemmas.List.{length-drop}
use Rattle.lw_desk.proofs.TurnLemmas.{none_waits, counts_waiting}
use Rattle.lw_desk.proofs.board.Board.left.Goals as goal

pub returns-clause-none : goal.returns-clause-none
returns-clause-none c zero =
    let b = c.self.inside in
    none_waits c.args.self.now b.names _ b.cache.kept b.cache.claims b.stop b.words.items (drop b.next b.order.items) b.cache.words b.cache.letters c.self.view_is c.self.invariant.1
    (omega (arith, zero, length-drop b.next b.order.items, b.order.ok))

pub returns-clause-counts : goal.returns-clause-counts
returns-clause-counts c =
    let b = c.self.inside in
    counts_waiting c.args.self.now b.names _ b.cache.kept b.cache.claims b.stop b.words.items (drop b.next b.order.items) b.cache.words b.cache.letters _ c.self.view_is c.self.invariant.1
    (omega (arith, length-drop b.next b.order.items, b.order.ok))
