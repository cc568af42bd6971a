use Rattle.std.proofs.Common.{◌≤◌, length, arith}
use Rattle.lw_wp.specs.bodies.Cursors.{ends_behind}
use Rattle.lw_wp.proofs.CursorLemmas.{length-blocks, few_fronts, next_end, next_front}
use Rattle.lw_wp.proofs.cursor.step.Goals as goal

pub returns-then-end-end_count-clause-next : goal.returns-then-end-end_count-clause-next
returns-then-end-end_count-clause-next c = next_end c.args.parts.now c.args.cursor.now c.requires.cursor c.requires.more

pub overflow_add-front : goal.overflow_add-front
overflow_add-front c =
    let l = length-blocks c.args.parts.now c.requires.parts in
    let f = few_fronts c.args.parts.now c.requires.parts in
    omega (arith, l, f, c.requires.more)

pub overflow_add-cursor-2 : goal.overflow_add-cursor-2
overflow_add-cursor-2 c =
    let l = length-blocks c.args.parts.now c.requires.parts in
    let f = few_fronts c.args.parts.now c.requires.parts in
    omega (arith, l, f, c.requires.more)

pub returns-clause-next : goal.returns-clause-next
returns-clause-next c =
    let last : length (ends_behind c.args.parts.now c.args.cursor.now.row) ≤ c.args.cursor.now.place.end = omega (arith, c.end_count.ensures, c.if-end-end_count.false) in
    next_front c.args.parts.now c.args.cursor.now c.requires.cursor c.requires.more last
