use Rattle.std.proofs.Common.{ap, ◌∙◌, ◌≡◌, length, arith}
use Rattle.lw_wp.proofs.MarkLemmas.{marked_next, unmarked_next, marked_so_far}
use Rattle.lw_wp.proofs.marks.marked.Goals.{then-marks-number+in_ok-push, else-marks-number}
use Rattle.lw_wp.proofs.marks.marked.Goals as goal

pub loop-number-preserved : goal.loop-number-preserved
loop-number-preserved c =
    let next = c.loop-number.number in
    elim c.if-marks-number.branch [
      | then-marks-number+in_ok-push w ↦
          rw w.numbers-is (marked_next c.args.marks.now next c.loop-number.numbers.items w.push.new.self.items c.loop-number.invariant w.if-marks-number.true w.in_ok-push.ensures.items)
      | else-marks-number w ↦ rw w.numbers-is (unmarked_next c.args.marks.now next c.loop-number.numbers.items c.loop-number.invariant w.if-marks-number.false)
    ]

pub returns : goal.returns
returns c =
    let l = c.loop-number.auto.number-end in
    let f = c.loop-number-test.false in
    let e : c.loop-number.number ≡ length c.args.marks.now = omega (arith, l, f) in
    c.loop-number.invariant ∙ ap (marked_so_far c.args.marks.now) e
