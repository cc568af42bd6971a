use Rattle.std.proofs.Common.{sym, ◌∙◌, arith}
use Rattle.std.proofs.lemmas.Bool.{false≢true}
use Rattle.lw_apart.proofs.BehindLemmas.{behind_more, behind_same, behind_all}
use Rattle.lw_apart.proofs.apart.answers_behind.Goals as goal
use Rattle.lw_apart.proofs.apart.answers_behind.Goals.{then-begins_with+in_ok-push, else-begins_with}

pub loop-number-preserved : goal.loop-number-preserved
loop-number-preserved c =
    let kept = c.args.kept.now.answers in
    let word = c.args.word.now in
    let i = c.loop-number.number in
    let k = c.get.result.now in
    elim c.if-begins_with.branch [
      | then-begins_with+in_ok-push w ↦
          rw w.numbers-is (behind_more kept word i c.loop-number.numbers.items k (omega (arith, c.loop-number-test.true, c.len-number-end.ensures)) c.get.ensures c.loop-number.invariant w.push.new.self.items (c.begins_with.ensures.0 w.if-begins_with.true) w.in_ok-push.ensures.items)
      | else-begins_with w ↦
          rw w.numbers-is (behind_same kept word i c.loop-number.numbers.items k (omega (arith, c.loop-number-test.true, c.len-number-end.ensures)) c.get.ensures c.loop-number.invariant (λ begins. false≢true (sym w.if-begins_with.false ∙ c.begins_with.ensures.1 begins)))
    ]

pub returns : goal.returns
returns c = behind_all c.args.kept.now.answers c.args.word.now c.loop-number.number c.loop-number.numbers.items (omega (arith, c.loop-number-test.false, c.len-number-end.ensures)) c.loop-number.invariant
