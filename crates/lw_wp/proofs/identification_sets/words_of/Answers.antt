use Rattle.std.proofs.Common.{rules, ◌≡◌, Some, slice_get, get_or}
use Rattle.lw_wp.proofs.SeparationLemmas.{chosen_more}
use Rattle.lw_wp.proofs.identification_sets.words_of.Goals as goal

pub loop-number-preserved : goal.loop-number-preserved
loop-number-preserved c =
    let read : slice_get c.args.words.now (get_or c.args.numbers.now c.loop-number.number-index 0) ≡ Some c.in_ok-copy.field-0 = search rules in
    chosen_more c.args.words.now c.args.numbers.now c.loop-number.number-index c.loop-number.copies c.push.new.self c.in_ok-copy.field-0 c.loop-number-test.true c.loop-number.invariant read c.in_ok-push.ensures.ok
