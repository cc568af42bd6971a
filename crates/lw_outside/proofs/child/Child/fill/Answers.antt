use Rattle.std.proofs.Common.{◌<◌, length, arith}
use Rattle.lw_outside.proofs.SayLemmas.{says_one_more}
use Rattle.lw_outside.proofs.child.Child.fill.Goals as goal

pub loop-count-preserved : goal.loop-count-preserved
loop-count-preserved c =
    let lt : c.loop-count.count < length c.loop-count.buffer = omega arith in
    says_one_more c.args.sent.now c.args.self.now c.loop-count.self c.next.new.self c.loop-count.buffer c.loop-count.count c.in-Some.byte lt c.loop-count.invariant c.in-Some.ensures.some
