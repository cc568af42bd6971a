use Rattle.std.proofs.Common.{arith}
use Rattle.std.proofs.lemmas.List.FromFn.{map-range_with_len_more}
use Rattle.lw_plain.specs.Table.{transition_of}
use Rattle.lw_plain_run.proofs.hypothesis.transitions_of.Goals as goal

pub loop-letter-preserved : goal.loop-letter-preserved
loop-letter-preserved c =
    let more = map-range_with_len_more (transition_of c.args.m.now.rows c.args.table.now c.args.access.now) 0 c.loop-letter.letter c.loop-letter.letter (omega arith) in
    cc (c.in_ok-push.ensures.items, c.in_ok-transition_of.ensures, c.loop-letter.invariant, more)
