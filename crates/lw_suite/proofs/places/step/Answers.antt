use Rattle.std.proofs.Common.{arith}
use Rattle.lw_suite.proofs.PlaceLemmas.{stepped_end}
use Rattle.lw_suite.proofs.places.step.Goals as goal

pub returns-then-place-len-clause-place : goal.returns-then-place-len-clause-place
returns-then-place-len-clause-place c = stepped_end c.args.parts.now c.args.place (let t = c.if-place-len.true in let l = c.len.ensures in omega arith) c.requires.more
