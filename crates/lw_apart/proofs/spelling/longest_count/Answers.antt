use Rattle.std.proofs.Common.{arith}
use Rattle.lw_apart.proofs.SpellingLemmas.{count_longest}
use Rattle.lw_apart.proofs.spelling.longest_count.Goals as goal

pub returns : goal.returns
returns c =
    let f = c.args.fronts.now in
    omega (arith, c.middle_count.ensures, f.counted, count_longest f.inputs f.longest f.some)
