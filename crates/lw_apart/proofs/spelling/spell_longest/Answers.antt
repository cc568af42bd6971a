use Rattle.std.proofs.Common.{arith}
use Rattle.lw_chunks.proofs.SizeLemmas.{powers_below}
use Rattle.lw_apart.proofs.SpellingLemmas.{count_longest, longest_spelled}
use Rattle.lw_apart.proofs.spelling.spell_longest.Goals as goal

pub overflow_add-shorter : goal.overflow_add-shorter
overflow_add-shorter c =
    let f = c.args.fronts.now in
    omega (arith, c.middle_count-shorter.ensures, c.requires, count_longest f.inputs f.longest f.some, powers_below f.inputs f.longest f.letters f.few)

pub spell-requires-clause-within : goal.spell-requires-clause-within
spell-requires-clause-within c =
    let f = c.args.fronts.now in
    omega (arith, c.middle_count-shorter.ensures, c.requires, count_longest f.inputs f.longest f.some)

pub returns : goal.returns
returns c =
    let f = c.args.fronts.now in
    longest_spelled f.inputs f.longest f.some c.args.number _ _ _ c.middle_count-shorter.ensures c.clear.ensures c.in_ok-spell.ensures
