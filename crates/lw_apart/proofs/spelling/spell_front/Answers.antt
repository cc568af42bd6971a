use Rattle.std.proofs.Common.{ℕ, ◌%◌, ◌<◌, subst, arith}
use Rattle.lw_apart.proofs.SpellingLemmas.{front_parts, front_spelled}
use Rattle.lw_apart.proofs.spelling.spell_front.Goals as goal

pub nonzero_div-access : goal.nonzero_div-access
nonzero_div-access c = let p = (front_parts c.args.fronts.now c.args.number c.requires).1 in omega (arith, p)

pub nonzero_rem-number : goal.nonzero_rem-number
nonzero_rem-number c = let p = (front_parts c.args.fronts.now c.args.number c.requires).1 in omega (arith, p)

pub get-requires : goal.get-requires
get-requires c = (front_parts c.args.fronts.now c.args.number c.requires).0

pub spell-requires-clause-within : goal.spell-requires-clause-within
spell-requires-clause-within c =
    subst (λ (n : ℕ). c.args.number % c.args.fronts.now.middles < n) c.args.fronts.now.counted (front_parts c.args.fronts.now c.args.number c.requires).1

pub returns : goal.returns
returns c = front_spelled c.args.fronts.now c.args.number _ _ _ _ _ c.requires c.clear.ensures c.get.ensures c.as_slice.ensures c.in_ok-extend.ensures.ok c.in_ok-spell.ensures
