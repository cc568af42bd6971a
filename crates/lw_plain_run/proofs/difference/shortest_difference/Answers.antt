use Rattle.std.proofs.Common.{length, ap, sym, ◌∙◌, List, ℕ, arith}
use Rattle.lw_mealy.proofs.WordLemmas.{length-out}
use Rattle.lw_plain_run.proofs.difference.shortest_difference.Goals as goal

pub agrees-requires-clause-lengths : goal.agrees-requires-clause-lengths
agrees-requires-clause-lengths c = sym (ap (λ (o : List ℕ). length o) c.in_ok-outs.ensures ∙ length-out c.args.m.now.rows 0 c.args.word.now)

pub prefix-requires : goal.prefix-requires
prefix-requires c =
    let lt = c.in-Some.ensures.some.within in
    omega (arith, lt, length-out c.args.h.now.rows 0 c.args.word.now)
