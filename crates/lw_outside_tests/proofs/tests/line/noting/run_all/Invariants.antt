use Rattle.std.proofs.Common.{◌≡◌, None}
use Rattle.lw_outside_tests.proofs.tests.line.noting.run_all.Given as goal

abbrev pub invariant-loop-letters : goal.invariant-loop-letters
invariant-loop-letters g l =
    let S = g.S.Sul in
    (S.state l.sul).stop ≡ None
