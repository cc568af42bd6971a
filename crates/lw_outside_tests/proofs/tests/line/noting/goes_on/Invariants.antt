use Rattle.std.proofs.Common.{◌≡◌, None, true}
use Rattle.lw_outside_tests.proofs.tests.line.noting.goes_on.Given as goal

abbrev pub invariant-loop-x : goal.invariant-loop-x
invariant-loop-x g l =
    let S = g.S.Sul in
    record {
      live : (S.state l.sul).stop ≡ None;
      begun : (S.state l.sul).started ≡ true;
    }
