use Rattle.std.proofs.Common.{◌≡◌, ◌<◌, None, true}
use Rattle.lw_outside_tests.proofs.tests.line.asking.comes.Given as goal

abbrev pub invariant-loop-y : goal.invariant-loop-y
invariant-loop-y g l =
    let S = g.S.Sul in
    record {
      live : (S.state l.sul).stop ≡ None;
      begun : (S.state l.sul).started ≡ true;
      letter : 0 < (S.state l.sul).inputs;
    }
