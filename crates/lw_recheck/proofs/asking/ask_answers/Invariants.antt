use Rattle.std.proofs.Common.{◌≡◌, None, take}
use Rattle.lw_names.specs.Names.{IsGrown}
use Rattle.lw_recheck.specs.Again.{AreAgain}
use Rattle.lw_recheck.proofs.asking.ask_answers.Given as goal

abbrev pub invariant-loop-number : goal.invariant-loop-number
invariant-loop-number g l =
    let S = g.S.Sul in
    record {
      live : (S.state l.session.sul).stop ≡ None;
      origin : (S.state l.session.sul).origin ≡ (S.state l.fn.session.sul).origin;
      inputs : (S.state l.session.sul).inputs ≡ (S.state l.fn.session.sul).inputs;
      outputs : (S.state l.session.sul).outputs ≡ (S.state l.fn.session.sul).outputs;
      most : (S.state l.session.sul).most ≡ (S.state l.fn.session.sul).most;
      are : AreAgain (S.state l.fn.session.sul).origin.machine l.outputs (take l.number l.kept.answers) (S.state l.session.sul).names l.session.journal;
      grown : IsGrown (S.state l.fn.session.sul).names (S.state l.session.sul).names;
    }
