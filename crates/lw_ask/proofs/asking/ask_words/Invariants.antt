use Rattle.std.proofs.Common.{◌≡◌, length, None, take}
use Rattle.lw_names.specs.Names.{IsGrown}
use Rattle.lw_ask.specs.Asking.{HasAsked}
use Rattle.lw_ask.proofs.asking.ask_words.Given as goal

abbrev pub invariant-loop-word : goal.invariant-loop-word
invariant-loop-word g l =
    let S = g.S.Sul in
    let O = g.O.Sink in
    record {
      items : l.word-items ≡ l.words;
      instance : l.session.instance ≡ 0;
      live : (S.state l.session.sul).stop ≡ None;
      inputs : (S.state l.session.sul).inputs ≡ length l.letters;
      origin : (S.state l.session.sul).origin ≡ (S.state l.fn.session.sul).origin;
      inputs_stay : (S.state l.session.sul).inputs ≡ (S.state l.fn.session.sul).inputs;
      outputs : (S.state l.session.sul).outputs ≡ (S.state l.fn.session.sul).outputs;
      most : (S.state l.session.sul).most ≡ (S.state l.fn.session.sul).most;
      asked : HasAsked (S.state l.fn.session.sul).origin.machine l.letters (take l.word-index l.word-items) (S.state l.session.sul).names l.session.journal l.kept.answers (O.state l.fn.out).taken (O.state l.out).taken;
      grown : IsGrown (S.state l.fn.session.sul).names (S.state l.session.sul).names;
      quiet : (O.state l.out).faults ≡ (O.state l.fn.out).faults;
    }
