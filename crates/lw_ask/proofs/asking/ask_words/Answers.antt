use Rattle.std.proofs.Common.{ℕ, ◌≡◌, ◌∙◌, ◌++◌, ◌∷◌, [], List, ap, get_or, refl, rules, take, subst, sym}
use Rattle.std.proofs.lemmas.List.{take_more}
use Rattle.lw_mealy.specs.Origin.{Origin}
use Rattle.lw_ask.specs.Asking.{HasAsked, HasStopped}
use Rattle.lw_ask.specs.bodies.Step.{GainsLine, StopsOne}
use Rattle.lw_ask.proofs.AskLemmas.{asked_more, grown_twice, not_refused, not_sink, stopped_at, told_stop}
use Rattle.lw_ask.proofs.asking.ask_words.Goals as goal

pub loop-word-preserved : goal.loop-word-preserved
loop-word-preserved g c =
    let S = g.S.Sul in
    let O = g.O.Sink in
    let was = c.loop-word.invariant in
    let letters = c.args.letters.now in
    let items = c.as_slice-word-items.result.now in
    let i = c.loop-word.word-index in
    let machine = (S.state c.args.session.now.sul).origin.machine in
    let s = c.loop-word.session in
    let t = c.ask_word.new.session in
    let before = (O.state c.args.out.now).taken in
    let mid = (O.state c.loop-word.out).taken in
    let now = (O.state c.ask_word.new.out).taken in
    let w = c.word-item.result in
    let at : w ≡ get_or items i w = c.word-item.is in
    let gain : GainsLine machine letters w (S.state s.sul).names (S.state t.sul).names s.journal t.journal c.loop-word.kept.answers c.ask_word.new.kept.answers mid now =
    subst (λ (o : Origin). GainsLine o.machine letters w (S.state s.sul).names (S.state t.sul).names s.journal t.journal c.loop-word.kept.answers c.ask_word.new.kept.answers mid now) was.origin c.in_ok-ask_word.ensures.ok in
    let same = c.ask_word.ensures.same in
    record {
      items = was.items;
      instance = c.ask_word.ensures.instance ∙ was.instance;
      live = c.in_ok-ask_word.ensures.live;
      inputs = same.inputs ∙ was.inputs;
      origin = same.origin ∙ was.origin;
      inputs_stay = same.inputs ∙ was.inputs_stay;
      outputs = same.outputs ∙ was.outputs;
      most = same.most ∙ was.most;
      asked = subst (λ (ws : List (List ℕ)). HasAsked machine letters ws (S.state t.sul).names t.journal c.ask_word.new.kept.answers before now) (ap (λ (x : List ℕ). take i items ++ x ∷ []) at ∙ sym (take_more items i w c.loop-word-test.true))
          (asked_more machine letters (take i items) (S.state s.sul).names (S.state t.sul).names s.journal t.journal c.loop-word.kept.answers c.ask_word.new.kept.answers before mid now was.asked w gain);
      grown = grown_twice (S.state c.args.session.now.sul).names (S.state s.sul).names (S.state t.sul).names was.grown c.ask_word.ensures.grown;
      quiet = c.in_ok-ask_word.ensures.quiet (not_refused _ _ refl) ∙ was.quiet;
    }

pub returns-in_err-ask_word-clause-err : goal.returns-in_err-ask_word-clause-err
returns-in_err-ask_word-clause-err g c =
    let S = g.S.Sul in
    let O = g.O.Sink in
    let was = c.loop-word.invariant in
    let letters = c.args.letters.now in
    let items = c.as_slice-word-items.result.now in
    let i = c.loop-word.word-index in
    let machine = (S.state c.args.session.now.sul).origin.machine in
    let s = c.loop-word.session in
    let t = c.ask_word.new.session in
    let before = (O.state c.args.out.now).taken in
    let mid = (O.state c.loop-word.out).taken in
    let now = (O.state c.ask_word.new.out).taken in
    let w = c.word-item.result in
    let at : w ≡ get_or items i w = c.word-item.is in
    let stop = c.in_err-ask_word.field-0.0 in
    let stops : StopsOne machine letters w (S.state s.sul).names (S.state t.sul).names s.journal t.journal c.loop-word.kept.answers c.ask_word.new.kept.answers mid now stop =
    subst (λ (o : Origin). StopsOne o.machine letters w (S.state s.sul).names (S.state t.sul).names s.journal t.journal c.loop-word.kept.answers c.ask_word.new.kept.answers mid now stop) was.origin c.in_err-ask_word.ensures.err in
    let here = subst (λ (x : List ℕ). StopsOne machine letters x (S.state s.sul).names (S.state t.sul).names s.journal t.journal c.loop-word.kept.answers c.ask_word.new.kept.answers mid now stop) at stops in
    told_stop (HasStopped machine letters c.args.words.now (S.state t.sul).names t.journal c.ask_word.new.kept.answers before now) stop c.from_residual.result (search rules)
    (subst (λ (ws : List (List ℕ)). HasStopped machine letters ws (S.state t.sul).names t.journal c.ask_word.new.kept.answers before now stop) was.items
    (stopped_at machine letters items (S.state s.sul).names (S.state t.sul).names s.journal t.journal c.loop-word.kept.answers c.ask_word.new.kept.answers before mid now i w c.loop-word-test.true was.asked stop here))

pub returns-in_err-ask_word-clause-grown : goal.returns-in_err-ask_word-clause-grown
returns-in_err-ask_word-clause-grown g c =
    let S = g.S.Sul in
    grown_twice (S.state c.args.session.now.sul).names (S.state c.loop-word.session.sul).names (S.state c.ask_word.new.session.sul).names c.loop-word.invariant.grown c.ask_word.ensures.grown

pub returns-in_err-ask_word-clause-quiet : goal.returns-in_err-ask_word-clause-quiet
returns-in_err-ask_word-clause-quiet g c calm = c.in_err-ask_word.ensures.quiet (not_sink c.in_err-ask_word.field-0.0 c.from_residual.result _ (search rules) refl calm) ∙ c.loop-word.invariant.quiet
