use Rattle.std.proofs.Common.{◌≡◌, ◌∙◌, ◌<◌, ◌≤◌, ℕ, length, true, false, is_some, refl, rules, subst, sym, arith}
use Rattle.lw_words.specs.Word.{IsWord}
use Rattle.lw_mealy.specs.Origin.{Origin}
use Rattle.lw_recheck.specs.bodies.Step.{GainsOne}
use Rattle.lw_recheck.proofs.AgainLemmas.{all_again, found_none, found_some, grown_twice, has_gone, none_again, over_at, told_gone}
use Rattle.lw_recheck.proofs.NameLemmas.{grown_none}
use Rattle.lw_recheck.proofs.asking.ask_answers.Goals as goal

pub loop-number-init : goal.loop-number-init
loop-number-init g c =
    let S = g.S.Sul in
    let s = c.args.session.now in
    record {
      live = c.requires.live;
      origin = refl;
      inputs = refl;
      outputs = refl;
      most = refl;
      are = none_again (S.state s.sul).origin.machine c.args.outputs.now (S.state s.sul).names c.args.kept.now.answers s.journal c.requires.fresh;
      grown = grown_none (S.state s.sul).names;
    }

pub ask_again-requires-clause-word : goal.ask_again-requires-clause-word
ask_again-requires-clause-word g c =
    let S = g.S.Sul in
    let was = c.loop-number.invariant in
    let outputs = c.args.outputs.now in
    let ks = c.args.kept.now.answers in
    let i = c.loop-number.number in
    let k = c.get.result.now in
    let lt : i < length ks = omega (arith, c.len-number-end.ensures, c.loop-number-test.true) in
    subst (λ (n : ℕ). IsWord n k.word) (sym was.inputs) (over_at ks i k lt c.get.ensures (S.state c.args.session.now.sul).inputs (length outputs) c.requires.over).word

pub ask_again-requires-clause-outs : goal.ask_again-requires-clause-outs
ask_again-requires-clause-outs g c =
    let S = g.S.Sul in
    let outputs = c.args.outputs.now in
    let ks = c.args.kept.now.answers in
    let i = c.loop-number.number in
    let k = c.get.result.now in
    let lt : i < length ks = omega (arith, c.len-number-end.ensures, c.loop-number-test.true) in
    (over_at ks i k lt c.get.ensures (S.state c.args.session.now.sul).inputs (length outputs) c.requires.over).outs

pub ask_again-requires-clause-even : goal.ask_again-requires-clause-even
ask_again-requires-clause-even g c =
    let S = g.S.Sul in
    let outputs = c.args.outputs.now in
    let ks = c.args.kept.now.answers in
    let i = c.loop-number.number in
    let k = c.get.result.now in
    let lt : i < length ks = omega (arith, c.len-number-end.ensures, c.loop-number-test.true) in
    (over_at ks i k lt c.get.ensures (S.state c.args.session.now.sul).inputs (length outputs) c.requires.over).even

pub loop-number-preserved : goal.loop-number-preserved
loop-number-preserved g c =
    let S = g.S.Sul in
    let was = c.loop-number.invariant in
    let outputs = c.args.outputs.now in
    let ks = c.args.kept.now.answers in
    let i = c.loop-number.number in
    let k = c.get.result.now in
    let lt : i < length ks = omega (arith, c.len-number-end.ensures, c.loop-number-test.true) in
    let machine = (S.state c.args.session.now.sul).origin.machine in
    let s = c.loop-number.session in
    let t = c.ask_again.new.session in
    let found = c.in_ok-found.found in
    let gains : GainsOne machine outputs i k (S.state s.sul).names (S.state t.sul).names s.journal t.journal found =
    subst (λ (o : Origin). GainsOne o.machine outputs i k (S.state s.sul).names (S.state t.sul).names s.journal t.journal found) was.origin c.in_ok-found.ensures.ok in
    let none : is_some found ≡ false = search rules in
    let same = c.ask_again.ensures.same in
    record {
      live = c.in_ok-found.ensures.live;
      origin = same.origin ∙ was.origin;
      inputs = same.inputs ∙ was.inputs;
      outputs = same.outputs ∙ was.outputs;
      most = same.most ∙ was.most;
      are = found_none machine outputs ks (S.state s.sul).names (S.state t.sul).names s.journal t.journal i k lt c.get.ensures was.are found none gains;
      grown = grown_twice (S.state c.args.session.now.sul).names (S.state s.sul).names (S.state t.sul).names was.grown c.ask_again.ensures.grown;
    }

pub returns-then-is_some-clause-found : goal.returns-then-is_some-clause-found
returns-then-is_some-clause-found g c =
    let S = g.S.Sul in
    let was = c.loop-number.invariant in
    let outputs = c.args.outputs.now in
    let ks = c.args.kept.now.answers in
    let i = c.loop-number.number in
    let k = c.get.result.now in
    let lt : i < length ks = omega (arith, c.len-number-end.ensures, c.loop-number-test.true) in
    let machine = (S.state c.args.session.now.sul).origin.machine in
    let s = c.loop-number.session in
    let t = c.ask_again.new.session in
    let found = c.in_ok-found.found in
    let gains : GainsOne machine outputs i k (S.state s.sul).names (S.state t.sul).names s.journal t.journal found =
    subst (λ (o : Origin). GainsOne o.machine outputs i k (S.state s.sul).names (S.state t.sul).names s.journal t.journal found) was.origin c.in_ok-found.ensures.ok in
    let some : is_some found ≡ true = search rules in
    found_some machine outputs ks (S.state s.sul).names (S.state t.sul).names s.journal t.journal i k lt c.get.ensures was.are found some gains

pub returns-then-is_some-clause-grown : goal.returns-then-is_some-clause-grown
returns-then-is_some-clause-grown g c =
    let S = g.S.Sul in
    grown_twice (S.state c.args.session.now.sul).names (S.state c.loop-number.session.sul).names (S.state c.ask_again.new.session.sul).names c.loop-number.invariant.grown c.ask_again.ensures.grown

pub returns-in_err-found-clause-found : goal.returns-in_err-found-clause-found
returns-in_err-found-clause-found g c =
    let S = g.S.Sul in
    let was = c.loop-number.invariant in
    let outputs = c.args.outputs.now in
    let ks = c.args.kept.now.answers in
    let i = c.loop-number.number in
    let k = c.get.result.now in
    let lt : i < length ks = omega (arith, c.len-number-end.ensures, c.loop-number-test.true) in
    let machine = (S.state c.args.session.now.sul).origin.machine in
    let s = c.loop-number.session in
    let t = c.ask_again.new.session in
    told_gone machine outputs ks (S.state t.sul).names t.journal c.in_err-found.field-0.0 c.from_residual.result (search rules)
    (has_gone machine outputs ks (S.state s.sul).names (S.state t.sul).names s.journal t.journal i k lt c.get.ensures was.are c.in_err-found.ensures.left c.ask_again.ensures.grown)

pub returns-in_err-found-clause-grown : goal.returns-in_err-found-clause-grown
returns-in_err-found-clause-grown g c =
    let S = g.S.Sul in
    grown_twice (S.state c.args.session.now.sul).names (S.state c.loop-number.session.sul).names (S.state c.ask_again.new.session.sul).names c.loop-number.invariant.grown c.ask_again.ensures.grown

pub returns-clause-found : goal.returns-clause-found
returns-clause-found g c =
    let S = g.S.Sul in
    let s = c.loop-number.session in
    let ks = c.args.kept.now.answers in
    let all : length ks ≤ c.loop-number.number = omega (arith, c.len-number-end.ensures, c.loop-number-test.false) in
    all_again (S.state c.args.session.now.sul).origin.machine c.args.outputs.now (S.state s.sul).names ks s.journal c.loop-number.number all c.loop-number.invariant.are
