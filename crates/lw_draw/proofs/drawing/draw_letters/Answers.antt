use Rattle.std.proofs.Common.{rules, ◌≡◌, ◌+◌, ◌++◌, ℕ, refl, subst}
use Rattle.lw_draw.specs.Drawn.{after_draws, drawn_word}
use Rattle.lw_draw.proofs.DrawLemmas.{draws_more, letter_behind, no_letter, none_yet}
use Rattle.lw_draw.proofs.drawing.draw_letters.Goals as goal

pub loop-init : goal.loop-init
loop-init c = record {
  word = no_letter c.args.inputs c.args.random.now c.args.word.now;
  random = none_yet c.args.random.now 0 refl;
}

pub loop-preserved : goal.loop-preserved
loop-preserved c =
    let l = c.loop in
    record {
      word = letter_behind c.args.random.now l.random c.args.inputs l.counter c.draw_letter.result c.args.word.now l.word c.push.new.self l.invariant.random l.invariant.word c.draw_letter.ensures.letter c.in_ok-push.ensures.ok;
      random = draws_more c.args.random.now l.random c.draw_letter.new.random l.counter 1 (l.counter + 1) refl l.invariant.random c.draw_letter.ensures.random;
    }

pub returns-clause-word : goal.returns-clause-word
returns-clause-word c =
    let past : c.loop.counter ≡ c.args.count = search rules in
    subst (λ (n : ℕ). c.loop.word ≡ c.args.word.now ++ drawn_word c.args.inputs n c.args.random.now) past c.loop.invariant.word

pub returns-clause-random : goal.returns-clause-random
returns-clause-random c =
    let past : c.loop.counter ≡ c.args.count = search rules in
    subst (λ (n : ℕ). c.loop.random ≡ after_draws c.args.random.now n) past c.loop.invariant.random
