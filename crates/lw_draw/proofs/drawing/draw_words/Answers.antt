use Rattle.std.proofs.Common.{rules, ◌≡◌, ◌*◌, ◌+◌, ◌∙◌, ◌++◌, ℕ, arith, subst}
use Rattle.lw_draw.specs.Drawn.{drawn_words, seeded}
use Rattle.lw_draw.proofs.DrawLemmas.{draws_more, none_yet, no_word, word_behind}
use Rattle.lw_draw.proofs.drawing.draw_words.Goals as goal

pub loop-init : goal.loop-init
loop-init c = record {
  words = no_word c.args.inputs c.args.word_length c.args.seed c.args.words.now;
  random = c.of_seed-random.ensures ∙ none_yet (seeded c.args.seed) (0 * c.args.word_length) (omega arith);
}

pub loop-preserved : goal.loop-preserved
loop-preserved c =
    let l = c.loop in
    let n = c.args.word_length in
    record {
      words = word_behind l.random c.args.inputs n c.args.seed l.counter c.in_ok-draw_word.field-0 c.args.words.now l.words c.push.new.self l.invariant.random l.invariant.words c.in_ok-draw_word.ensures.word c.in_ok-push.ensures.ok;
      random = draws_more (seeded c.args.seed) l.random c.draw_word.new.random (l.counter * n) n ((l.counter + 1) * n) (omega arith) l.invariant.random c.in_ok-draw_word.ensures.random;
    }

pub returns : goal.returns
returns c =
    let past : c.loop.counter ≡ c.args.count = search rules in
    subst (λ (n : ℕ). c.loop.words ≡ c.args.words.now ++ drawn_words c.args.inputs n c.args.word_length c.args.seed) past c.loop.invariant.words
