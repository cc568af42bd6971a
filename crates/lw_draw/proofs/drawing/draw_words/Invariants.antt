use Rattle.std.proofs.Common.{◌≡◌, ◌*◌, ◌++◌}
use Rattle.lw_draw.specs.Drawn.{after_draws, drawn_words, seeded}
use Rattle.lw_draw.proofs.drawing.draw_words.Given as goal

abbrev pub invariant-loop : goal.invariant-loop
invariant-loop l = record {
  words : l.words ≡ l.initial.words ++ drawn_words l.inputs l.counter l.word_length l.seed;
  random : l.random ≡ after_draws (seeded l.seed) (l.counter * l.word_length);
}
