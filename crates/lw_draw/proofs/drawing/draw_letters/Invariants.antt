use Rattle.std.proofs.Common.{◌≡◌, ◌++◌}
use Rattle.lw_draw.specs.Drawn.{after_draws, drawn_word}
use Rattle.lw_draw.proofs.drawing.draw_letters.Given as goal

abbrev pub invariant-loop : goal.invariant-loop
invariant-loop l = record {
  word : l.word ≡ l.initial.word ++ drawn_word l.inputs l.counter l.initial.random;
  random : l.random ≡ after_draws l.initial.random l.counter;
}
