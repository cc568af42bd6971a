use Rattle.std.proofs.Common.{◌≡◌, map}
use Rattle.std.specs.List.{range_with_len}
use Rattle.lw_draw.specs.Drawn.{after_draws, seeded}
use Rattle.lw_trial.specs.Drawn.{words_before, drawn_row}
use Rattle.lw_trial.proofs.drawing.drawn.Given as goal

abbrev pub invariant-loop-state : goal.invariant-loop-state
invariant-loop-state l = record {
  rows : map (λ r. r.items) l.rows.items ≡ map (drawn_row (seeded l.seed) l.states l.inputs) (range_with_len 0 l.state);
  random : l.random ≡ after_draws (seeded l.seed) (words_before l.inputs l.state);
}
