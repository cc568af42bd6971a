use Rattle.std.proofs.Common.{◌≡◌, ◌*◌, ◌-◌, ◌<◌, map}
use Rattle.std.specs.List.{range_with_len}
use Rattle.lw_draw.specs.Drawn.{after_draws}
use Rattle.lw_trial.specs.Drawn.{drawn_cell}
use Rattle.lw_trial.proofs.drawing.drawn_state.Given as goal

abbrev pub invariant-loop : goal.invariant-loop
invariant-loop l = record {
  row : l.row.items ≡ map (drawn_cell l.initial.random l.states l.state) (range_with_len 0 l.counter);
  random : l.random ≡ after_draws l.initial.random (2 * (l.counter - 1));
  some : 0 < l.counter;
}
