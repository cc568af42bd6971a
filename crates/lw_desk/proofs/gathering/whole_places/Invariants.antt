use Rattle.std.proofs.Common.{◌≤◌, length, drop}
use Rattle.lw_desk.specs.bodies.Gathering.{AreWholeOf}
use Rattle.lw_desk.proofs.gathering.whole_places.Given as goal

abbrev pub invariant-loop-at : goal.invariant-loop-at
invariant-loop-at l = record {
  within : l.at ≤ length l.places;
  whole : AreWholeOf l.words (drop l.at l.places) l.whole.items;
}

abbrev pub decreases-loop-at : goal.decreases-loop-at
decreases-loop-at l = l.at
