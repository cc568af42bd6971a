use Rattle.std.proofs.Common.{◌≡◌, ◌++◌, take, drop}
use Rattle.lw_desk.specs.History.{MayGiveAll, names_given}
use Rattle.lw_sessions_tests.proofs.tests.desk.trial.after_gives.Given as goal

abbrev pub invariant-loop-g : goal.invariant-loop-g
invariant-loop-g g l = record {
  own : l.names.items ≡ l.own ++ names_given (take l.g-index l.gives);
  may : MayGiveAll l.words l.free l.names.items (drop l.g-index l.gives) → MayGiveAll l.words l.free l.own l.gives;
}
