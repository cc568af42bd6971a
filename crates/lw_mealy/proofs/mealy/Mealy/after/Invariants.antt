use Rattle.std.proofs.Common.{◌≡◌, ◌<◌, length, drop}
use Rattle.lw_mealy.specs.Machine.{after}
use Rattle.lw_mealy.proofs.mealy.Mealy.after.Given as goal

abbrev pub invariant-loop-x : goal.invariant-loop-x
invariant-loop-x l = (l.state < length l.self.rows) × (after l.self.rows l.state (drop l.x-index l.x-items) ≡ after l.self.rows l.q l.w)
