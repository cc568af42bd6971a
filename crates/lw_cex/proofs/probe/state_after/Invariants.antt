use Rattle.std.proofs.Common.{◌≡◌, ◌<◌, length, drop}
use Rattle.lw_mealy.specs.Machine.{after}
use Rattle.lw_cex.proofs.probe.state_after.Given as goal

abbrev pub invariant-loop-x : goal.invariant-loop-x
invariant-loop-x l = (l.state < length l.model.rows) × (after l.model.rows l.state (drop l.x-index l.letters) ≡ after l.model.rows 0 l.letters)
