use Rattle.std.proofs.Common.{◌≡◌, ◌<◌, ◌++◌, length, drop}
use Rattle.lw_mealy.specs.Machine.{out, answer}
use Rattle.lw_mealy.proofs.mealy.Mealy.answer.Given as goal

abbrev pub invariant-loop-x : goal.invariant-loop-x
invariant-loop-x l = (l.state < length l.self.rows) × (l.outs ++ out l.self.rows l.state (drop l.x-index l.x-items) ≡ answer l.self.rows l.w)
