use Rattle.std.proofs.Common.{refl}
use Rattle.lw_system.proofs.acceptors.asked_machine.Goals as goal

pub returns : goal.returns
returns c = let made = c.in_ok-view.ensures in (c.in_ok-view.field-0, record { inputs = made.inputs; outputs = made.outputs; mealy = made.mealy }, refl)
