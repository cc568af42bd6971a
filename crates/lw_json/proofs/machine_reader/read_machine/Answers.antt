use Rattle.serde_json.specs.View.{view}
use Rattle.lw_json.specs.Formats.{SpellsMachine, IsMachineFile, SameMachine}
use Rattle.lw_json.specs.bodies.MachineParts.{said_machine}
use Rattle.lw_json.specs.declared.files.Machine.{Machine}
use Rattle.lw_json.proofs.Faults.{value_holds}
use Rattle.lw_json.proofs.OneValue.{one_value}
use Rattle.lw_json.proofs.machine_reader.read_machine.Goals as goal

pub returns-clause-only : goal.returns-clause-only
returns-clause-only c =
    let file : (m : Machine) → SpellsMachine (said_machine c.in_ok-said.said) m → IsMachineFile c.args.bytes.now m = λ m h. (view c.in_ok-root.root, c.in_ok-root.ensures.ok, (said_machine c.in_ok-said.said, c.in_ok-said.ensures.ok, h)) in
    value_holds (SpellsMachine (said_machine c.in_ok-said.said)) (λ m. (n : Machine) → IsMachineFile c.args.bytes.now n → SameMachine n m) c.machine_of.result
    (λ m h n other. one_value c.args.bytes.now n m other (file m h)) c.machine_of.ensures.ok
