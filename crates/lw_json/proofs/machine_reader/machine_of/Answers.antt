use Rattle.std.proofs.Common.{◌≡◌, ◌∙◌, List, ℕ, ap, map, string_bytes, subst, sym, Some}
use Rattle.lw_json.specs.Formats.{WrittenMachine, AreInputs, numbered_rows}
use Rattle.lw_json.specs.MachineFault.{SaysMachineFault}
use Rattle.lw_json.specs.bodies.MachineParts.{said_machine, written}
use Rattle.lw_json.proofs.Faults.{handed_on}
use Rattle.lw_json.proofs.MachineFaults.{inputs_fault, outputs_fault}
use Rattle.lw_json.proofs.machine_reader.machine_of.Goals as goal

pub returns-in_err-inputs-clause-err : goal.returns-in_err-inputs-clause-err
returns-in_err-inputs-clause-err c =
    let w : WrittenMachine = said_machine c.args.said.now in
    handed_on (SaysMachineFault w) c.from_residual.result c.in_err-inputs.field-0.0 c.from_residual.ensures.1
    (inputs_fault w c.in_err-inputs.field-0.0 (rw c.deref.ensures.value at c.in_err-inputs.ensures.err))

pub returns-in_err-outputs-clause-err : goal.returns-in_err-outputs-clause-err
returns-in_err-outputs-clause-err c =
    let w : WrittenMachine = said_machine c.args.said.now in
    let in_is : c.in_ok-inputs.inputs ≡ w.inputs = c.in_ok-inputs.ensures.ok ∙ ap (map (λ s. string_bytes s)) c.deref.ensures.value in
    let inputs : AreInputs w.inputs = subst (λ (l : List (List ℕ)). AreInputs l) in_is c.in_ok-inputs.ensures.names in
    handed_on (SaysMachineFault w) c.from_residual-in_err-outputs.result c.in_err-outputs.field-0.0 c.from_residual-in_err-outputs.ensures.1
    (outputs_fault w c.in_err-outputs.field-0.0 inputs (rw c.deref-2.ensures.value at c.in_err-outputs.ensures.err))

pub returns-in_err-mealy-clause-err : goal.returns-in_err-mealy-clause-err
returns-in_err-mealy-clause-err c =
    let w : WrittenMachine = said_machine c.args.said.now in
    let in_is : c.in_ok-inputs.inputs ≡ w.inputs = c.in_ok-inputs.ensures.ok ∙ ap (map (λ s. string_bytes s)) c.deref.ensures.value in
    let out_is : c.in_ok-outputs.outputs ≡ w.outputs = c.in_ok-outputs.ensures.ok ∙ ap (map (λ s. string_bytes s)) c.deref-2.ensures.value in
    let told : SaysMachineFault (written c.in_ok-inputs.inputs c.in_ok-outputs.outputs w.states) c.in_err-mealy.field-0.0 = rw c.deref-3.ensures.value at c.in_err-mealy.ensures.err in
    let over : SaysMachineFault (written w.inputs c.in_ok-outputs.outputs w.states) c.in_err-mealy.field-0.0 =
    subst (λ (i : List (List ℕ)). SaysMachineFault (written i c.in_ok-outputs.outputs w.states) c.in_err-mealy.field-0.0) in_is told in
    handed_on (SaysMachineFault w) c.from_residual-in_err-mealy.result c.in_err-mealy.field-0.0 c.from_residual-in_err-mealy.ensures.1
    (subst (λ (o : List (List ℕ)). SaysMachineFault (written w.inputs o w.states) c.in_err-mealy.field-0.0) out_is over)

pub returns-clause-ok : goal.returns-clause-ok
returns-clause-ok c =
    let w : WrittenMachine = said_machine c.args.said.now in
    let in_is : c.in_ok-inputs.inputs ≡ w.inputs = c.in_ok-inputs.ensures.ok ∙ ap (map (λ s. string_bytes s)) c.deref.ensures.value in
    let out_is : c.in_ok-outputs.outputs ≡ w.outputs = c.in_ok-outputs.ensures.ok ∙ ap (map (λ s. string_bytes s)) c.deref-2.ensures.value in
    let rows : numbered_rows c.in_ok-outputs.outputs w.states ≡ Some c.in_ok-mealy.mealy.rows = rw c.deref-3.ensures.value at c.in_ok-mealy.ensures.rows in
    record {
      inputs = sym in_is;
      outputs = sym out_is;
      states = rows;
      named = record {
        inputs = c.in_ok-inputs.ensures.names;
        outputs = c.in_ok-outputs.ensures.names;
        complete = c.in_ok-mealy.ensures.machine;
        letters = c.in_ok-mealy.ensures.letters;
        answers = c.in_ok-mealy.ensures.answers;
      };
    }
