use Rattle.std.proofs.Common.{◌∙◌, List, ℕ, Option, ap, map, option_map, string_bytes, subst}
use Rattle.lw_json.specs.Formats.{AreInputs}
use Rattle.lw_json.specs.SetupFile.{WrittenSetup, SaysSetupFault, AreOutputs}
use Rattle.lw_json.specs.bodies.SetupParts.{said_command}
use Rattle.lw_json.proofs.Faults.{handed_on}
use Rattle.lw_json.proofs.SetupFaults.{inputs_fault, outputs_fault}
use Rattle.lw_json.proofs.setup_reader.command_setup.Goals as goal

pub returns-in_err-inputs_named-clause-err : goal.returns-in_err-inputs_named-clause-err
returns-in_err-inputs_named-clause-err c =
    let w : WrittenSetup = said_command c.args.words c.args.inputs c.args.outputs in
    handed_on (SaysSetupFault w) c.from_residual.result c.in_err-inputs_named.field-0.0 c.from_residual.ensures.1
    (inputs_fault (map (λ s. string_bytes s) c.args.words.items) (map (λ s. string_bytes s) c.args.inputs.items) (option_map (λ v. map (λ s. string_bytes s) v.items) c.args.outputs) c.in_err-inputs_named.field-0.0
    (rw c.deref.ensures.value at c.in_err-inputs_named.ensures.err))

pub returns-in_err-outputs_named-clause-err : goal.returns-in_err-outputs_named-clause-err
returns-in_err-outputs_named-clause-err c =
    let w : WrittenSetup = said_command c.args.words c.args.inputs c.args.outputs in
    let named : AreInputs (map (λ s. string_bytes s) c.args.inputs.items) = subst (λ (l : List (List ℕ)). AreInputs l) (c.in_ok-inputs_named.ensures.ok ∙ ap (map (λ s. string_bytes s)) c.deref.ensures.value) c.in_ok-inputs_named.ensures.names in
    handed_on (SaysSetupFault w) c.from_residual-in_err-outputs_named.result c.in_err-outputs_named.field-0.0 c.from_residual-in_err-outputs_named.ensures.1
    (outputs_fault (map (λ s. string_bytes s) c.args.words.items) (map (λ s. string_bytes s) c.args.inputs.items) (option_map (λ v. map (λ s. string_bytes s) v.items) c.args.outputs) c.in_err-outputs_named.field-0.0
    named c.in_err-outputs_named.ensures.err)

pub returns-clause-ok : goal.returns-clause-ok
returns-clause-ok c =
    let is = c.in_ok-inputs_named.ensures.ok ∙ ap (map (λ s. string_bytes s)) c.deref.ensures.value in
    let named : AreInputs (map (λ s. string_bytes s) c.args.inputs.items) = subst (λ (l : List (List ℕ)). AreInputs l) is c.in_ok-inputs_named.ensures.names in
    let outputs : AreOutputs (option_map (λ v. map (λ s. string_bytes s) v.items) c.args.outputs) = subst (λ (o : Option (List (List ℕ))). AreOutputs o) c.in_ok-outputs_named.ensures.ok c.in_ok-outputs_named.ensures.names in
    (c.new.ensures, is, c.in_ok-outputs_named.ensures.ok, named, outputs)
