-- The first fault of a setup file, from what its parts told.
use Rattle.std.proofs.Common.{List, ℕ, Option}
use Rattle.lw_json.specs.Fault.{IsFaultOf}
use Rattle.lw_json.specs.Formats.{AreInputs}
use Rattle.lw_json.specs.SetupFile.{command, DeclaredFault, SaysSetupFault}
use Rattle.lw_json.specs.bodies.Told.{Told}
use Rattle.lw_json.specs.declared.fault.JsonFault.{JsonFault}
use Rattle.lw_json.specs.declared.fault.JsonFault.TheVariants.{Inputs, Outputs}
use Rattle.lw_json.proofs.Faults.{told_by}

module _ (words inputs : List (List ℕ)) (outputs : Option (List (List ℕ))) (told : JsonFault) where
  pub inputs_fault : Told Inputs (IsFaultOf 64 inputs) told → SaysSetupFault (command words inputs outputs) told
  inputs_fault h = told_by Inputs (IsFaultOf 64 inputs) (SaysSetupFault (command words inputs outputs)) told h tt (λ fault p. p)

  pub outputs_fault : AreInputs inputs → Told Outputs (DeclaredFault outputs) told → SaysSetupFault (command words inputs outputs) told
  outputs_fault named h = told_by Outputs (DeclaredFault outputs) (SaysSetupFault (command words inputs outputs)) told h tt (λ fault p. (named, p))
