-- The first fault of an answers file, from what its parts told.
use Rattle.lw_words.specs.First.{FailsFirst}
use Rattle.lw_words.specs.Word.{IsNames}
use Rattle.lw_json.specs.Formats.{WrittenAnswers, AreInputs}
use Rattle.lw_json.specs.AnswersFault.{AnswerHasWords, SaysAnswersFault}
use Rattle.lw_json.specs.Fault.{IsFaultOf}
use Rattle.lw_json.specs.bodies.Told.{Told}
use Rattle.lw_json.specs.declared.fault.JsonFault.{JsonFault}
use Rattle.lw_json.specs.declared.fault.JsonFault.TheVariants.{Inputs, Outputs, BadWord}
use Rattle.lw_json.proofs.Faults.{told_by}

module _ (w : WrittenAnswers) (told : JsonFault) where
  pub inputs_fault : Told Inputs (IsFaultOf 64 w.inputs) told → SaysAnswersFault w told
  inputs_fault h = told_by Inputs (IsFaultOf 64 w.inputs) (SaysAnswersFault w) told h tt (λ fault p. p)

  pub outputs_fault : AreInputs w.inputs → Told Outputs (IsFaultOf 4096 w.outputs) told → SaysAnswersFault w told
  outputs_fault inputs h = told_by Outputs (IsFaultOf 4096 w.outputs) (SaysAnswersFault w) told h tt (λ fault p. (inputs, p))

  pub words_fault : AreInputs w.inputs → IsNames w.outputs → Told BadWord (FailsFirst (AnswerHasWords w.inputs w.outputs) w.answers) told → SaysAnswersFault w told
  words_fault inputs outputs h = told_by BadWord (FailsFirst (AnswerHasWords w.inputs w.outputs) w.answers) (SaysAnswersFault w) told h tt (λ place p. (inputs, outputs, p))
