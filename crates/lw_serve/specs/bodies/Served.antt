-- What came of serving a machine, before and after its text was put.
use Rattle.std.specs.Prelude.{◌≡◌, ℕ, Result, Ok, Err}
use Rattle.lw_words.specs.Cause.{CountedFault}
use Rattle.lw_json.specs.declared.files.Machine.{Machine}
use Rattle.lw_line.specs.Serving.{GoesOn, Plays}
use Rattle.lw_line.specs.declared.serving.Served.{Served}
use Rattle.lw_line.specs.declared.serving.ServedCause.TheVariants.{EndOfInput, Limit}
use Rattle.lw_line.specs.declared.serving.ServeFault.{ServeFault}
use Rattle.lw_line.specs.declared.serving.ServeFault.TheVariants.{BadLine, SourceFault, SinkFault}
use Rattle.lw_report.specs.Outcomes.{StandsOrWants}
use Rattle.lw_outside.specs.Streams.{SinkState, SourceState}
use Rattle.lw_report.specs.declared.outcome.Outcome.{Outcome}
use Rattle.lw_serve.specs.Outcomes.{served_outcome}

-- serving ended so, by its contract, and the call with the outcome
pub record HasServed (m : Machine) (input_before input_now : SourceState) (out_before out_now : SinkState) (outcome : Outcome) : Type 0 where
  pub served : Result Served ServeFault
  pub comes : StandsOrWants (served_outcome served) outcome
  pub plays : Plays m input_before.left served out_before.taken out_now.taken
  pub source : served ≡ Err SourceFault → CountedFault input_before.faults input_now.faults × GoesOn m input_before.left input_now.left
  pub sink : served ≡ Err SinkFault → CountedFault out_before.faults out_now.faults
  pub ended : (s : Served) → served ≡ Ok s → s.cause ≡ EndOfInput → CountedFault input_before.ends input_now.ends
  pub limit : (s : Served) → served ≡ Ok s → s.cause ≡ Limit → s.lines ≡ 4294967295
  pub bad : (line : ℕ) → served ≡ Err (BadLine line) → (input_now.faults ≡ input_before.faults) × (out_now.faults ≡ out_before.faults)
  pub quiet : (s : Served) → served ≡ Ok s → (input_now.faults ≡ input_before.faults) × (out_now.faults ≡ out_before.faults)
