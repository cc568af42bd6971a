-- What a machine that is served answers, by the outcome.
use Rattle.std.specs.Prelude.{◌≡◌, ℕ, List, Option, Ok, Err}
use Rattle.lw_words.specs.Cause.{CountedFault}
use Rattle.lw_json.specs.declared.files.Machine.{Machine}
use Rattle.lw_line.specs.Serving.{GoesOn, Plays}
use Rattle.lw_line.specs.declared.serving.Served.{Served as Done}
use Rattle.lw_line.specs.declared.serving.ServedCause.TheVariants.{EndOfInput, Limit}
use Rattle.lw_line.specs.declared.serving.ServeFault.TheVariants as fault
use Rattle.lw_outside.specs.Streams.{SinkState, SourceState}
use Rattle.lw_report.specs.declared.outcome.Outcome.{Outcome}
use Rattle.lw_report.specs.declared.outcome.Outcome.TheVariants.{Served, NoMemory, BadAsk, SourceFault, SinkFault}

-- where the input is observed, all answers of the machine's play on it were put, and the play ends so; where a stream
-- failed, some answers were put, from the first on; and memory ran out only for the text about a line that ended the
-- play
abbrev pub PlaysTo : Machine → Option (List ℕ) → Outcome → Option (List ℕ) → Option (List ℕ) → Type 0
PlaysTo m input (Served served) before now = Plays m input (Ok served) before now
PlaysTo m input (BadAsk number) before now = Plays m input (Err (fault.BadLine number)) before now
PlaysTo m input NoMemory before now = (number : ℕ) × Plays m input (Err (fault.BadLine number)) before now
PlaysTo m input SourceFault before now = Plays m input (Err fault.SourceFault) before now
PlaysTo m input SinkFault before now = Plays m input (Err fault.SinkFault) before now
PlaysTo m input _ before now = ⊥

-- a machine was played over an input and `out`, and this is how that ended
pub record IsPlayed (m : Machine) (input_before input_now : SourceState) (out_before out_now : SinkState) (outcome : Outcome) : Type 0 where
  pub plays : PlaysTo m input_before.left outcome out_before.taken out_now.taken
  pub source : outcome ≡ SourceFault → CountedFault input_before.faults input_now.faults × GoesOn m input_before.left input_now.left
  pub sink : outcome ≡ SinkFault → CountedFault out_before.faults out_now.faults
  pub ended : (served : Done) → outcome ≡ Served served → served.cause ≡ EndOfInput →
      CountedFault input_before.ends input_now.ends
  pub limit : (served : Done) → outcome ≡ Served served → served.cause ≡ Limit →
      served.lines ≡ 4294967295
  -- a bad line, or memory that ran out for its text, comes only where neither stream counted a fault
  pub bad : (number : ℕ) → outcome ≡ BadAsk number → (input_now.faults ≡ input_before.faults) × (out_now.faults ≡ out_before.faults)
  pub memory : outcome ≡ NoMemory → (input_now.faults ≡ input_before.faults) × (out_now.faults ≡ out_before.faults)
  pub quiet : (served : Done) → outcome ≡ Served served → (input_now.faults ≡ input_before.faults) ×
      (out_now.faults ≡ out_before.faults)
