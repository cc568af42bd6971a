-- What becomes of an outcome in writing out.
use Rattle.std.specs.Prelude.{◌≡◌, ◌⊎◌}
use Rattle.lw_check.specs.Decision.{IsYesOrNo}
use Rattle.lw_report.specs.declared.outcome.Outcome.{Outcome}
use Rattle.lw_report.specs.declared.outcome.Outcome.TheVariants.{NoMemory, SinkFault}

-- it stands; or memory ran out; or it was a yes or a no, and a stream refused its text
abbrev pub OutcomeIsTold : Outcome → Outcome → Type 0
OutcomeIsTold outcome result = (result ≡ outcome) ⊎ ((result ≡ NoMemory) ⊎ (IsYesOrNo outcome × (result ≡ SinkFault)))
