-- What becomes of an outcome in writing out.
use Rattle.std.specs.Prelude.{◌≡◌, ◌⊎◌}
use Rattle.lw_json.specs.declared.files.Machine.{Machine}
use Rattle.lw_compare.specs.Decision.{IsComparison}
use Rattle.lw_compare.specs.Outcomes.{IsAnswered}
use Rattle.lw_report.specs.declared.comparison.Comparison.{Comparison}
use Rattle.lw_report.specs.declared.outcome.Outcome.{Outcome}
use Rattle.lw_report.specs.declared.outcome.Outcome.TheVariants.{Compared, NoMemory, SinkFault}

-- it stands; or memory ran out; or it was a verdict, and a stream refused its text
abbrev pub IsTold : Outcome → Outcome → Type 0
IsTold outcome result = (result ≡ outcome) ⊎ ((result ≡ NoMemory) ⊎ (IsAnswered outcome × (result ≡ SinkFault)))

-- how the models compare, or out of memory
abbrev pub HasCompared : Machine → Machine → Outcome → Type 0
HasCompared first second outcome = ((c : Comparison) × IsComparison first second c × (outcome ≡ Compared c)) ⊎ (outcome ≡ NoMemory)
