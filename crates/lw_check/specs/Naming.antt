-- The names of the outputs at the end of the command.
use Rattle.std.specs.Prelude.{◌≡◌, ◌⊎◌, ℕ, List, Option, Some, None}
use Rattle.lw_names.specs.Naming.{Naming}
use Rattle.lw_check.specs.Decision.{Pair}
use Rattle.lw_report.specs.declared.outcome.Outcome.{Outcome}
use Rattle.lw_report.specs.declared.outcome.Outcome.TheVariants.{NoMemory}

abbrev pub declared_as : List (List ℕ) → Naming
declared_as names = record { names = names; brought = None }

-- the outputs have the names of the answers file, but that they may have none where memory ran out
abbrev pub NamesOutputs : Pair → Outcome → Option Naming → Type 0
NamesOutputs p outcome outputs = (outputs ≡ Some (declared_as p.answer_outputs)) ⊎ ((outcome ≡ NoMemory) × (outputs ≡ None))
