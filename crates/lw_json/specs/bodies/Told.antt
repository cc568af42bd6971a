-- What a part of a reader answers in place of its value.
use Rattle.std.specs.Prelude.{◌≡◌, ◌⊎◌, List, Bool, Some}
use Rattle.lw_json.specs.Fault.{first_failing}
use Rattle.lw_json.specs.declared.fault.Field.{Field}
use Rattle.lw_json.specs.declared.fault.JsonFault.{JsonFault}
use Rattle.lw_json.specs.declared.fault.JsonFault.TheVariants.{Shape, NoMemory}

-- out of memory, or a fault of the part, for which P holds, reported as one of the file
abbrev pub Told : {F : Type 0} → (F → JsonFault) → (F → Type 0) → JsonFault → Type 0
Told {F} wrap P told = (told ≡ NoMemory) ⊎ ((fault : F) × (told ≡ wrap fault) × P fault)

-- out of memory, or the first of the tests of the shapes that fails
abbrev pub IsMisshapen : List (Field × Bool) → JsonFault → Type 0
IsMisshapen tests told = Told Shape (λ field. first_failing tests ≡ Some field) told
