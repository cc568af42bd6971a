-- What the parts of the reader of acceptor files find, and what they answer in place of it.
use Rattle.std.specs.Prelude.{◌≡◌, ◌⊎◌, ℕ, List, Bool, Option, Some, Vec, map, option_map, string_bytes}
use Rattle.std.specs.declared.alloc.Global.{Global}
use Rattle.serde_json.specs.Data.{Data}
use Rattle.lw_json.specs.Fault.{first_failing}
use Rattle.lw_json.specs.Formats.{IsJson}
use Rattle.lw_accept.specs.Acceptor.{NamedAcceptor}
use Rattle.lw_accept.specs.AcceptorFile.{WrittenAcceptor}
use Rattle.lw_accept.specs.declared.fault.AcceptorField.{AcceptorField}
use Rattle.lw_accept.specs.declared.fault.AcceptorFault.{AcceptorFault}
use Rattle.lw_accept.specs.declared.fault.AcceptorFault.TheVariants.{NotJson, Shape, NoMemory}
use Rattle.lw_accept.specs.declared.reader.Said.{Said}

abbrev pub said_acceptor : Said → WrittenAcceptor
said_acceptor s = record { accepting = s.accepting.items; inputs = map (λ t. string_bytes t) s.inputs.items; targets = map (λ r. r.items) s.targets.items }

-- what is said, as an acceptor
abbrev pub acceptor_said : Said → NamedAcceptor
acceptor_said s = record { inputs = map (λ t. string_bytes t) s.inputs.items; automaton = record { accepting = s.accepting.items; targets = map (λ r. r.items) s.targets.items } }

-- the truth values, the row or the rows that are sought, or that there are none
abbrev pub FindsBits : Option (List Bool) → Option (Vec Bool Global) → Type 0
FindsBits sought found = option_map (λ v. v.items) found ≡ sought

abbrev pub FindsRow : Option (List ℕ) → Option (Vec ℕ Global) → Type 0
FindsRow sought found = option_map (λ v. v.items) found ≡ sought

abbrev pub FindsRows : Option (List (List ℕ)) → Option (Vec (Vec ℕ Global) Global) → Type 0
FindsRows sought found = option_map (λ v. map (λ r. r.items) v.items) found ≡ sought

-- out of memory, or the bytes are no JSON
abbrev pub IsUnreadable : List ℕ → AcceptorFault → Type 0
IsUnreadable bytes told = (told ≡ NoMemory) ⊎ ((told ≡ NotJson) × ((d : Data) → ¬ IsJson bytes d))

-- out of memory, or the first of the tests of the shapes that fails
abbrev pub IsMisshapen : List (AcceptorField × Bool) → AcceptorFault → Type 0
IsMisshapen tests told = (told ≡ NoMemory) ⊎ ((field : AcceptorField) × (told ≡ Shape field) × (first_failing tests ≡ Some field))
