-- What the readers of all kinds of file find: a value, or none for lack of memory or of JSON; and texts.
use Rattle.std.specs.Prelude.{◌≡◌, ◌⊎◌, ℕ, List, Option, Vec, String, map, option_map, string_bytes}
use Rattle.std.specs.declared.alloc.Global.{Global}
use Rattle.serde_json.specs.Data.{Data}
use Rattle.lw_json.specs.Formats.{IsJson}
use Rattle.lw_json.specs.declared.fault.JsonFault.{JsonFault}
use Rattle.lw_json.specs.declared.fault.JsonFault.TheVariants.{NotJson, NoMemory}

-- out of memory, or the bytes are no JSON
abbrev pub IsUnreadJson : List ℕ → JsonFault → Type 0
IsUnreadJson bytes told = (told ≡ NoMemory) ⊎ ((told ≡ NotJson) × ((d : Data) → ¬ IsJson bytes d))

-- the texts that are sought, or that there are none
abbrev pub FindsTexts : Option (List (List ℕ)) → Option (Vec (String Global) Global) → Type 0
FindsTexts sought found = option_map (λ v. map (λ s. string_bytes s) v.items) found ≡ sought
