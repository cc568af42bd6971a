-- The fields of a pool, and what contracts see of them.
use Rattle.std.specs.Prelude.{◌≡◌, ◌≤◌, List, [], length, vec_capacity, Vec, Option, Some, None}
use Rattle.std.specs.declared.alloc.Global.{Global}
use Rattle.lw_words.specs.declared.kept.KeptAnswer.{KeptAnswer}
use Rattle.lw_names.specs.Naming.{Naming}
use Rattle.lw_pool.specs.declared.parts.Parts.{Parts}

abbrev pub kept_in : Option Parts → List KeptAnswer
kept_in None = []
kept_in (Some parts) = parts.cache.kept

abbrev pub naming_in : Option Parts → Naming
naming_in None = record { names = []; brought = None }
naming_in (Some parts) = parts.names

-- between calls they are there, and nothing is claimed
abbrev pub AreThere : Option Parts → Type 0
AreThere None = ⊥
AreThere (Some parts) = parts.cache.claims ≡ []

-- an empty list with room for the sessions of these hands
abbrev pub HasRoom : {A B : Type 0} → Vec A Global → Vec B Global → Type 0
HasRoom room hands = (room.items ≡ []) × (length hands.items ≤ vec_capacity room)
