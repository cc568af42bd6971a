-- The names of a child system's outputs: they are declared, or get their numbers as they come.
use Rattle.std.specs.Prelude.{ℕ, ◌≤◌, List, length, vec_capacity}
use Rattle.lw_names.specs.Names.{AreNamed}
use Rattle.lw_line.specs.declared.outputs.OutputList.{OutputList}
use Rattle.lw_line.specs.declared.outputs.OutputList.TheVariants.{Declared, Free}

-- the names so far, how many they may become, and how many numbers there are
pub record OutputNaming : Type 0 where
  pub names : List (List ℕ)
  pub most : ℕ
  pub range : ℕ

abbrev pub naming_of : OutputList → OutputNaming
naming_of (Declared names) = record { names = names; most = length names; range = length names }
naming_of (Free names) = record { names = names.items; most = 256; range = 4096 }

-- there is room for all names
abbrev pub HasRoom : OutputList → Type 0
HasRoom (Declared names) = Unit {0}
HasRoom (Free names) = 256 ≤ vec_capacity names

abbrev pub IsOutputList : OutputList → Type 0
IsOutputList list = AreNamed (naming_of list).most (naming_of list).names × HasRoom list
