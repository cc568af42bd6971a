-- Which systems may share one list of names.
use Rattle.std.specs.Prelude.{◌≡◌, ℕ, ◌≤◌, List, length, Option, Some, None}
use Rattle.lw_mealy.specs.Machine.{Rows}
use Rattle.lw_names.specs.Naming.{Naming}

-- a system of declared names has just these, by their numbers, and as many outputs; one of free names has at most 256, which
-- come as they are met, and tells no machine
abbrev pub FitsBy : Option (List (List (List ℕ))) → (shared names : List (List ℕ)) (most outputs : ℕ) → Option Rows → Type 0
FitsBy None shared names most outputs machine = (names ≡ shared) × (most ≡ length shared) × (outputs ≡ length shared)
FitsBy (Some brought) shared names most outputs machine = (outputs ≡ 4096) × (most ≤ 256) × (machine ≡ None)

abbrev pub Fits : Naming → (names : List (List ℕ)) (most outputs : ℕ) → Option Rows → Type 0
Fits naming names most outputs machine = FitsBy naming.brought naming.names names most outputs machine
