-- The two parts of the pair that a state has at a letter.
use Rattle.std.specs.Prelude.{ℕ, ◌<◌}
use Rattle.lw_mealy.specs.declared.mealy.Half.{Half}
use Rattle.lw_mealy.specs.declared.mealy.Half.TheVariants.{Target, Output}

abbrev pub half_of : Half → ℕ × ℕ → ℕ
half_of Target c = c.0
half_of Output c = c.1

abbrev pub IsBelow : Half → ℕ → ℕ × ℕ → Type 0
IsBelow half bound c = half_of half c < bound
