-- What a search has found of a machine.
use Rattle.std.specs.Prelude.{ℕ}
use Rattle.lw_mealy.specs.Machine.{MealyMachine}
use Rattle.lw_separate.specs.declared.access.Search.{Search}
use Rattle.lw_separate.specs.bodies.Search.{IsSearch}

-- its fields keep what the search keeps up to the letter x of the i-th word
abbrev pub Searched : MealyMachine → Search → ℕ → ℕ → Type 0
Searched m s i x = IsSearch m.inputs m.rows s.words.items s.states.items s.places.items i x
