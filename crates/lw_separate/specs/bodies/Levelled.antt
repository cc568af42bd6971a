-- What the levels of a machine are.
use Rattle.std.specs.Prelude.{map}
use Rattle.lw_mealy.specs.Machine.{MealyMachine}
use Rattle.lw_separate.specs.declared.levels.Levels.{Levels}
use Rattle.lw_separate.specs.bodies.Levels.{AreLevels}

abbrev pub LevelsOf : MealyMachine → Levels → Type 0
LevelsOf m s = AreLevels m.inputs m.rows (map (λ r. r.items) s.below.items) s.names.items
