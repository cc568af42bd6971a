-- Rows that are made step by step: each of an earlier one, with a cell more.
use Rattle.std.specs.Prelude.{◌≢◌, ℕ, suc, ◌≤◌, Bool, ◌&&◌, nat_eq, List, [], ◌∷◌, ◌++◌}
use Rattle.std.specs.List.{AllPairs}
use Rattle.std.specs.Str.{bytes_eq}
use Rattle.lw_table.specs.bodies.Classes.{row_of}
use Rattle.lw_table.specs.declared.classes.Step.{Step}

-- steps are compared by what they are
abbrev pub step_eq : Step → Step → Bool
step_eq s t = nat_eq s.class t.class && bytes_eq s.outputs.items t.outputs.items

-- the row that a step makes
abbrev pub made : List (List (List ℕ)) → Step → List (List ℕ)
made rows step = row_of rows step.class ++ step.outputs.items ∷ []

-- rows, followed by those that the steps make
abbrev pub more_rows : List (List (List ℕ)) → List Step → List (List (List ℕ))
more_rows rows [] = rows
more_rows rows (step ∷ steps) = more_rows (rows ++ made rows step ∷ []) steps

-- the row without cells, and those that the steps make
abbrev pub rows_of : List Step → List (List (List ℕ))
rows_of steps = more_rows ([] ∷ []) steps

-- the first step takes a row of at most this number, the next one of at most one more, and so on
abbrev pub TakeEarlier : ℕ → List Step → Type 0
TakeEarlier most [] = Unit {0}
TakeEarlier most (step ∷ steps) = (step.class ≤ most) × TakeEarlier (suc most) steps

-- each step takes an earlier row, and no two rows are equal
pub record AreClasses (steps : List Step) : Type 0 where
  pub earlier : TakeEarlier 0 steps
  pub differ : AllPairs (λ r s. r ≢ s) (rows_of steps)
