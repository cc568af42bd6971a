-- The values of the arguments of `ask`, as contracts see them.
use Rattle.std.specs.Prelude.{ℕ, List}
use Rattle.lw_system.specs.declared.goal.Goal.{Goal}
use Rattle.lw_system.specs.declared.source.Source.{Source}

-- whether a machine is asked or an acceptor, the kind and the name of the system's file, and the texts of the words
pub record AskValues : Type 0 where
  pub goal : Goal
  pub source : Source
  pub system : List ℕ
  pub words : List (List ℕ)
