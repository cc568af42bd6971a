-- What an observation table and a discrimination tree have in common: the learner that a model is read off.
use Rattle.std.specs.Prelude.{◌≡◌, ℕ, List}
use Rattle.lw_words.specs.Word.{Answer}
use Rattle.lw_mealy.specs.Machine.{Rows}
use Rattle.lw_table.specs.Table as table
use Rattle.lw_tree.specs.Tree as tree
use Rattle.lw_rounds.specs.declared.learner.Kind.{Kind}
use Rattle.lw_rounds.specs.declared.learner.Kind.TheVariants as kind
use Rattle.lw_rounds.specs.declared.learner.Learner.{Learner}
use Rattle.lw_rounds.specs.declared.learner.Learner.TheVariants.{Table, Tree}

abbrev pub kind_of : Learner → Kind
kind_of (Table t) = kind.Table
kind_of (Tree t) = kind.Ttt

abbrev pub inputs_of : Learner → ℕ
inputs_of (Table t) = t.inputs
inputs_of (Tree t) = t.inputs

abbrev pub outputs_of : Learner → ℕ
outputs_of (Table t) = t.outputs
outputs_of (Tree t) = t.outputs

-- the greatest number of states
abbrev pub most_of : Learner → ℕ
most_of (Table t) = t.most
most_of (Tree t) = t.most

abbrev pub access_of : Learner → List (List ℕ)
access_of (Table t) = t.access
access_of (Tree t) = t.access

abbrev pub refinements_of : Learner → ℕ
refinements_of (Table t) = t.refinements
refinements_of (Tree t) = t.refinements

abbrev pub IsLearner : Learner → Type 0
IsLearner (Table t) = table.IsTable t
IsLearner (Tree t) = tree.IsTree t

-- all that it knows is what the answers say
abbrev pub IsRead : List Answer → Learner → Type 0
IsRead ks (Table t) = table.CellsAreRead ks t
IsRead ks (Tree t) = tree.BranchesAreRead ks t

abbrev pub IsClosedLearner : Learner → Type 0
IsClosedLearner (Table t) = table.IsClosedTable t
IsClosedLearner (Tree t) = tree.IsClosed t

-- a tree has no temporary node
abbrev pub HasNoTemporary : Learner → Type 0
HasNoTemporary (Table t) = Unit {0}
HasNoTemporary (Tree t) = tree.temporaries t.nodes ≡ 0

abbrev pub IsMachineOf : Learner → Rows → Type 0
IsMachineOf (Table t) m = table.IsMachineOf t m
IsMachineOf (Tree t) m = tree.IsMachineOf t m
