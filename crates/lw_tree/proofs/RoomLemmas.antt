-- A tree whose vectors were given room, and hold what they held.
use Rattle.std.proofs.Common.{◌≡◌, ℕ, List, Result, Ok, Err, OnErr, ap, ◌∙◌}
use Rattle.lw_tree.specs.Tree.{TreeState}
use Rattle.lw_tree.specs.bodies.Nodes.{tree_of}
use Rattle.lw_tree.specs.declared.nodes.Node.{Node}
use Rattle.lw_tree.specs.declared.transitions.Place.{Place}
use Rattle.lw_tree.specs.declared.transitions.Edge.{Edge}

pub same_vectors : (t : TreeState) (access : List (List ℕ)) (nodes : List Node) (leaves : List ℕ) (places : List Place) (spanning : List Edge) → access ≡ t.access → nodes ≡ t.nodes → leaves ≡ t.leaves → places ≡ t.places → spanning ≡ t.spanning
    → tree_of t.inputs t.outputs t.most access nodes leaves places spanning t.refinements ≡ t
same_vectors t access nodes leaves places spanning a e f h i =
    ap (λ (l : List (List ℕ)). tree_of t.inputs t.outputs t.most l nodes leaves places spanning t.refinements) a
    ∙ (ap (λ (l : List Node). tree_of t.inputs t.outputs t.most t.access l leaves places spanning t.refinements) e
    ∙ (ap (λ (l : List ℕ). tree_of t.inputs t.outputs t.most t.access t.nodes l places spanning t.refinements) f
    ∙ (ap (λ (l : List Place). tree_of t.inputs t.outputs t.most t.access t.nodes t.leaves l spanning t.refinements) h
    ∙ ap (λ (l : List Edge). tree_of t.inputs t.outputs t.most t.access t.nodes t.leaves t.places l t.refinements) i)))

pub on_err : {X E : Type 0} (P : Type 0) (result : Result X E) → P → OnErr result P
on_err P (Ok x) holds = tt
on_err P (Err e) holds = holds
