-- The tree before anything was asked is one.
use Rattle.std.proofs.Common.{◌≡◌, ℕ, zero, suc, ◌*◌, ◌<◌, ◌≤◌, List, [], ◌∷◌, refl, ap, sym, ◌∙◌, subst, arith}
use Rattle.std.proofs.lemmas.List.{length-replicate}
use Rattle.std.proofs.lemmas.List.Elements.{All-nil, All-cons}
use Rattle.lw_words.specs.Word.{IsWord}
use Rattle.lw_tree.specs.Tree.{TreeState, no_place, node_at, leaf_at, IsLive, IsInner, IsPlace, AreNodes, AreLeaves, IsTree, new_tree}
use Rattle.lw_tree.specs.bodies.Nodes.{tree_of}
use Rattle.lw_tree.specs.bodies.Steps.{leaf_below}
use Rattle.lw_tree.specs.declared.nodes.Node.{Node}
use Rattle.lw_tree.specs.declared.nodes.Content.TheVariants.{State}
use Rattle.lw_tree.specs.declared.transitions.Place.{Place}
use Rattle.lw_tree.specs.declared.transitions.Edge.{Edge}
use Rattle.lw_tree.proofs.NodeLemmas.{final_is_inner}
use Rattle.lw_tree.proofs.PlaceLemmas.{unasked_at}
use Rattle.lw_tree.proofs.ShapeLemmas.{state_of}

abbrev root : List Node
root = leaf_below 0 [] 0 ∷ []

live_first : (n : ℕ) → IsLive (node_at root n).content → n ≡ 0
live_first zero live = refl
live_first (suc n) live = elim live [ ]

no_inner : (n : ℕ) → IsInner (node_at root n).content → ⊥
no_inner zero is = elim is [ ]
no_inner (suc n) is = elim is [ ]

root_nodes : (a : ℕ) → AreNodes a (node_at root)
root_nodes a =
    record {
      root = tt;
      branches = λ n some live. let at = live_first n live in absurd (omega (arith, at, some));
      apart = λ m n some lt live. let at = live_first m live in absurd (omega (arith, at, some));
      words = λ n is. absurd (no_inner n is);
      tails = λ n is. absurd (no_inner n (final_is_inner (node_at root n).content is));
      two = λ n is. absurd (no_inner n is);
    }

root_leaves : AreLeaves 1 (node_at root) (leaf_at (0 ∷ []))
root_leaves =
    record {
      leaves = λ q lt. let at : 0 ≡ q = omega (arith, lt) in subst (λ (p : ℕ). (node_at root (leaf_at (0 ∷ []) p)).content ≡ State p) at refl;
      states = λ n q is.
          let first : n ≡ 0 = live_first n (subst IsLive (sym is) tt) in
          let at : 0 ≡ q = ap state_of (ap (λ (k : ℕ). (node_at root k).content) (sym first) ∙ is) in
          (omega (arith, at), subst (λ (p : ℕ). leaf_at (0 ∷ []) p ≡ n) at (sym first));
    }

pub new_is_tree : (a b most : ℕ) → (1 ≤ a) × (a ≤ 64) → (1 ≤ b) × (b ≤ 4096) → (1 ≤ most) × (most ≤ 1024) → IsTree (new_tree a b most)
new_is_tree a b most inputs outputs limit =
    record {
      inputs = inputs;
      outputs = outputs;
      most = limit;
      some = omega arith;
      few = limit.0;
      words = All-cons (IsWord a) [] [] (All-nil (λ x. x < a)) (All-nil (IsWord a));
      first = refl;
      few_nodes = omega arith;
      nodes = root_nodes a;
      each_leaf = refl;
      leaves = root_leaves;
      each_edge = refl;
      edges = λ q some lt. absurd (omega (arith, some, lt));
      each_place = let whole : a ≡ 1 * a = omega arith in length-replicate {A = Place} a no_place ∙ whole;
      places = λ k lt. subst (λ (p : Place). IsPlace b (node_at root) p) (sym (unasked_at a k)) (record { live = tt; below = λ y e. cc });
      refined = omega arith;
    }

-- the vectors of a new tree
pub new_vectors : (a b most : ℕ) (access : List (List ℕ)) (nodes : List Node) (leaves : List ℕ) (places : List Place) (spanning : List Edge) → (1 ≤ a) × (a ≤ 64) → (1 ≤ b) × (b ≤ 4096) → (1 ≤ most) × (most ≤ 1024)
    → tree_of a b most access nodes leaves places spanning 0 ≡ new_tree a b most → IsTree (tree_of a b most access nodes leaves places spanning 0)
new_vectors a b most access nodes leaves places spanning inputs outputs limit same = subst (λ (t : TreeState). IsTree t) (sym same) (new_is_tree a b most inputs outputs limit)
