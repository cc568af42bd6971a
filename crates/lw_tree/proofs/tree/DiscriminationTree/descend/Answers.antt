use Rattle.std.proofs.Common.{rules, ◌≡◌, ◌≢◌, ◌+◌, ◌*◌, ◌<◌, ℕ, List, [], ◌∷◌, ◌++◌, length, inr, sym, ◌∙◌, ap, subst}
use Rattle.lw_tree.specs.Grown.{MovesOn}
use Rattle.lw_tree.specs.Tree.{TreeState, node_at, IsTree}
use Rattle.lw_tree.specs.bodies.Nodes.{IsChild}
use Rattle.lw_tree.specs.bodies.Steps.{IsNextState, HasStepped, with_state}
use Rattle.lw_tree.specs.bodies.Transitions.{place_by}
use Rattle.lw_tree.specs.declared.transitions.Edge.{Edge}
use Rattle.lw_tree.specs.declared.transitions.Place.{Place}
use Rattle.lw_tree.proofs.BranchLemmas.{next_crowd}
use Rattle.lw_tree.proofs.GrownLemmas.{not_stepped, placed_moves, state_stepped, state_moves, crowd_of}
use Rattle.lw_tree.proofs.PlaceLemmas.{inner_open}
use Rattle.lw_tree.proofs.ShapeLemmas.{shape_of}
use Rattle.lw_tree.proofs.StepLemmas.{child_stepped, own_crowd}
use Rattle.lw_tree.proofs.tree.DiscriminationTree.descend.Goals as goal

module _ (t u : TreeState) (edge : Edge) (p : Place) (branch : List ℕ) (view : t ≡ u) (place : p ≡ place_by u edge) where
  child_at : (n : ℕ) → IsChild (node_at t.nodes) p.node n × ((node_at t.nodes n).branch ≡ branch) → IsChild (node_at u.nodes) (place_by u edge).node n × ((node_at u.nodes n).branch ≡ branch)
  child_at n here = subst (λ (v : TreeState). IsChild (node_at v.nodes) (place_by u edge).node n × ((node_at v.nodes n).branch ≡ branch)) view (subst (λ (q : Place). IsChild (node_at t.nodes) q.node n × ((node_at t.nodes n).branch ≡ branch)) place here)

  no_child_at : ((n : ℕ) → IsChild (node_at t.nodes) p.node n → (node_at t.nodes n).branch ≢ branch) → (n : ℕ) → IsChild (node_at u.nodes) (place_by u edge).node n → (node_at u.nodes n).branch ≢ branch
  no_child_at here = subst (λ (v : TreeState). (n : ℕ) → IsChild (node_at v.nodes) (place_by u edge).node n → (node_at v.nodes n).branch ≢ branch) view (subst (λ (q : Place). (n : ℕ) → IsChild (node_at t.nodes) q.node n → (node_at t.nodes n).branch ≢ branch) place here)

pub child-requires : goal.child-requires
child-requires c =
    subst (λ (v : TreeState). c.place_of-node.result.node < length v.nodes) (sym c.self.view_is) c.place_of-node.ensures.within

pub place-requires : goal.place-requires
place-requires c =
    let u : TreeState = c.args.self.now in
    let edge = c.args.edge in
    let g : IsTree u = subst (λ (v : TreeState). IsTree v) c.self.view_is c.self.invariant.tree in
    let n : ℕ = c.in-Some.child in
    let here : IsChild (node_at c.self.inside.nodes.items) c.place_of-node.result.node n × ((node_at c.self.inside.nodes.items n).branch ≡ c.args.branch) = search (rules, c.in-Some.ensures) in
    let is = child_at _ u edge c.place_of-node.result c.args.branch c.self.view_is c.place_of-node.ensures.value n here in
    record {
      edge = c.requires.edge;
      «open» = inner_open (node_at u.nodes) (place_by u edge) c.requires.inner;
      output = c.requires.output;
      node = is.0.1;
    }

pub returns-in-Some : goal.returns-in-Some
returns-in-Some c =
    let u : TreeState = c.args.self.now in
    let edge = c.args.edge in
    let g : IsTree u = subst (λ (v : TreeState). IsTree v) c.self.view_is c.self.invariant.tree in
    let n : ℕ = c.in-Some.child in
    let here : IsChild (node_at c.self.inside.nodes.items) c.place_of-node.result.node n × ((node_at c.self.inside.nodes.items n).branch ≡ c.args.branch) = search (rules, c.in-Some.ensures) in
    let is = child_at _ u edge c.place_of-node.result c.args.branch c.self.view_is c.place_of-node.ensures.value n here in
    let tree = subst (λ (v : TreeState). IsTree v) c.place.ensures.value c.place.ensures.tree in
    let lower : (place_by u edge).node < n = subst (λ (p : ℕ). p < n) is.0.2 (g.nodes.branches n is.0.0 is.0.1).lower in
    record {
      stepped = λ ks read. subst (HasStepped ks u edge) (sym c.place.ensures.value) (child_stepped ks u edge c.args.output c.args.branch n g c.requires.edge c.requires.inner c.requires.output is tree read);
      moved = subst (λ (v : TreeState). MovesOn u v (edge.state * u.inputs + edge.letter)) (sym c.place.ensures.value)
          (placed_moves [] u edge c.args.output n g c.requires.edge (inner_open (node_at u.nodes) (place_by u edge) c.requires.inner) c.requires.output is.0.1 (inr lower));
      crowd = λ ks read words told. cc;
      own = tt;
    }

pub returns-then-len-from : goal.returns-then-len-from
returns-then-len-from c =
    let u : TreeState = c.args.self.now in
    let edge = c.args.edge in
    let g : IsTree u = subst (λ (v : TreeState). IsTree v) c.self.view_is c.self.invariant.tree in
    let outputs : c.as_slice.result.now ≡ c.args.branch = search rules in
    let here : (n : ℕ) → IsChild (node_at c.self.inside.nodes.items) c.place_of-node.result.node n → (node_at c.self.inside.nodes.items n).branch ≢ c.args.branch = subst (λ (b : List ℕ). (n : ℕ) → IsChild (node_at c.self.inside.nodes.items) c.place_of-node.result.node n → (node_at c.self.inside.nodes.items n).branch ≢ b) outputs c.in_default.ensures in
    let next : IsNextState u edge c.args.output c.args.branch = record { from = c.requires.edge; inner = c.requires.inner; below = c.requires.output; size = c.requires.size; new = no_child_at _ u edge c.place_of-node.result c.args.branch c.self.view_is c.place_of-node.ensures.value here } in
    let many : length u.access ≡ u.most = subst (λ (v : TreeState). length v.access ≡ v.most) c.self.view_is (search rules) in
    record {
      stepped = λ ks read. not_stepped ks u edge g read.branches;
      moved = tt;
      crowd = λ ks read. own_crowd ks u c.crowd.result (λ words is. crowd_of ks u edge words c.requires.edge many (next_crowd ks u edge c.args.output c.args.branch (shape_of u g) next read) (c.crowd.ensures.words words is ∙ ap (λ (w : List ℕ). u.access ++ w ∷ []) c.requires.word));
      own = c.crowd.ensures.own;
    }

pub push_state-requires-clause-next : goal.push_state-requires-clause-next
push_state-requires-clause-next c =
    let u : TreeState = c.args.self.now in
    let edge = c.args.edge in
    let outputs : c.as_slice.result.now ≡ c.args.branch = search rules in
    let here : (n : ℕ) → IsChild (node_at c.self.inside.nodes.items) c.place_of-node.result.node n → (node_at c.self.inside.nodes.items n).branch ≢ c.args.branch = subst (λ (b : List ℕ). (n : ℕ) → IsChild (node_at c.self.inside.nodes.items) c.place_of-node.result.node n → (node_at c.self.inside.nodes.items n).branch ≢ b) outputs c.in_default.ensures in
    let next : IsNextState u edge c.args.output c.args.branch = record { from = c.requires.edge; inner = c.requires.inner; below = c.requires.output; size = c.requires.size; new = no_child_at _ u edge c.place_of-node.result c.args.branch c.self.view_is c.place_of-node.ensures.value here } in
    next

pub returns-in_err-push_state-clause-stepped : goal.returns-in_err-push_state-clause-stepped
returns-in_err-push_state-clause-stepped c ks read =
    subst (HasStepped ks c.args.self.now c.args.edge) (sym c.in_err-push_state.ensures.err) (not_stepped ks c.args.self.now c.args.edge (subst (λ (v : TreeState). IsTree v) c.self.view_is c.self.invariant.tree) read.branches)

pub returns : goal.returns
returns c =
    let u : TreeState = c.args.self.now in
    let edge = c.args.edge in
    let g : IsTree u = subst (λ (v : TreeState). IsTree v) c.self.view_is c.self.invariant.tree in
    let outputs : c.as_slice.result.now ≡ c.args.branch = search rules in
    let here : (n : ℕ) → IsChild (node_at c.self.inside.nodes.items) c.place_of-node.result.node n → (node_at c.self.inside.nodes.items n).branch ≢ c.args.branch = subst (λ (b : List ℕ). (n : ℕ) → IsChild (node_at c.self.inside.nodes.items) c.place_of-node.result.node n → (node_at c.self.inside.nodes.items n).branch ≢ b) outputs c.in_default.ensures in
    let next : IsNextState u edge c.args.output c.args.branch = record { from = c.requires.edge; inner = c.requires.inner; below = c.requires.output; size = c.requires.size; new = no_child_at _ u edge c.place_of-node.result c.args.branch c.self.view_is c.place_of-node.ensures.value here } in
    let value : c.push_state.new.self ≡ with_state u edge c.args.output c.args.branch = c.in_ok-push_state.ensures.ok in
    let tree = subst (λ (v : TreeState). IsTree v) value c.in_ok-push_state.ensures.tree in
    record {
      stepped = λ ks read. subst (HasStepped ks u edge) (sym value) (state_stepped ks u edge c.args.output c.args.branch g next tree read);
      moved = subst (λ (v : TreeState). MovesOn u v (edge.state * u.inputs + edge.letter)) (sym value) (state_moves [] u edge c.args.output c.args.branch g next);
      crowd = λ ks read words told. cc;
      own = tt;
    }
