-- The way up from a state's leaf to the root of its class.
use Rattle.std.proofs.Common.{◌≡◌, ℕ, ◌<◌, Bool, true, false, length, ap, sym, ◌∙◌, subst}
use Rattle.lw_tree.specs.Blocks.{IsMember}
use Rattle.lw_tree.specs.Tree.{TreeState, node_at, leaf_at, is_temporary, IsLive, IsTree}
use Rattle.lw_tree.specs.bodies.Sprouts.{AreBranched}
use Rattle.lw_tree.specs.declared.nodes.Node.{Node}
use Rattle.lw_tree.proofs.ClassLemmas.{IsClimbing, climb_start, climb_on, climb_ends, climb_at_root}
use Rattle.lw_tree.proofs.NodeLemmas.{live_within}
use Rattle.lw_tree.proofs.WayLemmas.{joined, live_parent}

state_within : {own t : TreeState} (q : ℕ) → own ≡ t → q < length t.access → q < length own.access
state_within q view inside = subst (λ (u : TreeState). q < length u.access) (sym view) inside

pub leaf_climbs : {own t : TreeState} (q root : ℕ) → own ≡ t → IsTree own → q < length t.access → root ≡ leaf_at t.leaves q → IsClimbing (node_at own.nodes) root (leaf_at own.leaves q)
leaf_climbs {own = own} q root view g inside at =
    let leaf : ℕ = leaf_at own.leaves q in
    subst (λ (k : ℕ). IsClimbing (node_at own.nodes) k leaf) (sym (at ∙ ap (λ (u : TreeState). leaf_at u.leaves q) (sym view)))
    (climb_start own.inputs (node_at own.nodes) (joined own.inputs (node_at own.nodes) g.nodes) leaf q (g.leaves.leaves q (state_within q view inside)))

-- a step up, from a node that isn't the root
module _ {own : TreeState} (g : IsTree own) (root q : ℕ) (some : 0 < root) (climbing : IsClimbing (node_at own.nodes) root (leaf_at own.leaves q)) {from : Node} (at : from ≡ node_at own.nodes root) where
  ways : AreBranched own.inputs (node_at own.nodes)
  ways = joined own.inputs (node_at own.nodes) g.nodes

  up : from.parent ≡ (node_at own.nodes root).parent
  up = ap (λ (m : Node). m.parent) at

  pub parent_within : from.parent < length own.nodes
  parent_within = subst (λ (p : ℕ). p < length own.nodes) (sym up) (live_within own.nodes (node_at own.nodes root).parent (live_parent own.inputs (node_at own.nodes) ways root some climbing.live))

  pub parent_lower : from.parent < root
  parent_lower = subst (λ (p : ℕ). p < root) (sym up) (ways.branches root some climbing.live).lower

  module _ {t : TreeState} (view : own ≡ t) (inside : q < length t.access) {above : Node} {temporary : Bool} (above_at : above ≡ node_at own.nodes from.parent) (is : temporary ≡ is_temporary above.content) where
    test : (b : Bool) → temporary ≡ b → is_temporary (node_at own.nodes (node_at own.nodes root).parent).content ≡ b
    test b e = ap (λ (p : ℕ). is_temporary (node_at own.nodes p).content) (sym up) ∙ (ap (λ (m : Node). is_temporary m.content) (sym above_at) ∙ (sym is ∙ e))

    pub parent_climbs : temporary ≡ true → IsClimbing (node_at own.nodes) from.parent (leaf_at own.leaves q)
    parent_climbs e =
        let leaf : ℕ = leaf_at own.leaves q in
        let leaf_live : IsLive (node_at own.nodes leaf).content = subst IsLive (sym (g.leaves.leaves q (state_within q view inside))) tt in
        subst (λ (p : ℕ). IsClimbing (node_at own.nodes) p leaf) (sym up) (climb_on own.inputs (node_at own.nodes) ways root leaf some leaf_live climbing (test true e))

    pub member_below : temporary ≡ false → IsMember t root q
    member_below e = subst (λ (u : TreeState). IsMember u root q) view (state_within q view inside, climb_ends own.inputs (node_at own.nodes) ways root (leaf_at own.leaves q) some climbing (test false e))

pub member_of_all : {own t : TreeState} (root q : ℕ) → own ≡ t → IsTree own → q < length t.access → IsClimbing (node_at own.nodes) root (leaf_at own.leaves q) → root ≡ 0 → IsMember t root q
member_of_all {own = own} root q view g inside climbing zero =
    subst (λ (u : TreeState). IsMember u root q) view
    (state_within q view inside, climb_at_root own.inputs (node_at own.nodes) (joined own.inputs (node_at own.nodes) g.nodes) root (leaf_at own.leaves q) zero climbing)
