-- What a node of a sprout becomes.
use Rattle.std.proofs.Common.{◌≡◌, ◌≢◌, ℕ, ◌+◌, ◌<◌, Bool, List, [], ◌++◌, length, set, refl, ap, sym, ◌∙◌, subst, arith}
use Rattle.std.proofs.lemmas.List.{length-append, get_or-append-add, set-append_right}
use Rattle.lw_words.specs.Word.{Answer, AreAnswers, IsWord}
use Rattle.lw_tree.specs.Tree.{TreeState, no_node, node_at, leaf_at, discriminator, IsLive, IsInner, IsTree, BranchesAreRead}
use Rattle.lw_tree.specs.bodies.Sprouts.{IsLowest, IsSprout, IsOpen, CanPart}
use Rattle.lw_tree.specs.bodies.Steps.{inner_node}
use Rattle.lw_tree.specs.declared.nodes.Node.{Node}
use Rattle.lw_tree.specs.declared.nodes.Content.{Content}
use Rattle.lw_tree.specs.declared.nodes.Content.TheVariants.{State, Discriminator, Gone}
use Rattle.lw_tree.proofs.LowestLemmas.{lowest_leaf, lowest_parts}
use Rattle.lw_tree.proofs.PartingLemmas.{sprout_leaf, sprout_opens}

live_kind : (c : Content) → IsLive c → ((x : ℕ) → c ≡ State x → ⊥) → ¬ IsInner c → ⊥
live_kind (State q) live other inner = other q refl
live_kind (Discriminator word temporary) live other inner = inner tt
live_kind Gone live other inner = elim live [ ]

module _ (ks : List Answer) (t : TreeState) (g : IsTree t) (are : AreAnswers t.inputs ks) (read : BranchesAreRead ks t) (base items : List Node) (leaves : List ℕ) (place : ℕ) (long : length base ≡ length t.nodes) (inside : place < length items)
    (s : IsSprout ks t.inputs t.access (length t.nodes) (base ++ items) leaves (length t.nodes + place)) where
  abbrev number : ℕ
  number = length t.nodes + place

  pub at_place : node_at (base ++ items) (length t.nodes + place) ≡ node_at items place
  at_place = ap (λ (k : ℕ). node_at (base ++ items) (k + place)) (sym long) ∙ get_or-append-add base items place no_node

  pub has_state : ((x : ℕ) → (node_at items place).content ≡ State x → ⊥) → ⊥
  has_state other =
      let all = length-append base items in
      live_kind (node_at (base ++ items) number).content (s.all number (omega arith) (omega (arith, all, long, inside))) (λ x is. other x (ap (λ (m : Node). m.content) (sym at_place) ∙ is)) (s.unmade number (omega arith))

  module _ (q : ℕ) (is : (node_at items place).content ≡ State q) where
    leaf : (node_at (base ++ items) number).content ≡ State q
    leaf = ap (λ (m : Node). m.content) at_place ∙ is

    pub state_inside : q < length t.access
    state_inside = (s.standing.states number q leaf).0

    pub state_there : leaf_at leaves q ≡ length t.nodes + place
    state_there = (s.standing.states number q leaf).1

    module _ (n : ℕ) (low : IsLowest (node_at t.nodes) (leaf_at t.leaves) (leaf_at leaves) (length t.access) (length t.nodes + place) n) where
      grown_state : (c : Content) → IsLive c → ((w : List ℕ) (temporary : Bool) → c ≡ Discriminator w temporary → ⊥) → (p : ℕ) × (c ≡ State p)
      grown_state (State p) live other = (p, refl)
      grown_state (Discriminator w temporary) live other = absurd (other w temporary refl)
      grown_state Gone live other = elim live [ ]

      pub grown_leaf : ((w : List ℕ) (temporary : Bool) → (node_at t.nodes n).content ≡ Discriminator w temporary → ⊥) → IsSprout ks t.inputs t.access (length t.nodes) (base ++ items) leaves (length t.nodes + place + 1)
      grown_leaf other =
          let leaf_is = grown_state (node_at t.nodes n).content low.live other in
          sprout_leaf ks t.inputs t.access (length t.nodes) (base ++ items) leaves number s
          (λ p lt there. leaf ∙ ap State (sym (lowest_leaf ks t g are read leaves s.each number n q state_inside state_there low leaf_is.0 leaf_is.1 p lt there)))

      module _ (word : List ℕ) (temporary : Bool) (content : (node_at t.nodes n).content ≡ Discriminator word temporary) where
        pub grown_can : CanPart ks t.access leaves (length t.nodes + place) word
        grown_can = lowest_parts ks t g are read leaves s.each number n q state_inside state_there low word temporary content

        pub grown_open : IsOpen ks t.inputs t.access (length t.nodes) (base ++ set items place (inner_node (node_at items place) word)) leaves (length t.nodes + place + 1) (length t.nodes + place) word
        grown_open =
            let words = g.nodes.words n (subst IsInner (sym content) tt) in
            let opened = sprout_opens ks t.inputs t.access (length t.nodes) (base ++ items) leaves number q word s leaf (subst (λ (c : Content). IsWord t.inputs (discriminator c)) content words.0) (subst (λ (c : Content). discriminator c ≢ []) content words.1) in
            let list : set (base ++ items) number (inner_node (node_at (base ++ items) number) word) ≡ base ++ set items place (inner_node (node_at items place) word) =
            ap (λ (m : Node). set (base ++ items) number (inner_node m word)) at_place
            ∙ (set-append_right base items (length t.nodes) number (inner_node (node_at items place) word) long (omega arith)
            ∙ ap (λ (k : ℕ). base ++ set items k (inner_node (node_at items place) word)) (omega arith)) in
            subst (λ (l : List Node). IsOpen ks t.inputs t.access (length t.nodes) l leaves (number + 1) number word) list opened
