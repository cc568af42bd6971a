-- What the calls give by which a node of a sprout becomes what it is to be, taken together.
use Rattle.std.proofs.Common.{◌≡◌, ℕ, ◌+◌, ◌<◌, Bool, List, length, get_or, set, ap, sym, ◌∙◌, subst, subst₂}
use Rattle.lw_words.specs.Word.{Answer, AreAnswers}
use Rattle.lw_tree.specs.Tree.{TreeState, node_at, leaf_at, IsTree, BranchesAreRead}
use Rattle.lw_tree.specs.bodies.Sprouts.{IsLowest, IsSproutOf, IsOpenOf, CanPart}
use Rattle.lw_tree.specs.bodies.Steps.{inner_node}
use Rattle.lw_tree.specs.declared.nodes.Node.{Node}
use Rattle.lw_tree.specs.declared.nodes.Content.TheVariants.{State, Discriminator}
use Rattle.lw_tree.proofs.FieldLemmas.{node_read}
use Rattle.lw_tree.proofs.SproutLemmas.{has_state, state_inside, state_there, grown_leaf, grown_can, grown_open}

-- a sprout's node, and the sprout as it stands behind other nodes
pub record IsGrowing (ks : List Answer) (t : TreeState) (base items : List Node) (leaves : List ℕ) (place : ℕ) (seen : Node) : Type 0 where
  pub tree : IsTree t
  pub answers : AreAnswers t.inputs ks
  pub read : BranchesAreRead ks t
  pub long : length base ≡ length t.nodes
  pub inside : place < length items
  pub sprout : IsSproutOf ks t base items leaves (length t.nodes + place)
  pub seen_is : seen ≡ node_at items place

pub growing : {own t : TreeState} {ks : List Answer} (base items : List Node) (leaves : List ℕ) (place : ℕ) {seen : Node} → own ≡ t → IsTree own → AreAnswers t.inputs ks → BranchesAreRead ks t → length base ≡ length t.nodes → place < length items → IsSproutOf ks t base items leaves (length t.nodes + place) → seen ≡ get_or items place seen
    → IsGrowing ks t base items leaves place seen
growing base items leaves place {seen = seen} view g answers read long inside sprout at =
    record {
      tree = subst (λ (v : TreeState). IsTree v) view g;
      answers = answers;
      read = read;
      long = long;
      inside = inside;
      sprout = sprout;
      seen_is = node_read items place seen inside at;
    }

-- the lowest node above the leaves of the states that stand there
pub record IsFound (t : TreeState) (leaves : List ℕ) (place n : ℕ) (seen : Node) : Type 0 where
  pub low : IsLowest (node_at t.nodes) (leaf_at t.leaves) (leaf_at leaves) (length t.access) (length t.nodes + place) n
  pub seen_is : seen ≡ node_at t.nodes n

-- the number that a place has behind the tree's nodes
pub behind : {own t : TreeState} (count place : ℕ) → own ≡ t → count ≡ length own.nodes → count + place ≡ length t.nodes + place
behind count place view is = ap (λ (n : ℕ). n + place) (is ∙ ap (λ (v : TreeState). length v.nodes) view)

pub found : {own t : TreeState} {stand leaves : List ℕ} (place number n : ℕ) {seen : Node} → own ≡ t → stand ≡ leaves → number ≡ length t.nodes + place → IsLowest (node_at t.nodes) (leaf_at t.leaves) (leaf_at stand) (length t.access) number n → seen ≡ node_at own.nodes n → IsFound t leaves place n seen
found {t = t} place number n view same number_is low at =
    record {
      low = subst₂ (λ (l : List ℕ) (k : ℕ). IsLowest (node_at t.nodes) (leaf_at t.leaves) (leaf_at l) (length t.access) k n) same number_is low;
      seen_is = at ∙ ap (λ (v : TreeState). node_at v.nodes n) view;
    }

module _ {ks : List Answer} {t : TreeState} {base items : List Node} {leaves : List ℕ} {place : ℕ} {seen : Node} (w : IsGrowing ks t base items leaves place seen) where
  pub growing_state : ((q : ℕ) → seen.content ≡ State q → ⊥) → ⊥
  growing_state other = has_state ks t w.tree w.answers w.read base items leaves place w.long w.inside w.sprout (λ q is. other q (ap (λ (m : Node). m.content) w.seen_is ∙ is))

  module _ (q : ℕ) (is : seen.content ≡ State q) where
    state_is : (node_at items place).content ≡ State q
    state_is = ap (λ (m : Node). m.content) (sym w.seen_is) ∙ is

    pub growing_inside : q < length t.access
    growing_inside = state_inside ks t w.tree w.answers w.read base items leaves place w.long w.inside w.sprout q state_is

    pub growing_there : {stand : List ℕ} {number : ℕ} → stand ≡ leaves → number ≡ length t.nodes + place → leaf_at stand q ≡ number
    growing_there same number_is = ap (λ (l : List ℕ). leaf_at l q) same ∙ (state_there ks t w.tree w.answers w.read base items leaves place w.long w.inside w.sprout q state_is ∙ sym number_is)

    module _ {n : ℕ} {lowest : Node} (f : IsFound t leaves place n lowest) where
      pub growing_leaf : ((word : List ℕ) (temporary : Bool) → lowest.content ≡ Discriminator word temporary → ⊥) → IsSproutOf ks t base items leaves (length t.nodes + place + 1)
      growing_leaf other =
          grown_leaf ks t w.tree w.answers w.read base items leaves place w.long w.inside w.sprout q state_is n f.low
          (λ word temporary there. other word temporary (ap (λ (m : Node). m.content) f.seen_is ∙ there))

      module _ {word : List ℕ} {temporary : Bool} (there : lowest.content ≡ Discriminator word temporary) where
        content : (node_at t.nodes n).content ≡ Discriminator word temporary
        content = ap (λ (m : Node). m.content) (sym f.seen_is) ∙ there

        pub growing_can : {number : ℕ} → number ≡ length t.nodes + place → CanPart ks t.access leaves number word
        growing_can number_is =
            subst (λ (k : ℕ). CanPart ks t.access leaves k word) (sym number_is)
            (grown_can ks t w.tree w.answers w.read base items leaves place w.long w.inside w.sprout q state_is n f.low word temporary content)

        pub growing_open : {number : ℕ} {nodes : List Node} {copied : List ℕ} → number ≡ length t.nodes + place → nodes ≡ set items place (inner_node (node_at items place) copied) → copied ≡ word
            → IsOpenOf ks t base nodes leaves (length t.nodes + place + 1) number word
        growing_open number_is nodes_are copied_is =
            subst₂ (λ (l : List Node) (k : ℕ). IsOpenOf ks t base l leaves (length t.nodes + place + 1) k word)
            (sym (nodes_are ∙ ap (λ (x : List ℕ). set items place (inner_node (node_at items place) x)) copied_is)) (sym number_is)
            (grown_open ks t w.tree w.answers w.read base items leaves place w.long w.inside w.sprout q state_is n f.low word temporary content)
