-- What the calls of a replacement give, taken together.
use Rattle.std.proofs.Common.{◌≡◌, ℕ, ◌+◌, ◌^◌, ◌<◌, Bool, Ok, List, ◌++◌, length, map, refl, ap, ap₂, sym, ◌∙◌, subst, arith}
use Rattle.std.proofs.lemmas.List.{length-map, get_or_append_left}
use Rattle.lw_words.specs.Word.{Answer, AreAnswers}
use Rattle.lw_words.specs.declared.memory.NoMemory.{NoMemory}
use Rattle.lw_tree.specs.Blocks.{MayReplace, HasReplaced}
use Rattle.lw_tree.specs.Tree.{TreeState, node_at, no_node, IsTree, BranchesAreRead}
use Rattle.lw_tree.specs.bodies.Nodes.{AreLower}
use Rattle.lw_tree.specs.bodies.Sprouts.{AreMarks, lifted_place, IsSproutOf, IsCleared, replaced_root, edge_number, AreEdgePlaces}
use Rattle.lw_tree.specs.declared.nodes.Node.{Node}
use Rattle.lw_tree.specs.declared.transitions.Edge.{Edge}
use Rattle.lw_tree.specs.declared.transitions.Place.{Place}
use Rattle.lw_tree.proofs.ClearedLemmas.{replaced_long, replaced_clears, block_inside}
use Rattle.lw_tree.proofs.PlantLemmas.{planted, edge_within, same_edge_places, replaced_ok, planted_tree, planted_grown, planted_outside, planted_inside, planted_outputs, planted_final}

-- a block's nodes are marked, and what is to stand below its root is made
pub record IsPlanting (ks : List Answer) (t : TreeState) (r : ℕ) (word : List ℕ) (marks : List Bool) (more : List Node) (stand : List ℕ) : Type 0 where
  pub tree : IsTree t
  pub answers : AreAnswers t.inputs ks
  pub read : BranchesAreRead ks t
  pub may : MayReplace ks t r word
  pub are : AreMarks (node_at t.nodes) r marks
  pub each : length marks ≡ length t.nodes
  pub few : length t.nodes + length more < 2 ^ 32
  pub inside : r < length t.nodes
  pub clear : IsCleared (node_at t.nodes) (node_at (replaced_root t.nodes r word marks)) r word marks
  pub long : length (replaced_root t.nodes r word marks) ≡ length t.nodes
  pub sprout : IsSproutOf ks t (replaced_root t.nodes r word marks) more stand (length t.nodes + length more)

pub planting : {own t : TreeState} {ks : List Answer} {r : ℕ} {word : List ℕ} {marks seen : List Bool} {more : List Node} {stand : List ℕ} → own ≡ t → IsTree own → AreAnswers t.inputs ks → BranchesAreRead ks t → MayReplace ks t r word → AreMarks (node_at t.nodes) r marks → length marks ≡ length t.nodes → seen ≡ marks
    → length t.nodes + length more < 2 ^ 32
    → ((base : List Node) → length base ≡ length t.nodes → IsCleared (node_at t.nodes) (node_at base) r word seen → IsSproutOf ks t base more stand (length t.nodes + length more)) → IsPlanting ks t r word marks more stand
planting {t = t} {ks = ks} {r = r} {word = word} {marks = marks} view g answers read may are each same few grown =
    let base : List Node = replaced_root t.nodes r word marks in
    let inside = block_inside ks t r word may in
    let clear = replaced_clears t.nodes r word marks inside in
    let long = replaced_long t.nodes r word marks in
    record {
      tree = subst (λ (v : TreeState). IsTree v) view g;
      answers = answers;
      read = read;
      may = may;
      are = are;
      each = each;
      few = few;
      inside = inside;
      clear = clear;
      long = long;
      sprout = grown base long (subst (IsCleared (node_at t.nodes) (node_at base) r word) (sym same) clear);
    }

-- what the transitions are put by is that of the tree
pub record AreAtHand (t : TreeState) (r : ℕ) (marks : List Bool) (stand : List ℕ) (a : ℕ) (spanning : List Edge) (leaves : List ℕ) (places : List Place) : Type 0 where
  pub inputs : a ≡ t.inputs
  pub edges : spanning ≡ t.spanning
  pub stood : leaves ≡ stand
  pub moved : places ≡ map (lifted_place marks r) t.places

pub at_hand : {own t : TreeState} (r : ℕ) {marks seen : List Bool} {stand : List ℕ} {spanning : List Edge} {leaves : List ℕ} {old places : List Place} → own ≡ t → old ≡ own.places → seen ≡ marks → places ≡ map (lifted_place seen r) old → spanning ≡ own.spanning → leaves ≡ stand
    → AreAtHand t r marks stand own.inputs spanning leaves places
at_hand r {marks = marks} {old = old} view old_is seen_is places_are edges stood =
    record {
      inputs = ap (λ (v : TreeState). v.inputs) view;
      edges = edges ∙ ap (λ (v : TreeState). v.spanning) view;
      stood = stood;
      moved = places_are ∙ (ap (λ (m : List Bool). map (lifted_place m r) old) seen_is ∙ ap (λ (l : List Place). map (lifted_place marks r) l) (old_is ∙ ap (λ (v : TreeState). v.places) view));
    }

module _ {ks : List Answer} {t : TreeState} {r : ℕ} {word : List ℕ} {marks : List Bool} {more : List Node} {stand : List ℕ} (p : IsPlanting ks t r word marks more stand) where
  abbrev base : List Node
  base = replaced_root t.nodes r word marks

  -- the nodes before, and the marks, as the call has them
  pub replaced_nodes : {own : TreeState} {nodes : List Node} {seen : List Bool} → own ≡ t → nodes ≡ own.nodes → seen ≡ marks → replaced_root nodes r word seen ++ more ≡ replaced_root t.nodes r word marks ++ more
  replaced_nodes view nodes_are same = ap₂ (λ (l : List Node) (m : List Bool). replaced_root l r word m ++ more) (nodes_are ∙ ap (λ (v : TreeState). v.nodes) view) same

  pub replaced_lower : {own : TreeState} {nodes : List Node} {seen : List Bool} → own ≡ t → nodes ≡ own.nodes → seen ≡ marks → AreLower (replaced_root nodes r word seen ++ more)
  replaced_lower view nodes_are same = subst AreLower (sym (replaced_nodes view nodes_are same)) (λ n some live. (p.sprout.standing.shape.branches n some live).lower)

  module _ {a : ℕ} {spanning : List Edge} {leaves : List ℕ} {places : List Place} (h : AreAtHand t r marks stand a spanning leaves places) where
    count : length leaves ≡ length stand
    count = ap (λ (l : List ℕ). length l) h.stood

    pub leaves_some : 0 < length leaves
    leaves_some =
        let long = count in
        let each = p.sprout.each in
        let some = p.tree.some in
        omega (arith, long, each, some)

    pub edges_each : length spanning ≡ length leaves
    edges_each = ap (λ (l : List Edge). length l) h.edges ∙ (p.tree.each_edge ∙ (sym p.sprout.each ∙ sym count))

    pub edges_within : (q : ℕ) → 0 < q → q < length leaves → edge_number a spanning q < length places
    edges_within q some lt =
        let long = count in
        let each = p.sprout.each in
        let number : edge_number a spanning q ≡ edge_number t.inputs t.spanning q = ap₂ (λ (x : ℕ) (l : List Edge). edge_number x l q) h.inputs h.edges in
        let all : length places ≡ length t.places = ap (λ (l : List Place). length l) h.moved ∙ length-map t.places (lifted_place marks r) in
        let within : edge_number t.inputs t.spanning q < length t.places = edge_within t p.tree q some (omega (arith, lt, long, each)) in
        omega (arith, number, all, within)

    module _ {placed : List Place} (e : AreEdgePlaces a spanning leaves (length leaves) places placed) {nodes : List Node} (nodes_are : nodes ≡ replaced_root t.nodes r word marks ++ more) where
      edges : AreEdgePlaces t.inputs t.spanning stand (length stand) (map (lifted_place marks r) t.places) placed
      edges =
          subst (λ (x : ℕ). AreEdgePlaces x t.spanning stand (length stand) (map (lifted_place marks r) t.places) placed) h.inputs
          (same_edge_places a spanning t.spanning leaves stand places (map (lifted_place marks r) t.places) placed h.edges h.stood h.moved e)

      pub replaced_tree : IsTree (planted t nodes stand placed)
      replaced_tree =
          subst (λ (l : List Node). IsTree (planted t l stand placed)) (sym nodes_are)
          (planted_tree ks t r word marks base more stand placed p.tree p.read p.may p.are p.each p.clear p.long p.few p.sprout edges)

      pub replaced_has : HasReplaced {E = NoMemory} ks r word t (planted t nodes stand placed) (Ok tt)
      replaced_has =
          subst (λ (l : List Node). HasReplaced {E = NoMemory} ks r word t (planted t l stand placed) (Ok tt)) (sym nodes_are)
          (replaced_ok ks r word t (planted t (base ++ more) stand placed) (planted_grown ks t r word marks base more stand placed p.tree p.read p.may p.are p.each p.clear p.long p.few p.sprout edges)
          (planted_final ks t r word marks base more stand (length t.nodes + length more) p.tree p.may p.are p.clear p.long p.inside p.sprout placed)
          (ap (λ (n : Node). n.content) (get_or_append_left base more no_node r (subst (λ (n : ℕ). r < n) (sym p.long) p.inside)) ∙ p.clear.root)
          (planted_outside ks t r word marks base more stand placed p.tree p.read p.may p.are p.each p.clear p.long p.few p.sprout edges)
          (planted_inside ks t r word marks base more stand placed p.tree p.read p.may p.are p.each p.clear p.long p.few p.sprout edges p.answers)
          (planted_outputs ks t r word marks base more stand placed p.tree p.read p.may p.are p.each p.clear p.long p.few p.sprout edges) refl refl)
