-- The tree in which a sprout stands below a root.
use Rattle.std.proofs.Common.{◌≡◌, ◌≢◌, ◌⊎◌, inl, inr, ⊎_elim, ℕ, zero, suc, ◌+◌, ◌*◌, ◌^◌, ◌<◌, ◌≤◌, Bool, true, false, true≢false, List, [], ◌∷◌, ◌++◌, length, map, Option, IsSome, Ok, refl, ap, ap₂, sym, ◌∙◌, subst, append_assoc, append-nil, arith}
use Rattle.std.proofs.lemmas.Bool.{cases_lt}
use Rattle.std.proofs.Math.ListN.{get_or-append}
use Rattle.std.proofs.lemmas.List.{length-append, length-map, get_or-map, get_or-append-add}
use Rattle.lw_words.specs.Word.{Answer, AreAnswers}
use Rattle.lw_cache.specs.Cut.{word_at}
use Rattle.lw_tree.specs.Blocks.{MayReplace, HasFinal, StandsBelow, KeepsOutside, GathersInside, HaveSameOutputs, HasReplaced}
use Rattle.lw_tree.specs.Grown.{HasGrown}
use Rattle.lw_tree.specs.Tree.{TreeState, no_node, no_place, node_at, place_at, leaf_at, edge_at, place_of, final_words_of, final_discriminators, is_temporary, IsLive, IsFinal, AreNodes, AreLeaves, IsEdge, IsPlace, IsTree, Agrees, BranchesAreRead}
use Rattle.lw_tree.specs.bodies.Nodes.{AreLower}
use Rattle.lw_tree.specs.bodies.Sprouts.{AreMarks, mark_at, lifted, lifted_place, IsSprout, IsCleared, edge_number, AreEdgePlaces}
use Rattle.lw_tree.specs.declared.nodes.Node.{Node}
use Rattle.lw_tree.specs.declared.nodes.Content.{Content}
use Rattle.lw_tree.specs.declared.nodes.Content.TheVariants.{State, Discriminator, Gone}
use Rattle.lw_tree.specs.declared.transitions.Place.{Place}
use Rattle.lw_tree.specs.declared.transitions.Edge.{Edge}
use Rattle.lw_tree.proofs.AboveLemmas.{above_le, agrees_still, final_up}
use Rattle.lw_tree.proofs.ClearedLemmas.{marked_or_not, under_marked, lifted_yes, lifted_no, temporary_plain, base_branched, lifted_agrees, lifted_live}
use Rattle.lw_tree.proofs.NodeLemmas.{live_within}
use Rattle.lw_tree.proofs.PartLemmas.{agreeing_above}
use Rattle.lw_tree.proofs.PlaceLemmas.{one_transition, number_within}
use Rattle.lw_tree.proofs.WayLemmas.{KeepsNodes, inner_is_live}

-- a tree with other nodes, leaves and places
abbrev pub planted : TreeState → List Node → List ℕ → List Place → TreeState
planted t nodes leaves places = record (t) { nodes = nodes; leaves = leaves; places = places }

abbrev is_state : Content → Bool
is_state (State q) = true
is_state (Discriminator word temporary) = false
is_state Gone = false

abbrev pub state_of : Content → ℕ
state_of (State q) = q
state_of (Discriminator word temporary) = 0
state_of Gone = 0

-- the transition by which a state was reached has a place
pub edge_within : (t : TreeState) (g : IsTree t) (q : ℕ) → 0 < q → q < length t.access → edge_number t.inputs t.spanning q < length t.places
edge_within t g q some lt =
    let is = g.edges q some lt in
    let before = is.before in
    subst (λ (n : ℕ). edge_number t.inputs t.spanning q < n) (sym g.each_place) (number_within t.inputs (length t.access) (edge_at t.spanning q).state (edge_at t.spanning q).letter (omega (arith, before, lt)) is.small)

pub same_edge_places : (a : ℕ) (spanning own_spanning : List Edge) (leaves own_leaves : List ℕ) (places own_places now : List Place) → spanning ≡ own_spanning → leaves ≡ own_leaves → places ≡ own_places → AreEdgePlaces a spanning leaves (length leaves) places now → AreEdgePlaces a own_spanning own_leaves (length own_leaves) own_places now
same_edge_places a spanning own_spanning leaves own_leaves places own_places now one two three e =
    subst (λ (l : List Place). AreEdgePlaces a own_spanning own_leaves (length own_leaves) l now) three
    (subst (λ (l : List ℕ). AreEdgePlaces a own_spanning l (length l) places now) two (subst (λ (l : List Edge). AreEdgePlaces a l leaves (length leaves) places now) one e))

pub replaced_ok : {E : Type 0} (ks : List Answer) (r : ℕ) (word : List ℕ) (before now : TreeState) → HasGrown ks before now → HasFinal word before now → (node_at now.nodes r).content ≡ Discriminator word false → KeepsOutside r before now → GathersInside r before now → HaveSameOutputs before now → now.access ≡ before.access → now.refinements ≡ before.refinements → HasReplaced {E = E} ks r word before now (Ok tt)
replaced_ok ks r word before now grown replaced root outside inside outputs access refinements = record { grown = grown; replaced = replaced; root = root; outside = outside; inside = inside; outputs = outputs; access = access; refinements = refinements; left = tt }

abbrev node_of : ℕ → List ℕ → Content → Node
node_of parent branch content = record { parent = parent; branch = branch; content = content }

abbrev place_with : Option ℕ → ℕ → Place
place_with output node = record { output = output; node = node }

-- nodes, and places, with the same parts
same_node : (m n : Node) → m.parent ≡ n.parent → m.branch ≡ n.branch → m.content ≡ n.content → m ≡ n
same_node m n parent branch content =
    ap (λ (p : ℕ). node_of p m.branch m.content) parent
    ∙ (ap (λ (b : List ℕ). node_of n.parent b m.content) branch ∙ ap (λ (c : Content). node_of n.parent n.branch c) content)

same_place : (p q : Place) → p.output ≡ q.output → p.node ≡ q.node → p ≡ q
same_place p q output node = ap (λ (o : Option ℕ). place_with o p.node) output ∙ ap (λ (n : ℕ). place_with q.output n) node

module _ (ks : List Answer) (t : TreeState) (r : ℕ) (word : List ℕ) (marks : List Bool) (base more : List Node) (stand : List ℕ) (placed : List Place) (g : IsTree t) (read : BranchesAreRead ks t) (may : MayReplace ks t r word) (are : AreMarks (node_at t.nodes) r marks) (each : length marks ≡ length t.nodes)
    (clear : IsCleared (node_at t.nodes) (node_at base) r word marks) (long : length base ≡ length t.nodes) (few : length t.nodes + length more < 2 ^ 32) (s : IsSprout ks t.inputs t.access (length t.nodes) (base ++ more) stand (length t.nodes + length more))
    (e : AreEdgePlaces t.inputs t.spanning stand (length stand) (map (lifted_place marks r) t.places) placed) where
  abbrev after : TreeState
  after = planted t (base ++ more) stand placed

  abbrev now : ℕ → Node
  now = node_at (base ++ more)

  all_long : length (base ++ more) ≡ length t.nodes + length more
  all_long = length-append base more ∙ ap (λ (n : ℕ). n + length more) long

  -- a node that the cleared tree has
  stays : (n : ℕ) → IsLive (node_at base n).content → now n ≡ node_at base n
  stays n live = get_or-append base more no_node n (live_within base n live)

  keeps : KeepsNodes (node_at base) (node_at (base ++ more))
  keeps = record {
    parent = λ n live. ap (λ (k : Node). k.parent) (stays n live);
    branch = λ n live. ap (λ (k : Node). k.branch) (stays n live);
    inner = λ n is. ap (λ (k : Node). k.content) (stays n (inner_is_live (node_at base n).content is));
  }

  pub planted_nodes : AreNodes t.inputs (node_at (base ++ more))
  planted_nodes =
      record {
        root = s.standing.shape.root;
        branches = s.standing.shape.branches;
        apart = s.standing.shape.apart;
        words = s.standing.shape.words;
        tails = s.standing.shape.tails;
        two = s.two;
      }

  settled : (q : ℕ) → q < length t.access → (now (leaf_at stand q)).content ≡ State q
  settled q lt =
      ⊎_elim
      (λ (is : (now (leaf_at stand q)).content ≡ State q). is)
      (λ (past : length t.nodes + length more ≤ leaf_at stand q). let inside = live_within (base ++ more) (leaf_at stand q) (s.standing.live q lt) in absurd (omega (arith, past, inside, all_long)))
      (s.stood q lt)

  pub planted_leaves : AreLeaves (length t.access) (node_at (base ++ more)) (leaf_at stand)
  planted_leaves = record { leaves = settled; states = s.standing.states }

  size : length placed ≡ length t.places
  size = e.size ∙ length-map t.places (lifted_place marks r)

  lifted_at : (k : ℕ) → k < length t.places → place_at (map (lifted_place marks r) t.places) k ≡ lifted_place marks r (place_at t.places k)
  lifted_at k lt = get_or-map (lifted_place marks r) t.places k no_place no_place lt

  output_at : (k : ℕ) → k < length t.places → (place_at placed k).output ≡ (place_at t.places k).output
  output_at k lt = e.output k ∙ ap (λ (p : Place). p.output) (lifted_at k lt)

  inside_of : (q x : ℕ) → q < length t.access → x < t.inputs → q * t.inputs + x < length t.places
  inside_of q x lq lx = subst (λ (n : ℕ). q * t.inputs + x < n) (sym g.each_place) (number_within t.inputs (length t.access) q x lq lx)

  leaves_once : (p q : ℕ) → p < length t.access → q < length t.access → leaf_at t.leaves p ≡ leaf_at t.leaves q → p ≡ q
  leaves_once p q lp lq same = ap state_of (sym (g.leaves.leaves p lp) ∙ (ap (λ (n : ℕ). (node_at t.nodes n).content) same ∙ g.leaves.leaves q lq))

  edges_once : (p q : ℕ) → 0 < p → p < length t.access → 0 < q → q < length t.access → edge_number t.inputs t.spanning p ≡ edge_number t.inputs t.spanning q → p ≡ q
  edges_once p q some_p lp some_q lq same =
      let one : (place_at t.places (edge_number t.inputs t.spanning p)).node ≡ leaf_at t.leaves p = (g.edges p some_p lp).target in
      let other : (place_at t.places (edge_number t.inputs t.spanning q)).node ≡ leaf_at t.leaves q = (g.edges q some_q lq).target in
      leaves_once p q lp lq (sym one ∙ (ap (λ (k : ℕ). (place_at t.places k).node) same ∙ other))

  planted_edge : (q : ℕ) → 0 < q → q < length t.access → IsEdge t.inputs (word_at t.access) (leaf_at stand) (place_of t.inputs placed) q (edge_at t.spanning q)
  planted_edge q some lt =
      let was = g.edges q some lt in
      record {
        before = was.before;
        small = was.small;
        word_is = was.word_is;
        target = e.edges q some (omega (arith, lt, s.each)) (λ p some_p lp same. edges_once p q some_p (omega (arith, lp, s.each)) some lt same);
        known = subst IsSome (sym (output_at (edge_number t.inputs t.spanning q) (edge_within t g q some lt))) was.known;
      }

  -- the node of a place
  place_cases : (k : ℕ) → k < length t.places → ((place_at placed k).node ≡ lifted marks r (place_at t.places k).node) ⊎ ((q : ℕ) × (0 < q) × (q < length t.access) × (edge_number t.inputs t.spanning q ≡ k) × ((place_at placed k).node ≡ leaf_at stand q))
  place_cases k lt =
      ⊎_elim
      (λ (same : (place_at placed k).node ≡ (place_at (map (lifted_place marks r) t.places) k).node). inl (same ∙ ap (λ (p : Place). p.node) (lifted_at k lt)))
      (λ (moved : (q : ℕ) × (0 < q) × (q < length stand) × (edge_number t.inputs t.spanning q ≡ k) × ((place_at placed k).node ≡ leaf_at stand q)).
      let inside = moved.2 in
      inr (moved.0, moved.1, omega (arith, inside, s.each), moved.3, moved.4))
      (e.node k)

  node_live : (n : ℕ) → IsLive (node_at t.nodes n).content → IsLive (now (lifted marks r n)).content
  node_live n live =
      let old = lifted_live ks t r word marks base g may are each clear n live in
      subst (λ (m : Node). IsLive m.content) (sym (stays (lifted marks r n) old)) old

  planted_place : (k : ℕ) → k < length t.places → IsPlace t.outputs now (place_at placed k)
  planted_place k lt =
      let was = g.places k lt in
      record {
        live = ⊎_elim
            (λ (same : (place_at placed k).node ≡ lifted marks r (place_at t.places k).node). subst (λ (n : ℕ). IsLive (now n).content) (sym same) (node_live (place_at t.places k).node was.live))
            (λ (moved : (q : ℕ) × (0 < q) × (q < length t.access) × (edge_number t.inputs t.spanning q ≡ k) × ((place_at placed k).node ≡ leaf_at stand q)). subst (λ (n : ℕ). IsLive (now n).content) (sym moved.4) (s.standing.live moved.0 moved.2))
            (place_cases k lt);
        below = λ y is. was.below y (sym (output_at k lt) ∙ is);
      }

  pub planted_tree : IsTree after
  planted_tree =
      record {
        inputs = g.inputs;
        outputs = g.outputs;
        most = g.most;
        some = g.some;
        few = g.few;
        words = g.words;
        first = g.first;
        few_nodes = subst (λ (n : ℕ). n < 2 ^ 32) (sym all_long) few;
        nodes = planted_nodes;
        each_leaf = s.each;
        leaves = planted_leaves;
        each_edge = g.each_edge;
        edges = planted_edge;
        each_place = size ∙ g.each_place;
        places = λ k lt. planted_place k (omega (arith, lt, size));
        refined = g.refined;
      }

  base_agrees : (w : List ℕ) (n : ℕ) → IsLive (node_at t.nodes n).content → Agrees ks (node_at t.nodes) w n → Agrees ks now w (lifted marks r n)
  base_agrees w n live agrees =
      agrees_still (node_at base) (node_at (base ++ more)) (base_branched ks t r word marks base g may are each clear).branches keeps ks w (lifted marks r n) (lifted_live ks t r word marks base g may are each clear n live)
      (lifted_agrees ks t r word marks base g may are each clear w n live agrees)

  pub planted_read : BranchesAreRead ks after
  planted_read =
      record {
        outs = λ q x y lq lx is. read.outs q x y lq lx (sym (output_at (q * t.inputs + x) (inside_of q x lq lx)) ∙ is);
        transitions = λ q x lq lx.
            let k : ℕ = q * t.inputs + x in
            let inside = inside_of q x lq lx in
            ⊎_elim
            (λ (same : (place_at placed k).node ≡ lifted marks r (place_at t.places k).node).
            subst (λ (n : ℕ). Agrees ks now (word_at t.access q ++ x ∷ []) n) (sym same) (base_agrees (word_at t.access q ++ x ∷ []) (place_at t.places k).node (g.places k inside).live (read.transitions q x lq lx)))
            (λ (moved : (p : ℕ) × (0 < p) × (p < length t.access) × (edge_number t.inputs t.spanning p ≡ k) × ((place_at placed k).node ≡ leaf_at stand p)).
            let p : ℕ = moved.0 in
            let was = g.edges p moved.1 moved.2 in
            let one = one_transition t.inputs q x (edge_at t.spanning p).state (edge_at t.spanning p).letter lx was.small (sym moved.3) in
            let same_word : word_at t.access p ≡ word_at t.access q ++ x ∷ [] = was.word_is ∙ sym (ap₂ (λ (a z : ℕ). word_at t.access a ++ z ∷ []) one.0 one.1) in
            subst (λ (n : ℕ). Agrees ks now (word_at t.access q ++ x ∷ []) n) (sym moved.4) (subst (λ (w : List ℕ). Agrees ks now w (leaf_at stand p)) same_word (s.standing.agrees p moved.2)))
            (place_cases k inside);
        access = s.standing.agrees;
      }

  pub planted_grown : HasGrown ks t after
  planted_grown = record { inputs = refl; outputs = refl; most = refl; more = []; access = sym (append-nil t.access); tree = planted_tree; read = planted_read }

  -- a node that isn't below the root isn't marked
  unmarked : (n : ℕ) → ¬ (StandsBelow (node_at t.nodes) r n) → mark_at marks n ≡ false
  unmarked n not_below =
      ⊎_elim
      (λ (yes : mark_at marks n ≡ true). let u = are.sound n yes in let lt = u.0 in absurd (not_below (λ same. omega (arith, same, lt), u.2)))
      (λ (none : mark_at marks n ≡ false). none)
      (marked_or_not (mark_at marks n))

  root_stays : now r ≡ node_at base r
  root_stays = stays r (subst IsLive (sym clear.root) tt)

  outside_node : (n : ℕ) → n ≢ r → ¬ (StandsBelow (node_at t.nodes) r n) → IsLive (node_at t.nodes n).content → now n ≡ node_at t.nodes n
  outside_node n other not_below live =
      let content = clear.kept n other (unmarked n not_below) in
      stays n (subst IsLive (sym content) live) ∙ same_node (node_at base n) (node_at t.nodes n) (clear.parent n) (clear.branch n) content

  leaf_not_root : (q : ℕ) → q < length t.access → leaf_at t.leaves q ≢ r
  leaf_not_root q lt same = true≢false (sym may.block.temporary ∙ ap is_temporary (ap (λ (n : ℕ). (node_at t.nodes n).content) (sym same) ∙ g.leaves.leaves q lt))

  -- a state whose leaf isn't below the root has the same leaf
  outside_leaf : (q : ℕ) → q < length t.access → ¬ (StandsBelow (node_at t.nodes) r (leaf_at t.leaves q)) → leaf_at stand q ≡ leaf_at t.leaves q
  outside_leaf q lt not_below =
      let was = g.leaves.leaves q lt in
      let same = outside_node (leaf_at t.leaves q) (leaf_not_root q lt) not_below (subst IsLive (sym was) tt) in
      (s.standing.states (leaf_at t.leaves q) q (ap (λ (k : Node). k.content) same ∙ was)).1

  outside_place : (k : ℕ) → k < length t.places → ¬ (StandsBelow (node_at t.nodes) r (place_at t.places k).node) → (place_at placed k).node ≡ (place_at t.places k).node
  outside_place k lt not_below =
      ⊎_elim
      (λ (same : (place_at placed k).node ≡ lifted marks r (place_at t.places k).node). same ∙ lifted_no marks r (place_at t.places k).node (unmarked (place_at t.places k).node not_below))
      (λ (moved : (q : ℕ) × (0 < q) × (q < length t.access) × (edge_number t.inputs t.spanning q ≡ k) × ((place_at placed k).node ≡ leaf_at stand q)).
      let there : (place_at t.places k).node ≡ leaf_at t.leaves moved.0 = ap (λ (j : ℕ). (place_at t.places j).node) (sym moved.3) ∙ (g.edges moved.0 moved.1 moved.2).target in
      moved.4 ∙ (outside_leaf moved.0 moved.2 (subst (λ (n : ℕ). ¬ (StandsBelow (node_at t.nodes) r n)) there not_below) ∙ sym there))
      (place_cases k lt)

  pub planted_outside : KeepsOutside r t after
  planted_outside =
      record {
        parent = ap (λ (k : Node). k.parent) root_stays ∙ clear.parent r;
        branch = ap (λ (k : Node). k.branch) root_stays ∙ clear.branch r;
        nodes = outside_node;
        places = λ k lt not_below. same_place (place_at placed k) (place_at t.places k) (output_at k lt) (outside_place k lt not_below);
      }

  pub planted_outputs : HaveSameOutputs t after
  planted_outputs = output_at

  -- a node that is below the root is marked
  marked : (n : ℕ) → IsLive (node_at t.nodes n).content → StandsBelow (node_at t.nodes) r n → mark_at marks n ≡ true
  marked n live below =
      let le = above_le (node_at t.nodes) g.nodes.branches r n live below.1 in
      under_marked ks t r word marks base g may are each clear n (⊎_elim (λ (lt : r < n). lt) (λ (ge : n ≤ r). absurd (below.0 (omega (arith, le, ge)))) (cases_lt r n), live, below.1)

  -- a state whose leaf was below the root has its leaf below it
  inside_leaf : AreAnswers t.inputs ks → (q : ℕ) → q < length t.access → StandsBelow (node_at t.nodes) r (leaf_at t.leaves q) → StandsBelow now r (leaf_at stand q)
  inside_leaf answers q lt below =
      let was = g.leaves.leaves q lt in
      let is : (now (leaf_at stand q)).content ≡ State q = settled q lt in
      let live : IsLive (node_at t.nodes (leaf_at t.leaves q)).content = subst IsLive (sym was) tt in
      let root : (now r).content ≡ Discriminator word false = ap (λ (k : Node). k.content) root_stays ∙ clear.root in
      let differ : r ≢ leaf_at stand q = λ same. true≢false (sym (ap is_state is) ∙ (ap (λ (n : ℕ). is_state (now n).content) (sym same) ∙ ap is_state root)) in
      let up : lifted marks r (leaf_at t.leaves q) ≡ r = lifted_yes marks r (leaf_at t.leaves q) (marked (leaf_at t.leaves q) live below) in
      let to_root : Agrees ks now (word_at t.access q) r = subst (Agrees ks now (word_at t.access q)) up (base_agrees (word_at t.access q) (leaf_at t.leaves q) live (read.access q lt)) in
      (differ, agreeing_above t.inputs now s.standing.shape t.inputs ks answers r (leaf_at stand q) q (word_at t.access q) (subst IsLive (sym root) tt) is differ to_root (s.standing.agrees q lt))

  pub planted_inside : AreAnswers t.inputs ks → GathersInside r t after
  planted_inside answers =
      record {
        leaves = inside_leaf answers;
        places = λ k lt below. ⊎_elim
            (λ (same : (place_at placed k).node ≡ lifted marks r (place_at t.places k).node). inl (same ∙ lifted_yes marks r (place_at t.places k).node (marked (place_at t.places k).node (g.places k lt).live below)))
            (λ (moved : (q : ℕ) × (0 < q) × (q < length t.access) × (edge_number t.inputs t.spanning q ≡ k) × ((place_at placed k).node ≡ leaf_at stand q)). inr (moved.0, (moved.1, moved.2, moved.3), moved.4))
            (place_cases k lt);
      }

  pub planted_lower : AreLower (base ++ more)
  planted_lower n some live = (s.standing.shape.branches n some live).lower

-- lists of nodes with the same final words have the same final discriminators
same_finals : (xs ys : List Node) → length xs ≡ length ys → ((n : ℕ) → final_words_of (node_at xs n).content ≡ final_words_of (node_at ys n).content) → final_discriminators xs ≡ final_discriminators ys
same_finals [] [] long same = refl
same_finals [] (y ∷ ys) long same = absurd (omega (arith, long))
same_finals (x ∷ xs) [] long same = absurd (omega (arith, long))
same_finals (x ∷ xs) (y ∷ ys) long same = ap₂ (λ (a b : List (List ℕ)). a ++ b) (same 0) (same_finals xs ys (omega (arith, long)) (λ n. same (suc n)))

split_old : (a xs front back : List (List ℕ)) → xs ≡ front ++ back → a ++ xs ≡ (a ++ front) ++ back
split_old a xs front back is = ap (λ (l : List (List ℕ)). a ++ l) is ∙ sym (append_assoc a front back)

split_new : (a b ys front back : List (List ℕ)) (word : List ℕ) → a ≡ b → ys ≡ front ++ word ∷ back → b ++ ys ≡ (a ++ front) ++ word ∷ back
split_new a b ys front back word head is = ap (λ (l : List (List ℕ)). l ++ ys) (sym head) ∙ (ap (λ (l : List (List ℕ)). a ++ l) is ∙ sym (append_assoc a front (word ∷ back)))

and_none : (all a b c : List (List ℕ)) → all ≡ a ++ b → b ≡ [] → a ≡ c → all ≡ c
and_none all a b c joined none is = joined ∙ (ap (λ (l : List (List ℕ)). a ++ l) none ∙ (append-nil a ∙ is))

finals_replaced : (xs ys : List Node) (r : ℕ) (word : List ℕ) → length xs ≡ length ys → r < length xs → ((n : ℕ) → n ≢ r → final_words_of (node_at xs n).content ≡ final_words_of (node_at ys n).content) → final_words_of (node_at xs r).content ≡ [] → final_words_of (node_at ys r).content ≡ word ∷ []
    → (front : List (List ℕ)) × (back : List (List ℕ)) × (final_discriminators xs ≡ front ++ back) × (final_discriminators ys ≡ front ++ word ∷ back)
finals_replaced [] ys r word long inside same old new = absurd (omega (arith, inside))
finals_replaced (x ∷ xs) [] r word long inside same old new = absurd (omega (arith, long))
finals_replaced (x ∷ xs) (y ∷ ys) zero word long inside same old new =
    let rest : final_discriminators xs ≡ final_discriminators ys = same_finals xs ys (omega (arith, long)) (λ n. same (suc n) (λ e. omega (arith, e))) in
    ([], final_discriminators xs, ap (λ (l : List (List ℕ)). l ++ final_discriminators xs) old, ap (λ (l : List (List ℕ)). l ++ final_discriminators ys) new ∙ ap (λ (l : List (List ℕ)). word ∷ l) (sym rest))
finals_replaced (x ∷ xs) (y ∷ ys) (suc r) word long inside same old new =
    let rest = finals_replaced xs ys r word (omega (arith, long)) (omega (arith, inside)) (λ n other. same (suc n) (λ e. other (omega (arith, e)))) old new in
    let head : final_words_of x.content ≡ final_words_of y.content = same 0 (λ e. omega (arith, e)) in (
      final_words_of x.content ++ rest.0,
      rest.1,
      split_old (final_words_of x.content) (final_discriminators xs) rest.0 rest.1 rest.2,
      split_new (final_words_of x.content) (final_words_of y.content) (final_discriminators ys) rest.0 rest.1 word head rest.3,
    )

no_finals : (xs : List Node) → ((n : ℕ) → final_words_of (node_at xs n).content ≡ []) → final_discriminators xs ≡ []
no_finals [] none = refl
no_finals (x ∷ xs) none = ap₂ (λ (a b : List (List ℕ)). a ++ b) (none 0) (no_finals xs (λ n. none (suc n)))

finals_append : (xs ys : List Node) → final_discriminators (xs ++ ys) ≡ final_discriminators xs ++ final_discriminators ys
finals_append [] ys = refl
finals_append (x ∷ xs) ys = ap (λ (l : List (List ℕ)). final_words_of x.content ++ l) (finals_append xs ys) ∙ sym (append_assoc (final_words_of x.content) (final_discriminators xs) (final_discriminators ys))

plain_words : (c : Content) → ¬ IsFinal c → final_words_of c ≡ []
plain_words (State q) plain = refl
plain_words (Discriminator word true) plain = refl
plain_words (Discriminator word false) plain = absurd (plain tt)
plain_words Gone plain = refl

module _ (ks : List Answer) (t : TreeState) (r : ℕ) (word : List ℕ) (marks : List Bool) (base more : List Node) (stand : List ℕ) (next : ℕ) (g : IsTree t) (may : MayReplace ks t r word) (are : AreMarks (node_at t.nodes) r marks)
    (clear : IsCleared (node_at t.nodes) (node_at base) r word marks) (long : length base ≡ length t.nodes) (inside : r < length t.nodes) (s : IsSprout ks t.inputs t.access (length t.nodes) (base ++ more) stand next) where
  not_final : (n : ℕ) → mark_at marks n ≡ true → ¬ IsFinal (node_at t.nodes n).content
  not_final n is final =
      let u = are.sound n is in
      temporary_plain (node_at t.nodes r).content may.block.temporary (final_up (node_at t.nodes) g.nodes.branches r n u.1 u.2 final)

  base_words : (n : ℕ) → n ≢ r → final_words_of (node_at t.nodes n).content ≡ final_words_of (node_at base n).content
  base_words n other =
      ⊎_elim
      (λ (is : mark_at marks n ≡ true). plain_words (node_at t.nodes n).content (not_final n is) ∙ sym (ap final_words_of (clear.gone n other is)))
      (λ (is : mark_at marks n ≡ false). sym (ap final_words_of (clear.kept n other is)))
      (marked_or_not (mark_at marks n))

  more_words : (n : ℕ) → final_words_of (node_at more n).content ≡ []
  more_words n =
      plain_words (node_at more n).content
      (λ final. s.standing.plain (length base + n) (omega (arith, long)) (subst (λ (m : Node). IsFinal m.content) (sym (get_or-append-add base more n no_node)) final))

  pub planted_final : (places : List Place) → HasFinal word t (planted t (base ++ more) stand places)
  planted_final places =
      let front_back = finals_replaced t.nodes base r word (sym long) inside base_words (plain_words (node_at t.nodes r).content (temporary_plain (node_at t.nodes r).content may.block.temporary)) (ap final_words_of clear.root) in
      record {
        front = front_back.0;
        back = front_back.1;
        were = front_back.2;
        are = and_none (final_discriminators (base ++ more)) (final_discriminators base) (final_discriminators more) (front_back.0 ++ word ∷ front_back.1) (finals_append base more) (no_finals more more_words) front_back.3;
      }
