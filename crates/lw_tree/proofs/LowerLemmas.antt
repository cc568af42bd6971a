-- A tree in which a leaf became a temporary node, with a new leaf of its state below it.
use Rattle.std.proofs.Common.{◌≡◌, ◌≢◌, ⊎_elim, ℕ, zero, suc, ◌+◌, ◌*◌, ◌<◌, ◌≤◌, true, List, [], ◌∷◌, ◌++◌, length, set, Option, IsSome, refl, ap, ap₂, sym, ◌∙◌, subst, arith}
use Rattle.std.proofs.lemmas.Bool.{cases_lt, cases_eq}
use Rattle.std.proofs.lemmas.List.{length-append, length-set}
use Rattle.lw_words.specs.Word.{IsWord}
use Rattle.lw_cache.specs.Cut.{word_at}
use Rattle.lw_tree.specs.Tree.{TreeState, no_node, no_place, node_at, place_at, leaf_at, edge_at, place_of, IsLive, IsInner, HasTwo, AreLeaves, IsEdge, IsPlace, IsAbove, discriminator}
use Rattle.lw_tree.specs.Grown.{PlacesDescend}
use Rattle.lw_tree.specs.bodies.Nodes.{IsChild}
use Rattle.lw_tree.specs.bodies.Sprouts.{AreBranched}
use Rattle.lw_tree.specs.bodies.Steps.{leaf_below, IsNextState, moved_edge, inner_node, lowered, IsNextSplit, split_tree}
use Rattle.lw_tree.specs.bodies.Transitions.{place_by, content_by}
use Rattle.lw_tree.specs.declared.nodes.Node.{Node}
use Rattle.lw_tree.specs.declared.nodes.Content.{Content}
use Rattle.lw_tree.specs.declared.nodes.Content.TheVariants.{State, Discriminator}
use Rattle.lw_tree.specs.declared.transitions.Place.{Place}
use Rattle.lw_tree.specs.declared.transitions.Edge.{Edge}
use Rattle.lw_tree.proofs.AboveLemmas.{above_here, above_child}
use Rattle.lw_tree.proofs.WayLemmas.{KeepsNodes}
use Rattle.lw_tree.proofs.NodeLemmas.{Updates, everywhere, pushed, written, live_within, leaf_keeps, inner_was, with_leaf, two_stay, lowered_keeps, live_still, lowered_nodes, lowered_childless}
use Rattle.lw_tree.proofs.PlaceLemmas.{one_transition, number_within}
use Rattle.lw_tree.proofs.ShapeLemmas.{IsShaped, all_places, leaves_once, leaf_live, state_of, second_of_two}

-- one step after another
keeps_then : (a : ℕ) (node middle now : ℕ → Node) → ((n : ℕ) → IsLive (node n).content → IsLive (middle n).content) → KeepsNodes node middle → KeepsNodes middle now → KeepsNodes node now
keeps_then a node middle now live one two =
    record {
      parent = λ n is. two.parent n (live n is) ∙ one.parent n is;
      branch = λ n is. two.branch n (live n is) ∙ one.branch n is;
      inner = λ n is. two.inner n (subst IsInner (sym (one.inner n is)) is) ∙ one.inner n is;
    }

-- the place of a tree transition that was moved
module _ (a : ℕ) (places : List Place) (edge : Edge) (node : ℕ) where
  abbrev number : ℕ
  number = edge.state * a + edge.letter

  pub moved_output : (q k : ℕ) → (0 < q → number < length places) → (place_at (moved_edge a places edge q node) k).output ≡ (place_at places k).output
  moved_output zero k inside = refl
  moved_output (suc q) k inside =
      everywhere (place_at places) (place_at (moved_edge a places edge (suc q) node)) number (record { output = (place_at places number).output; node = node }) (λ k p. p.output ≡ (place_at places k).output)
      (written places number (record { output = (place_at places number).output; node = node }) no_place (inside (omega arith))) refl (λ n other. refl) k

  pub moved_here : (q : ℕ) → 0 < q → number < length places → (place_at (moved_edge a places edge q node) number).node ≡ node
  moved_here zero some inside = absurd (omega (arith, some))
  moved_here (suc q) some inside = ap (λ (p : Place). p.node) (written places number (record { output = (place_at places number).output; node = node }) no_place inside).here

  -- each other one stays, and so does each for state 0
  pub moved_other : (q k : ℕ) → (0 < q → number < length places) → (0 < q → k ≢ number) → place_at (moved_edge a places edge q node) k ≡ place_at places k
  moved_other zero k inside other = refl
  moved_other (suc q) k inside other = (written places number (record { output = (place_at places number).output; node = node }) no_place (inside (omega arith))).others k (other (omega arith))

  pub length-moved_edge : (q : ℕ) → length (moved_edge a places edge q node) ≡ length places
  length-moved_edge zero = refl
  length-moved_edge (suc q) = length-set places number (record { output = (place_at places number).output; node = node })

module _ (t : TreeState) (q : ℕ) (suffix branch : List ℕ) (g : IsShaped t) (target : q < length t.access) (letters : IsWord t.inputs suffix) (some_letter : suffix ≢ []) (size : length branch ≡ length suffix) where
  abbrev after : TreeState
  after = lowered t q suffix branch

  abbrev node : ℕ → Node
  node = node_at t.nodes

  abbrev now : ℕ → Node
  now = node_at after.nodes

  abbrev leaf : ℕ
  leaf = leaf_at t.leaves q

  abbrev new : ℕ
  new = length t.nodes

  -- the nodes once the leaf has its discriminator
  abbrev middle_nodes : List Node
  middle_nodes = set t.nodes leaf (inner_node (node leaf) suffix)

  abbrev middle : ℕ → Node
  middle = node_at middle_nodes

  abbrev edge : Edge
  edge = edge_at t.spanning q

  abbrev number_of_edge : ℕ
  number_of_edge = edge.state * t.inputs + edge.letter

  is_leaf : (node leaf).content ≡ State q
  is_leaf = g.leaves.leaves q target

  leaf_inside : leaf < length t.nodes
  leaf_inside = live_within t.nodes leaf (leaf_live t g q target)

  pub inner_update : Updates node middle leaf (inner_node (node leaf) suffix)
  inner_update = written t.nodes leaf (inner_node (node leaf) suffix) no_node leaf_inside

  middle_size : length middle_nodes ≡ new
  middle_size = length-set t.nodes leaf (inner_node (node leaf) suffix)

  pub leaf_update : Updates middle now new (leaf_below leaf branch q)
  leaf_update = subst (λ (n : ℕ). Updates middle now n (leaf_below leaf branch q)) middle_size (pushed middle_nodes (leaf_below leaf branch q) no_node)

  middle_last : (n : ℕ) → IsLive (middle n).content → n < new
  middle_last n live = subst (λ (m : ℕ). n < m) middle_size (live_within middle_nodes n live)

  middle_is : AreBranched t.inputs middle
  middle_is = lowered_nodes t.inputs node middle leaf q suffix g.nodes inner_update is_leaf letters some_letter

  middle_inner : IsInner (middle leaf).content
  middle_inner = subst (λ (m : Node). IsInner m.content) (sym inner_update.here) tt

  middle_leaf : (middle leaf).content ≡ Discriminator suffix true
  middle_leaf = ap (λ (m : Node). m.content) inner_update.here

  middle_fits : length branch ≡ length (discriminator (middle leaf).content)
  middle_fits = size ∙ ap (λ (c : Content). length (discriminator c)) (sym middle_leaf)

  childless : (n : ℕ) → IsChild middle leaf n → (middle n).branch ≢ branch
  childless n child = absurd (lowered_childless t.inputs node middle leaf q suffix g.nodes inner_update is_leaf letters some_letter n child)

  pub lower_nodes : AreBranched t.inputs now
  lower_nodes = with_leaf t.inputs middle now new leaf branch q middle_is leaf_update middle_last middle_inner middle_fits childless

  second_keeps : KeepsNodes middle now
  second_keeps = leaf_keeps t.inputs middle now new leaf branch q middle_is leaf_update middle_last middle_inner middle_fits childless

  still_live : (n : ℕ) → IsLive (node n).content → IsLive (middle n).content
  still_live = live_still t.inputs node middle leaf q suffix g.nodes inner_update is_leaf letters some_letter

  pub lower_keeps : KeepsNodes node now
  lower_keeps = keeps_then t.inputs node middle now still_live (lowered_keeps t.inputs node middle leaf q suffix g.nodes inner_update is_leaf letters some_letter) second_keeps

  pub live_stays : (n : ℕ) → IsLive (node n).content → IsLive (now n).content
  live_stays n live =
      let middle_live = still_live n live in
      subst (λ (m : Node). IsLive m.content) (sym (leaf_update.others n (λ same. let lt = middle_last n middle_live in omega (arith, same, lt)))) middle_live

  pub new_live : IsLive (now new).content
  new_live = subst (λ (m : Node). IsLive m.content) (sym leaf_update.here) tt

  pub new_parent : (now new).parent ≡ leaf
  new_parent = ap (λ (m : Node). m.parent) leaf_update.here

  pub some_nodes : 0 < length t.nodes
  some_nodes = omega (arith, leaf_inside)

  -- below each inner node but this one stand two, as before
  pub lower_two : ((n : ℕ) → IsInner (node n).content → HasTwo node n) → (n : ℕ) → n ≢ leaf → IsInner (now n).content → HasTwo now n
  lower_two two n other is =
      let middle_is_inner : IsInner (middle n).content = inner_was t.inputs middle now new leaf branch q middle_is leaf_update middle_last middle_inner middle_fits childless n is in
      let was : IsInner (node n).content = subst (λ (m : Node). IsInner m.content) (inner_update.others n other) middle_is_inner in
      two_stay node now live_stays lower_keeps.parent n (two n was)

  -- the leaf's node once both are done
  pub lower_leaf : (now leaf).content ≡ Discriminator suffix true
  lower_leaf = second_keeps.inner leaf middle_inner ∙ middle_leaf

  pub leaf_written : Updates (leaf_at t.leaves) (leaf_at after.leaves) q new
  leaf_written = written t.leaves q new 0 (omega (arith, target, g.each_leaf))

  -- a node that is neither of the two is as it was
  pub node_stays : (n : ℕ) → n ≢ new → n ≢ leaf → now n ≡ node n
  node_stays n other also = leaf_update.others n other ∙ inner_update.others n also

  lower_leaves : AreLeaves (length after.access) now (leaf_at after.leaves)
  lower_leaves =
      record {
        leaves = λ p lt. ⊎_elim
            (λ (same : p ≡ q). ap (λ (n : ℕ). (now n).content) (ap (leaf_at after.leaves) same ∙ leaf_written.here) ∙ (ap (λ (m : Node). m.content) leaf_update.here ∙ ap State (sym same)))
            (λ (other : p ≢ q).
            let inside = live_within t.nodes (leaf_at t.leaves p) (leaf_live t g p lt) in
            ap (λ (n : ℕ). (now n).content) (leaf_written.others p other)
            ∙ (ap (λ (m : Node). m.content) (node_stays (leaf_at t.leaves p) (λ e. omega (arith, e, inside)) (λ e. other (leaves_once t g p q lt target e))) ∙ g.leaves.leaves p lt))
            (cases_eq p q);
        states = λ n p is. ⊎_elim
            (λ (same : n ≡ new).
            let both : State q ≡ State p = sym (ap (λ (m : Node). m.content) (ap now same ∙ leaf_update.here)) ∙ is in
            let at : q ≡ p = ap state_of both in
            (omega (arith, at, target), ap (leaf_at after.leaves) (sym at) ∙ (leaf_written.here ∙ sym same)))
            (λ (other : n ≢ new). ⊎_elim
            (λ (same : n ≡ leaf). let both : Discriminator suffix true ≡ State p = sym lower_leaf ∙ (ap (λ (k : ℕ). (now k).content) (sym same) ∙ is) in elim (subst IsInner both tt) [ ])
            (λ (also : n ≢ leaf).
            let was = g.leaves.states n p (sym (ap (λ (m : Node). m.content) (node_stays n other also)) ∙ is) in
            (was.0, leaf_written.others p (λ e. also (sym was.1 ∙ ap (leaf_at t.leaves) e)) ∙ was.1))
            (cases_eq n leaf))
            (cases_eq n new);
      }

  pub edge_inside : 0 < q → number_of_edge < length t.places
  edge_inside some =
      let e = g.edges q some target in
      let before = e.before in
      subst (λ (n : ℕ). number_of_edge < n) (sym g.each_place) (number_within t.inputs (length t.access) edge.state edge.letter (omega (arith, before, target)) e.small)

  lower_edge : (p : ℕ) → 0 < p → p < length t.access → IsEdge t.inputs (word_at t.access) (leaf_at after.leaves) (place_of t.inputs after.places) p (edge_at t.spanning p)
  lower_edge p some lt =
      let e = g.edges p some lt in
      let k : ℕ = (edge_at t.spanning p).state * t.inputs + (edge_at t.spanning p).letter in
      let output : (place_at after.places k).output ≡ (place_at t.places k).output = moved_output t.inputs t.places edge new q k edge_inside in
      record {
        before = e.before;
        small = e.small;
        word_is = e.word_is;
        target = ⊎_elim
            (λ (same : p ≡ q).
            let here : number_of_edge ≡ k = ap (λ (n : ℕ). (edge_at t.spanning n).state * t.inputs + (edge_at t.spanning n).letter) (sym same) in
            let some_q : 0 < q = omega (arith, same, some) in
            ap (λ (n : ℕ). (place_at after.places n).node) (sym here) ∙ (moved_here t.inputs t.places edge new q some_q (edge_inside some_q) ∙ (sym leaf_written.here ∙ ap (leaf_at after.leaves) (sym same))))
            (λ (other : p ≢ q).
            let apart : 0 < q → k ≢ number_of_edge = λ some_q same. other (leaves_once t g p q lt target (sym e.target ∙ (ap (λ (n : ℕ). (place_at t.places n).node) same ∙ (g.edges q some_q target).target))) in
            ap (λ (m : Place). m.node) (moved_other t.inputs t.places edge new q k edge_inside apart) ∙ (e.target ∙ sym (leaf_written.others p other)))
            (cases_eq p q);
        known = subst (λ (o : Option ℕ). IsSome o) (sym output) e.known;
      }

  lower_place : (k : ℕ) → IsPlace t.outputs now (place_at after.places k)
  lower_place k =
      let was = all_places t g k in
      record {
        live = ⊎_elim
            (λ (zero_q : q ≡ 0). subst (λ (n : ℕ). IsLive (now n).content) (sym (ap (λ (m : Place). m.node) (moved_other t.inputs t.places edge new q k edge_inside (λ some. absurd (omega (arith, some, zero_q)))))) (live_stays (place_at t.places k).node was.live))
            (λ (other_q : q ≢ 0).
            let some : 0 < q = ⊎_elim (λ (lt : 0 < q). lt) (λ (le : q ≤ 0). absurd (other_q (omega (arith, le)))) (cases_lt 0 q) in
            ⊎_elim
            (λ (same : k ≡ number_of_edge). subst (λ (n : ℕ). IsLive (now n).content) (sym (ap (λ (n : ℕ). (place_at after.places n).node) same ∙ moved_here t.inputs t.places edge new q some (edge_inside some))) new_live)
            (λ (other : k ≢ number_of_edge). subst (λ (n : ℕ). IsLive (now n).content) (sym (ap (λ (m : Place). m.node) (moved_other t.inputs t.places edge new q k edge_inside (λ _. other)))) (live_stays (place_at t.places k).node was.live))
            (cases_eq k number_of_edge))
            (cases_eq q 0);
        below = λ y e. was.below y (sym (moved_output t.inputs t.places edge new q k edge_inside) ∙ e);
      }

  pub lower_shape : IsShaped after
  lower_shape =
      record {
        letters = g.letters;
        some = g.some;
        words = g.words;
        first = g.first;
        nodes = lower_nodes;
        each_leaf = length-set t.leaves q new ∙ g.each_leaf;
        leaves = lower_leaves;
        each_edge = g.each_edge;
        edges = lower_edge;
        each_place = length-moved_edge t.inputs t.places edge new q ∙ g.each_place;
        places = λ k lt. lower_place k;
      }

  -- the transition by which the state was reached goes down to its new leaf, and no other one goes anywhere
  pub lower_descends : PlacesDescend t after
  lower_descends k =
      ⊎_elim
      (λ (zero_q : q ≡ 0). here k (ap (λ (m : Place). m.node) (moved_other t.inputs t.places edge new q k edge_inside (λ some. absurd (omega (arith, some, zero_q))))))
      (λ (other_q : q ≢ 0).
      let some : 0 < q = ⊎_elim (λ (lt : 0 < q). lt) (λ (le : q ≤ 0). absurd (other_q (omega (arith, le)))) (cases_lt 0 q) in
      ⊎_elim
      (λ (same : k ≡ number_of_edge).
      let stood : (place_at t.places k).node ≡ leaf = ap (λ (n : ℕ). (place_at t.places n).node) same ∙ (g.edges q some target).target in
      let stands : (place_at after.places k).node ≡ new = ap (λ (n : ℕ). (place_at after.places n).node) same ∙ moved_here t.inputs t.places edge new q some (edge_inside some) in
      subst (λ (n : ℕ). IsAbove now n (place_at after.places k).node) (sym stood) (subst (λ (n : ℕ). IsAbove now leaf n) (sym stands) (above_child now lower_nodes.branches leaf new some_nodes new_live new_parent)))
      (λ (other : k ≢ number_of_edge). here k (ap (λ (m : Place). m.node) (moved_other t.inputs t.places edge new q k edge_inside (λ _. other))))
      (cases_eq k number_of_edge))
      (cases_eq q 0)
    where
      here : (k : ℕ) → (place_at after.places k).node ≡ (place_at t.places k).node → IsAbove now (place_at t.places k).node (place_at after.places k).node
      here k stays = subst (λ (n : ℕ). IsAbove now (place_at t.places k).node n) (sym stays) (above_here now lower_nodes.branches (place_at t.places k).node)

  pub lower_count : length after.nodes ≡ new + 1
  lower_count = length-append middle_nodes (leaf_below leaf branch q ∷ []) ∙ ap (λ (n : ℕ). n + 1) middle_size

  -- a child of the old leaf is the new one
  only_child : (n : ℕ) → IsChild now leaf n → n ≡ new
  only_child n child =
      ⊎_elim
      (λ (same : n ≡ new). same)
      (λ (other : n ≢ new).
      let at = leaf_update.others n other in
      absurd (lowered_childless t.inputs node middle leaf q suffix g.nodes inner_update is_leaf letters some_letter n (subst (λ (m : Node). (0 < n) × IsLive m.content × (m.parent ≡ leaf)) at child)))
      (cases_eq n new)

  pub other_branch : (n : ℕ) (next : List ℕ) → branch ≢ next → IsChild now leaf n → (now n).branch ≢ next
  other_branch n next differ child same = differ (sym (ap (λ (m : Node). m.branch) (ap now (only_child n child) ∙ leaf_update.here)) ∙ same)

-- where a leaf was lowered for a split, the transition of the split has a next state
module _ (t : TreeState) (edge : Edge) (output q : ℕ) (suffix old new : List ℕ) (g : IsShaped t) (next : IsNextSplit t edge output q suffix old new) where
  abbrev middle_tree : TreeState
  middle_tree = lowered t q suffix old

  -- the transition isn't that by which the state was reached
  pub not_reached_so : 0 < q → edge.state * t.inputs + edge.letter ≢ (edge_at t.spanning q).state * t.inputs + (edge_at t.spanning q).letter
  not_reached_so some same =
      let e = g.edges q some next.target in
      let one = one_transition t.inputs edge.state edge.letter (edge_at t.spanning q).state (edge_at t.spanning q).letter next.from.1 e.small same in
      next.other (ap₂ (λ (p x : ℕ). word_at t.access p ++ x ∷ []) one.0 one.1 ∙ sym e.word_is)

  pub same_place : place_by middle_tree edge ≡ place_by t edge
  same_place = moved_other t.inputs t.places (edge_at t.spanning q) (length t.nodes) q (edge.state * t.inputs + edge.letter) (edge_inside t q suffix old g next.target next.letters next.some next.old_size) not_reached_so

  pub at_leaf : (place_by middle_tree edge).node ≡ leaf_at t.leaves q
  at_leaf = ap (λ (p : Place). p.node) same_place ∙ next.there

  pub at_discriminator : content_by middle_tree edge ≡ Discriminator suffix true
  at_discriminator = ap (λ (n : ℕ). (node_at middle_tree.nodes n).content) at_leaf ∙ lower_leaf t q suffix old g next.target next.letters next.some next.old_size

  pub split_next : IsNextState middle_tree edge output new
  split_next =
      record {
        from = next.from;
        inner = subst IsInner (sym at_discriminator) tt;
        below = (all_places t g (edge.state * t.inputs + edge.letter)).below output next.known;
        size = next.new_size ∙ ap (λ (c : Content). length (discriminator c)) (sym at_discriminator);
        new = λ n child. other_branch t q suffix old g next.target next.letters next.some next.old_size n new next.differ (subst (λ (p : ℕ). IsChild (node_at middle_tree.nodes) p n) at_leaf child);
      }

  pub split_two : ((n : ℕ) → IsInner (node_at t.nodes n).content → HasTwo (node_at t.nodes) n) → (n : ℕ) → IsInner (node_at (split_tree t edge output q suffix old new).nodes n).content → HasTwo (node_at (split_tree t edge output q suffix old new).nodes) n
  split_two two =
      second_of_two middle_tree edge output new (lower_shape t q suffix old g next.target next.letters next.some next.old_size) split_next (length t.nodes)
      (some_nodes t q suffix old g next.target next.letters next.some next.old_size) (new_live t q suffix old g next.target next.letters next.some next.old_size)
      (new_parent t q suffix old g next.target next.letters next.some next.old_size ∙ sym at_leaf)
      (λ n other is. lower_two t q suffix old g next.target next.letters next.some next.old_size two n (λ same. other (same ∙ sym at_leaf)) is)
