-- What a tree gains, from one step to the next.
use Rattle.std.proofs.Common.{◌≡◌, ◌≢◌, ◌⊎◌, inl, inr, ⊎_elim, ℕ, zero, suc, ◌+◌, ◌*◌, ◌<◌, ◌≤◌, Bool, true, false, true≢false, if◌then◌else◌, List, [], ◌∷◌, ◌++◌, length, Some, Result, Ok, Err, refl, ap, ap₂, sym, ◌∙◌, subst, arith, append-nil, append_assoc}
use Rattle.std.proofs.Math.ListN.{get_or-append}
use Rattle.std.proofs.Math.Nat.{mul-le-mul_right}
use Rattle.std.proofs.lemmas.Bool.{cases_lt, cases_eq}
use Rattle.std.proofs.lemmas.List.{length-append}
use Rattle.lw_words.specs.Word.{Answer}
use Rattle.lw_cache.specs.declared.stops.AskStop.{AskStop}
use Rattle.lw_cache.specs.declared.stops.GrowStop.{GrowStop}
use Rattle.lw_cache.specs.declared.stops.GrowStop.TheVariants.{Ask, Crowd}
use Rattle.lw_cache.specs.Crowd.{IsCrowd}
use Rattle.lw_cache.specs.Cut.{word_at}
use Rattle.lw_tree.specs.Grown.{HasGrown, NodesStay, PlacesDescend, KeepsTree, IsCrowdOf, TellsCrowd, MovesOn, HasMoved, StepsOnce, AllStepOnce}
use Rattle.lw_tree.specs.Tree.{TreeState, node_at, place_at, IsLive, IsAbove, IsTree, Tells, Agrees, BranchesAreRead, discriminator, discriminators, final_discriminators, temporaries, is_temporary, words_of, final_words_of, is_open, is_inner}
use Rattle.lw_tree.specs.bodies.Steps.{placed, with_place, leaf_below, with_state, IsNextState, IsRead, HasStepped, HasSifted}
use Rattle.lw_tree.specs.bodies.Transitions.{IsTransition, word_of, place_by, content_by, is_open_by, IsAsked}
use Rattle.lw_tree.specs.declared.nodes.Node.{Node}
use Rattle.lw_tree.specs.declared.nodes.Content.{Content}
use Rattle.lw_tree.specs.declared.transitions.Place.{Place}
use Rattle.lw_tree.specs.declared.transitions.Edge.{Edge}
use Rattle.lw_tree.proofs.AboveLemmas.{above_stays, above_trans, above_child}
use Rattle.lw_tree.proofs.NodeLemmas.{Updates, everywhere, live_within}
use Rattle.lw_tree.proofs.ShapeLemmas.{IsShaped, shape_of, all_places, place_update, node_stays, node_update, places_update, state_nodes, new_live}
use Rattle.lw_tree.proofs.BranchLemmas.{placed_read, state_read}
use Rattle.lw_tree.proofs.PlaceLemmas.{inner_open}

-- where a place and its node are as before, so is whether it is open
pub same_open : (before now : TreeState) (k : ℕ) → node_at now.nodes (place_at before.places k).node ≡ node_at before.nodes (place_at before.places k).node → place_at now.places k ≡ place_at before.places k
    → is_open (node_at now.nodes) (place_at now.places k) ≡ is_open (node_at before.nodes) (place_at before.places k)
same_open before now k node at =
    let b : Place = place_at before.places k in
    let whole : is_open (node_at now.nodes) b ≡ is_open (node_at before.nodes) b = ap (λ (m : Node). open_with b m) node in
    ap (is_open (node_at now.nodes)) at ∙ whole
  where
    open_with : Place → Node → Bool
    open_with p m = is_open (λ _. m) p

-- a live node is live where it is as it was
pub still_live : (m n : Node) → m ≡ n → IsLive n.content → IsLive m.content
still_live m n same live = subst (λ (k : Node). IsLive k.content) (sym same) live

pub above_itself : (node : ℕ → Node) (n : ℕ) → IsAbove node n n
above_itself node zero = inl refl
above_itself node (suc n) = inr (omega arith, inl refl)

pub keeps_same : (t : TreeState) → KeepsTree t t
keeps_same t = record { nodes = λ n live. refl; targets = λ k closed. refl; descends = λ k. above_itself (node_at t.nodes) (place_at t.places k).node; outputs = λ k y is. is; discriminators_are = refl; finals = refl; temporary = refl; refinements = refl }

-- places that went down twice
pub descends_then : (a b c : TreeState) → IsTree b → IsTree c → NodesStay b c → PlacesDescend a b → PlacesDescend b c → PlacesDescend a c
descends_then a b c gb gc stay one two k =
    let from : ℕ = (place_at a.places k).node in
    let middle : ℕ = (place_at b.places k).node in
    let to : ℕ = (place_at c.places k).node in
    let up = above_stays (node_at b.nodes) (node_at c.nodes) gb.nodes.branches (λ n live. ap (λ (m : Node). m.parent) (stay n live)) from middle (all_places b (shape_of b gb) k).live (one k) in
    above_trans (node_at c.nodes) gc.nodes.branches from middle to (all_places c (shape_of c gc) k).live up (two k)

pub keeps_and_keeps : (a b c : TreeState) → IsTree a → IsTree b → IsTree c → KeepsTree a b → KeepsTree b c → KeepsTree a c
keeps_and_keeps a b c g gb gc one two =
    record {
      nodes = λ n live.
          let was = one.nodes n live in
          two.nodes n (still_live (node_at b.nodes n) (node_at a.nodes n) was live) ∙ was;
      targets = λ k closed.
          let was = one.targets k closed in
          let node = one.nodes (place_at a.places k).node (all_places a (shape_of a g) k).live in
          two.targets k (same_open a b k node was ∙ closed) ∙ was;
      descends = descends_then a b c gb gc two.nodes one.descends two.descends;
      outputs = λ k y is. two.outputs k y (one.outputs k y is);
      discriminators_are = two.discriminators_are ∙ one.discriminators_are;
      finals = two.finals ∙ one.finals;
      temporary = two.temporary ∙ one.temporary;
      refinements = two.refinements ∙ one.refinements;
    }

-- where nothing came
pub not_grown : (ks : List Answer) (t : TreeState) → IsTree t → BranchesAreRead ks t → HasGrown ks t t
not_grown ks t tree read = record { inputs = refl; outputs = refl; most = refl; more = []; access = sym (append-nil t.access); tree = tree; read = read }

-- one step after another
pub grown_then : (first ks : List Answer) (a b c : TreeState) → HasGrown first a b → HasGrown ks b c → HasGrown ks a c
grown_then first ks a b c one two =
    record {
      inputs = two.inputs ∙ one.inputs;
      outputs = two.outputs ∙ one.outputs;
      most = two.most ∙ one.most;
      more = one.more ++ two.more;
      access = two.access ∙ (ap (λ (l : List (List ℕ)). l ++ two.more) one.access ∙ append_assoc a.access one.more two.more);
      tree = two.tree;
      read = two.read;
    }

-- a stop of the oracle is no crowd
pub no_crowd : {X : Type 0} (ks : List Answer) (t : TreeState) (stop : AskStop) → TellsCrowd {X = X} ks t (Err (Ask stop))
no_crowd ks t stop words same = cc

abbrev told_words : {X : Type 0} → List (List ℕ) → Result X GrowStop → List (List ℕ)
told_words d (Ok _) = d
told_words d (Err (Ask stop)) = d
told_words d (Err (Crowd words)) = words

pub tells_crowd : {X : Type 0} (ks : List Answer) (t : TreeState) (words : List (List ℕ)) → IsCrowdOf ks t words → TellsCrowd {X = X} ks t (Err (Crowd words))
tells_crowd ks t words is told same = subst (IsCrowdOf ks t) (ap (told_words []) same) is

-- the access words and one word more are one word too many
pub crowd_of : (ks : List Answer) (t : TreeState) (edge : Edge) (words : List (List ℕ)) → IsTransition t edge → length t.access ≡ t.most → IsCrowd ks (t.access ++ word_of t edge ∷ []) → words ≡ t.access ++ word_of t edge ∷ [] → IsCrowdOf ks t words
crowd_of ks t edge words from count apart all =
    record {
      count = ap (λ (l : List (List ℕ)). length l) all ∙ (length-append t.access (word_of t edge ∷ []) ∙ ap (λ (n : ℕ). n + 1) count);
      state = edge.state;
      letter = edge.letter;
      from = from.0;
      small = from.1;
      all = all;
      apart = subst (IsCrowd ks) (sym all) apart;
    }

-- a leaf more changes no discriminator
pub discriminators_leaf : (nodes : List Node) (parent : ℕ) (branch : List ℕ) (q : ℕ) → discriminators (nodes ++ leaf_below parent branch q ∷ []) ≡ discriminators nodes
discriminators_leaf [] parent branch q = refl
discriminators_leaf (n ∷ nodes) parent branch q = ap (λ (l : List (List ℕ)). words_of n.content ++ l) (discriminators_leaf nodes parent branch q)

pub finals_leaf : (nodes : List Node) (parent : ℕ) (branch : List ℕ) (q : ℕ) → final_discriminators (nodes ++ leaf_below parent branch q ∷ []) ≡ final_discriminators nodes
finals_leaf [] parent branch q = refl
finals_leaf (n ∷ nodes) parent branch q = ap (λ (l : List (List ℕ)). final_words_of n.content ++ l) (finals_leaf nodes parent branch q)

pub temporaries_leaf : (nodes : List Node) (parent : ℕ) (branch : List ℕ) (q : ℕ) → temporaries (nodes ++ leaf_below parent branch q ∷ []) ≡ temporaries nodes
temporaries_leaf [] parent branch q = refl
temporaries_leaf (n ∷ nodes) parent branch q = ap (λ (k : ℕ). (if is_temporary n.content then 1 else 0) + k) (temporaries_leaf nodes parent branch q)

-- steps of one transition
pub not_stepped : (ks : List Answer) (t : TreeState) (edge : Edge) → IsTree t → BranchesAreRead ks t → HasStepped ks t edge t
not_stepped ks t edge tree read = record { grown = not_grown ks t tree read; keeps = keeps_same t; others = λ k lt other. refl; steps = inl refl }

-- a transition that has a target is none that has none
pub other_than_open : (t : TreeState) (edge : Edge) (k : ℕ) → is_open_by t edge ≡ true → is_open (node_at t.nodes) (place_at t.places k) ≡ false → k ≢ edge.state * t.inputs + edge.letter
other_than_open t edge k stands closed same = true≢false (sym stands ∙ (ap (λ (j : ℕ). is_open (node_at t.nodes) (place_at t.places j)) (sym same) ∙ closed))

module _ (ks : List Answer) (t : TreeState) (edge : Edge) (output n : ℕ) (g : IsTree t) (from : IsTransition t edge) (stands : is_open_by t edge ≡ true) (below : output < t.outputs) (live : IsLive (node_at t.nodes n).content) where
  abbrev placed_tree : TreeState
  placed_tree = with_place t edge output n

  place_now : Updates (place_at t.places) (place_at placed_tree.places) (edge.state * t.inputs + edge.letter) (placed output n)
  place_now = place_update t edge output n (shape_of t g) from stands below live

  placed_below : (n ≡ (place_by t edge).node) ⊎ ((0 < n) × ((node_at t.nodes n).parent ≡ (place_by t edge).node)) → IsAbove (node_at t.nodes) (place_by t edge).node n
  placed_below to =
      ⊎_elim
      (λ (stays : n ≡ (place_by t edge).node). subst (λ (m : ℕ). IsAbove (node_at t.nodes) (place_by t edge).node m) (sym stays) (above_itself (node_at t.nodes) (place_by t edge).node))
      (λ (down : (0 < n) × ((node_at t.nodes n).parent ≡ (place_by t edge).node)). above_child (node_at t.nodes) g.nodes.branches (place_by t edge).node n down.0 live down.1)
      to

  pub placed_stepped : IsTree placed_tree → BranchesAreRead ks t → Tells ks (word_at t.access edge.state) (edge.letter ∷ []) (output ∷ []) → Agrees ks (node_at t.nodes) (word_of t edge) n → ((y : ℕ) → (place_by t edge).output ≡ Some y → y ≡ output) → (n ≡ (place_by t edge).node) ⊎ ((0 < n) × ((node_at t.nodes n).parent ≡ (place_by t edge).node)) → HasStepped ks t edge placed_tree
  placed_stepped tree read out agrees same to =
      record {
        grown = record { inputs = refl; outputs = refl; most = refl; more = []; access = sym (append-nil t.access); tree = tree; read = placed_read ks t edge output n (shape_of t g) from stands below live read out agrees };
        keeps = record {
          nodes = λ m is. refl;
          targets = λ k closed. place_now.others k (other_than_open t edge k stands closed);
          descends = everywhere (place_at t.places) (place_at placed_tree.places) (edge.state * t.inputs + edge.letter) (placed output n) (λ k p. IsAbove (node_at t.nodes) (place_at t.places k).node p.node) place_now (placed_below to) (λ k other. above_itself (node_at t.nodes) (place_at t.places k).node);
          outputs = everywhere (place_at t.places) (place_at placed_tree.places) (edge.state * t.inputs + edge.letter) (placed output n) (λ k p. (y : ℕ) → (place_at t.places k).output ≡ Some y → p.output ≡ Some y) place_now (λ y is. ap Some (sym (same y is))) (λ k other y is. is);
          discriminators_are = refl;
          finals = refl;
          temporary = refl;
          refinements = refl;
        };
        others = λ k lt other. place_now.others k other;
        steps = subst (λ (p : Place). (p.node ≡ (place_by t edge).node) ⊎ ((0 < p.node) × ((node_at t.nodes p.node).parent ≡ (place_by t edge).node))) (sym place_now.here) to;
      }

  -- at a leaf it has a target; at another node it stands lower
  pub placed_moves : (is_inner (node_at t.nodes n).content ≡ false) ⊎ ((place_by t edge).node < n) → MovesOn t placed_tree (edge.state * t.inputs + edge.letter)
  placed_moves to is = (
    stands,
    ⊎_elim
        (λ (leaf : is_inner (node_at t.nodes n).content ≡ false).
        let at : is_open (node_at t.nodes) (place_at placed_tree.places (edge.state * t.inputs + edge.letter)) ≡ false = ap (is_open (node_at t.nodes)) place_now.here ∙ leaf in
        absurd (true≢false (sym is ∙ at)))
        (λ (lt : (place_by t edge).node < n). subst (λ (m : ℕ). (place_by t edge).node < m) (sym (ap (λ (p : Place). p.node) place_now.here)) lt)
        to,
  )

-- a state more puts no transition higher up
pub state_descends : (t : TreeState) (edge : Edge) (output : ℕ) (branch : List ℕ) → IsShaped t → IsNextState t edge output branch → PlacesDescend t (with_state t edge output branch)
state_descends t edge output branch s next =
    let now : ℕ → Node = node_at (with_state t edge output branch).nodes in
    let branches = (state_nodes t edge output branch s next).branches in
    let made = (node_update t edge output branch s next).here in
    everywhere (place_at t.places) (place_at (with_state t edge output branch).places) (edge.state * t.inputs + edge.letter) (placed output (length t.nodes)) (λ k p. IsAbove now (place_at t.places k).node p.node) (places_update t edge output branch s next)
    (above_child now branches (place_by t edge).node (length t.nodes) (live_within t.nodes 0 s.nodes.root) (new_live t edge output branch s next) (ap (λ (m : Node). m.parent) made))
    (λ k other. above_itself now (place_at t.places k).node)

module _ (ks : List Answer) (t : TreeState) (edge : Edge) (output : ℕ) (branch : List ℕ) (g : IsTree t) (next : IsNextState t edge output branch) where
  abbrev state_tree : TreeState
  state_tree = with_state t edge output branch

  state_place : Updates (place_at t.places) (place_at state_tree.places) (edge.state * t.inputs + edge.letter) (placed output (length t.nodes))
  state_place = places_update t edge output branch (shape_of t g) next

  pub state_stepped : IsTree state_tree → IsRead ks t edge output branch → HasStepped ks t edge state_tree
  state_stepped tree read =
      record {
        grown = record { inputs = refl; outputs = refl; most = refl; more = word_of t edge ∷ []; access = refl; tree = tree; read = state_read ks t edge output branch (shape_of t g) next read };
        keeps = record {
          nodes = λ m live. node_stays t edge output branch (shape_of t g) next m live;
          targets = λ k closed. state_place.others k (other_than_open t edge k (inner_open (node_at t.nodes) (place_by t edge) next.inner) closed);
          descends = state_descends t edge output branch (shape_of t g) next;
          outputs = everywhere (place_at t.places) (place_at state_tree.places) (edge.state * t.inputs + edge.letter) (placed output (length t.nodes)) (λ k p. (y : ℕ) → (place_at t.places k).output ≡ Some y → p.output ≡ Some y) state_place (λ y is. ap Some (sym (read.same y is))) (λ k other y is. is);
          discriminators_are = discriminators_leaf t.nodes (place_by t edge).node branch (length t.access);
          finals = finals_leaf t.nodes (place_by t edge).node branch (length t.access);
          temporary = temporaries_leaf t.nodes (place_by t edge).node branch (length t.access);
          refinements = refl;
        };
        others = λ k lt other. state_place.others k other;
        steps = subst (λ (p : Place). (p.node ≡ (place_by t edge).node) ⊎ ((0 < p.node) × ((node_at state_tree.nodes p.node).parent ≡ (place_by t edge).node))) (sym state_place.here) (inr (live_within t.nodes 0 g.nodes.root, ap (λ (m : Node). m.parent) (node_update t edge output branch (shape_of t g) next).here));
      }

  pub state_moves : MovesOn t state_tree (edge.state * t.inputs + edge.letter)
  state_moves is =
      let made = (node_update t edge output branch (shape_of t g) next).here in
      let at : is_open (node_at state_tree.nodes) (place_at state_tree.places (edge.state * t.inputs + edge.letter)) ≡ false =
      ap (is_open (node_at state_tree.nodes)) state_place.here ∙ ap (λ (m : Node). is_inner m.content) made in
      absurd (true≢false (sym is ∙ at))

-- more access words have more transitions
pub access_longer : (ks : List Answer) (before now : TreeState) → HasGrown ks before now → length before.access ≤ length now.access
access_longer ks before now grown =
    let e : length now.access ≡ length before.access + length grown.more = ap (λ (l : List (List ℕ)). length l) grown.access ∙ length-append before.access grown.more in
    omega (arith, e)

pub places_longer : (ks : List Answer) (before now : TreeState) → IsTree before → HasGrown ks before now → length before.places ≤ length now.places
places_longer ks before now g grown =
    let more : length before.access * before.inputs ≤ length now.access * before.inputs = mul-le-mul_right before.inputs (access_longer ks before now grown) in
    let at : length now.access * now.inputs ≡ length now.access * before.inputs = ap (λ (n : ℕ). length now.access * n) grown.inputs in
    let was = g.each_place in
    let is = grown.tree.each_place in
    omega (arith, was, is, more, at)

pub words_stay : (ks : List Answer) (before now : TreeState) → HasGrown ks before now → (q : ℕ) → q < length before.access → word_at now.access q ≡ word_at before.access q
words_stay ks before now grown q lt = ap (λ (l : List (List ℕ)). word_at l q) grown.access ∙ get_or-append before.access grown.more [] q lt

module _ (ks : List Answer) (before : TreeState) (to : ℕ) (now after : TreeState) (edge : Edge) (g : IsTree before) (sifted : HasSifted ks before to now) (is_next : to ≡ edge.state * now.inputs + edge.letter) (inside : to < length before.places)
    (stepped : HasStepped ks now edge after) where
  node_still : (k : ℕ) → node_at now.nodes (place_at before.places k).node ≡ node_at before.nodes (place_at before.places k).node
  node_still k = sifted.keeps.nodes (place_at before.places k).node (all_places before (shape_of before g) k).live

  node_then : (k : ℕ) → node_at after.nodes (place_at now.places k).node ≡ node_at now.nodes (place_at now.places k).node
  node_then k = stepped.keeps.nodes (place_at now.places k).node (all_places now (shape_of now sifted.grown.tree) k).live

  longer : length before.places ≤ length now.places
  longer = places_longer ks before now g sifted.grown

  other_place : (k : ℕ) → k < length before.places → k ≢ to → place_at after.places k ≡ place_at now.places k
  other_place k lt other = stepped.others k (omega (arith, lt, longer)) (λ same. other (same ∙ sym is_next))

  -- whether or not the step was the last one
  pub steps_more : AllStepOnce before after
  steps_more k lt =
      ⊎_elim
      (λ (same : k ≡ to).
      let at : place_at now.places to ≡ place_at before.places to = sifted.left to (omega arith) inside in
      let step : StepsOnce now after to = subst (StepsOnce now after) (sym is_next) stepped.steps in
      subst (StepsOnce before after) (sym same) (subst (λ (p : Place). ((place_at after.places to).node ≡ p.node) ⊎ ((0 < (place_at after.places to).node) × ((node_at after.nodes (place_at after.places to).node).parent ≡ p.node))) at step))
      (λ (other : k ≢ to).
      let at = other_place k lt other in
      let up : (node_at after.nodes (place_at now.places k).node).parent ≡ (node_at now.nodes (place_at now.places k).node).parent = ap (λ (m : Node). m.parent) (node_then k) in
      subst (λ (p : Place). (p.node ≡ (place_at before.places k).node) ⊎ ((0 < p.node) × ((node_at after.nodes p.node).parent ≡ (place_at before.places k).node))) (sym at)
      (⊎_elim
      (λ (stays : (place_at now.places k).node ≡ (place_at before.places k).node). inl stays)
      (λ (down : (0 < (place_at now.places k).node) × ((node_at now.nodes (place_at now.places k).node).parent ≡ (place_at before.places k).node)). inr (down.0, up ∙ down.1))
      (sifted.steps k lt)))
      (cases_eq k to)

  pub sifted_more : MovesOn now after (edge.state * now.inputs + edge.letter) → HasSifted ks before (to + 1) after
  sifted_more moves =
      record {
        grown = grown_then ks ks before now after sifted.grown stepped.grown;
        keeps = keeps_and_keeps before now after g sifted.grown.tree stepped.grown.tree sifted.keeps stepped.keeps;
        steps = steps_more;
        left = λ k le lt. other_place k lt (λ same. omega (arith, same, le)) ∙ sifted.left k (omega (arith, le)) lt;
        moved = λ k below lt. ⊎_elim
            (λ (same : k ≡ to). λ is.
            let m = moves (subst (λ (j : ℕ). is_open (node_at after.nodes) (place_at after.places j) ≡ true) (same ∙ is_next) is) in
            let at : place_at now.places to ≡ place_at before.places to = sifted.left to (omega arith) inside in
            let stood : is_open (node_at now.nodes) (place_at now.places to) ≡ true = ap (λ (j : ℕ). is_open (node_at now.nodes) (place_at now.places j)) is_next ∙ m.0 in
            let lower : (place_at now.places to).node < (place_at after.places to).node = subst (λ (j : ℕ). (place_at now.places j).node < (place_at after.places j).node) (sym is_next) m.1 in
            subst (λ (j : ℕ). (is_open (node_at before.nodes) (place_at before.places j) ≡ true) × ((place_at before.places j).node < (place_at after.places j).node)) (sym same)
            (sym (same_open before now to (node_still to) at) ∙ stood, subst (λ (p : Place). p.node < (place_at after.places to).node) at lower))
            (λ (other : k ≢ to). λ is.
            let at = other_place k lt other in
            let m = sifted.moved k (⊎_elim (λ (lt : k < to). lt) (λ (le : to ≤ k). absurd (other (omega (arith, le, below)))) (cases_lt k to)) lt (sym (same_open now after k (node_then k) at) ∙ is) in
            (m.0, subst (λ (p : Place). (place_at before.places k).node < p.node) (sym at) m.1))
            (cases_eq k to);
      }

-- before any transition
pub sifted_none : (ks : List Answer) (t : TreeState) → IsTree t → BranchesAreRead ks t → HasSifted ks t 0 t
sifted_none ks t tree read =
    record { grown = not_grown ks t tree read; keeps = keeps_same t; steps = λ k lt. inl refl; left = λ k le lt. refl; moved = λ k lt. absurd (omega (arith, lt)) }

-- a transition that has not taken its step is as open as before
pub still_open : (ks : List Answer) (before : TreeState) (to : ℕ) (now : TreeState) (k : ℕ) → IsTree before → HasSifted ks before to now → to ≤ k → k < length before.places → is_open (node_at now.nodes) (place_at now.places k) ≡ is_open (node_at before.nodes) (place_at before.places k)
still_open ks before to now k g sifted le lt = same_open before now k (sifted.keeps.nodes (place_at before.places k).node (all_places before (shape_of before g) k).live) (sifted.left k le lt)

-- transitions that have a target stay where they are
pub sifted_past : (ks : List Answer) (before : TreeState) (to upto : ℕ) (now : TreeState) → IsTree before → HasSifted ks before to now → to ≤ upto → ((k : ℕ) → to ≤ k → k < upto → is_open (node_at before.nodes) (place_at before.places k) ≡ false) → HasSifted ks before upto now
sifted_past ks before to upto now g sifted le closed =
    record {
      grown = sifted.grown;
      keeps = sifted.keeps;
      steps = sifted.steps;
      left = λ k ge lt. sifted.left k (omega (arith, ge, le)) lt;
      moved = λ k below lt. ⊎_elim
          (λ (done : k < to). sifted.moved k done lt)
          (λ (past : to ≤ k). λ is. absurd (true≢false (sym is ∙ (still_open ks before to now k g sifted past lt ∙ closed k past below))))
          (cases_lt k to);
    }

-- after all
pub sifted_all : (ks : List Answer) (before : TreeState) (to : ℕ) (now : TreeState) → length before.places ≤ to → HasSifted ks before to now → HasMoved before now
sifted_all ks before to now past sifted k lt = sifted.moved k (omega (arith, lt, past)) lt

-- the words that an open transition is asked by stay the same
pub asked_still : (P : List ℕ → Type 0) (ks : List Answer) (before : TreeState) (to : ℕ) (now : TreeState) (edge : Edge) → IsTree before → HasSifted ks before to now → IsTransition before edge → to ≤ edge.state * before.inputs + edge.letter → edge.state * before.inputs + edge.letter < length before.places → IsAsked P before edge → IsAsked P now edge
asked_still P ks before to now edge g sifted from le inside asked stands =
    let same : edge.state * now.inputs + edge.letter ≡ edge.state * before.inputs + edge.letter = ap (λ (a : ℕ). edge.state * a + edge.letter) sifted.grown.inputs in
    let k : ℕ = edge.state * before.inputs + edge.letter in
    let node = sifted.keeps.nodes (place_at before.places k).node (all_places before (shape_of before g) k).live in
    let at : place_at now.places k ≡ place_at before.places k = sifted.left k le inside in
    let place : place_by now edge ≡ place_by before edge = ap (place_at now.places) same ∙ at in
    let word : word_of now edge ≡ word_of before edge = ap (λ (w : List ℕ). w ++ edge.letter ∷ []) (words_stay ks before now sifted.grown edge.state from.0) in
    let content : content_by now edge ≡ content_by before edge = ap (λ (p : Place). (node_at now.nodes p.node).content) place ∙ ap (λ (m : Node). m.content) node in
    let was : is_open_by before edge ≡ true = sym (same_open before now k node at) ∙ (ap (λ (j : ℕ). is_open (node_at now.nodes) (place_at now.places j)) (sym same) ∙ stands) in
    let r = asked was in
    (subst P (sym word) r.0, subst P (sym (ap₂ (λ (w : List ℕ) (c : Content). w ++ discriminator c) word content)) r.1)
