-- Trees that are sifted, closed and split: what each call leaves.
use Rattle.std.proofs.Common.{◌≡◌, ◌≢◌, inl, inr, ⊎_elim, ℕ, zero, suc, ◌+◌, ◌*◌, ◌<◌, ◌≤◌, Bool, true, false, true≢false, if◌then◌else◌, List, [], ◌∷◌, ◌++◌, length, set, refl, ap, sym, ◌∙◌, subst, arith, Some, None, Result, Ok, Err, IsErrAnd, append_assoc}
use Rattle.std.specs.Bool.{⊤}
use Rattle.std.proofs.lemmas.Bool.{cases_lt}
use Rattle.std.proofs.lemmas.List.{length-append, length-set}
use Rattle.lw_words.specs.Word.{Answer}
use Rattle.lw_cache.specs.Settling.{OracleState, Leaves, grown_stop}
use Rattle.lw_cache.specs.declared.stops.AskStop.{AskStop}
use Rattle.lw_cache.specs.declared.stops.GrowStop.{GrowStop}
use Rattle.lw_cache.specs.declared.stops.GrowStop.TheVariants.{Ask, Crowd}
use Rattle.lw_cache.specs.Cut.{word_at}
use Rattle.lw_tree.specs.bodies.Transitions.{place_by}
use Rattle.lw_tree.specs.Blocks.{StandsBelow, KeepsOutside, StandsAtItsState, GathersInside, StaysInside, HaveSameOutputs}
use Rattle.lw_tree.specs.Grown.{HasGrown, NodesStay, PlacesDescend, OutputsStay, KeepsTree, TellsCrowd, HasMoved, AllStepOnce, HasLevelled, HasClosed, IsSplit, HasSplit}
use Rattle.lw_tree.specs.Tree.{TreeState, no_node, node_at, leaf_at, place_at, edge_at, IsLive, IsAbove, IsInner, IsTree, BranchesAreRead, is_open, IsClosed, HasOpen, discriminators, final_discriminators, temporaries, is_temporary, words_of, final_words_of}
use Rattle.lw_tree.specs.bodies.Steps.{placed, leaf_below, inner_node, moved_edge, lowered, IsNextState, IsNextSplit, split_tree, refined_once}
use Rattle.lw_tree.specs.declared.nodes.Node.{Node}
use Rattle.lw_tree.specs.declared.nodes.Content.{Content}
use Rattle.lw_tree.specs.declared.nodes.Content.TheVariants.{State, Discriminator}
use Rattle.lw_tree.specs.declared.transitions.Edge.{Edge}
use Rattle.lw_tree.specs.declared.transitions.Place.{Place}
use Rattle.lw_tree.proofs.AboveLemmas.{above_here, above_stays, above_trans}
use Rattle.lw_tree.proofs.ClassLemmas.{temporary_is_inner}
use Rattle.lw_tree.proofs.GrownLemmas.{same_open, still_live, keeps_same, descends_then, state_descends, not_grown, grown_then, no_crowd, access_longer, discriminators_leaf, finals_leaf, temporaries_leaf}
use Rattle.lw_tree.proofs.LowerLemmas.{moved_other, moved_output, length-moved_edge, edge_inside, lower_descends, lower_shape, split_next}
use Rattle.lw_tree.proofs.NodeLemmas.{Updates, everywhere, pushed, written, live_within}
use Rattle.lw_tree.proofs.PlaceLemmas.{inner_open, past_place, set_and_more}
use Rattle.lw_tree.proofs.ShapeLemmas.{IsShaped, shape_of, all_places, place_inside, state_nodes, node_stays, state_place_live}

-- a stop that is handed on
pub handed_stop : {X : Type 0} (stop : GrowStop) (result : Result X GrowStop) → IsErrAnd result (λ e. e ≡ stop) → result ≡ Err stop
handed_stop stop (Ok _) is = elim is [ ]
handed_stop stop (Err e) is = ap Err is

pub handed_leaves : (X : Type 0) {Y : Type 0} (before now : OracleState) (stop : GrowStop) (result : Result Y GrowStop) → Leaves before now (grown_stop {X = X} (Err stop)) → IsErrAnd result (λ e. e ≡ stop) → Leaves before now (grown_stop result)
handed_leaves X {Y} before now stop result leaves is = subst (λ (r : Result Y GrowStop). Leaves before now (grown_stop r)) (sym (handed_stop stop result is)) (of stop leaves)
  where
    of : (s : GrowStop) → Leaves before now (grown_stop {X = X} (Err s)) → Leaves before now (grown_stop {X = Y} (Err s))
    of (Ask a) l = l
    of (Crowd words) l = l

abbrev stop_of : {X : Type 0} → GrowStop → Result X GrowStop → GrowStop
stop_of d (Ok _) = d
stop_of d (Err e) = e

pub crowd_too : {X Y : Type 0} (ks : List Answer) (t : TreeState) (stop : GrowStop) → TellsCrowd {X = X} ks t (Err stop) → TellsCrowd {X = Y} ks t (Err stop)
crowd_too {X} {Y} ks t stop crowd words same = crowd words (ap (λ (r : Result Y GrowStop). Err (stop_of stop r)) same)

pub levelled : (ks : List Answer) (before now : TreeState) (is_left : Bool) → HasGrown ks before now → KeepsTree before now → AllStepOnce before now → (is_left ≡ false → IsClosed now) → (is_left ≡ true → HasOpen now) → HasMoved before now → HasLevelled ks before now (Ok is_left)
levelled ks before now is_left grown keeps steps closed open_left moved = record { grown = grown; keeps = keeps; steps = steps; closed = closed; left = open_left; moved = moved; crowd = λ words told. cc }

pub not_levelled : (ks : List Answer) (before now : TreeState) (stop : GrowStop) (result : Result Bool GrowStop) → HasGrown ks before now → KeepsTree before now → AllStepOnce before now → TellsCrowd {X = ⊤} ks now (Err stop) → IsErrAnd result (λ e. e ≡ stop) → HasLevelled ks before now result
not_levelled ks before now stop result grown keeps steps crowd is =
    subst (HasLevelled ks before now) (sym (handed_stop stop result is)) (record { grown = grown; keeps = keeps; steps = steps; closed = tt; left = tt; moved = tt; crowd = λ words same. crowd words (ap (λ (r : Result Bool GrowStop). Err (stop_of stop r)) same) })

-- a stop of the oracle, or out of memory, before anything was changed
pub stopped_level : (ks : List Answer) (t : TreeState) (stop : AskStop) (result : Result Bool GrowStop) → IsTree t → BranchesAreRead ks t → IsErrAnd result (λ e. e ≡ Ask stop) → HasLevelled ks t t result
stopped_level ks t stop result tree read is = not_levelled ks t t (Ask stop) result (not_grown ks t tree read) (keeps_same t) (λ k lt. inl refl) (no_crowd ks t stop) is

pub has_closed : (ks : List Answer) (before now : TreeState) → HasGrown ks before now → KeepsTree before now → IsClosed now → HasClosed ks before now (Ok tt)
has_closed ks before now grown keeps closed = record { grown = grown; keeps = keeps; closed = closed; crowd = λ words told. cc }

pub not_closed : (ks : List Answer) (before now : TreeState) (stop : GrowStop) (result : Result ⊤ GrowStop) → HasGrown ks before now → KeepsTree before now → TellsCrowd {X = ⊤} ks now (Err stop) → IsErrAnd result (λ e. e ≡ stop) → HasClosed ks before now result
not_closed ks before now stop result grown keeps crowd is = subst (HasClosed ks before now) (sym (handed_stop stop result is)) (record { grown = grown; keeps = keeps; closed = tt; crowd = crowd })

-- what isn't below a final node stays while a tree is closed that was closed before
pub outside_then : (r : ℕ) (word : List ℕ) (t middle now : TreeState) → IsTree t → IsClosed t → is_temporary (node_at t.nodes r).content ≡ true → (node_at middle.nodes r).content ≡ Discriminator word false → KeepsOutside r t middle → KeepsTree middle now → KeepsOutside r t now
outside_then r word t middle now g closed temporary root outside keeps =
    let stays = keeps.nodes r (subst IsLive (sym root) tt) in
    record {
      parent = ap (λ (m : Node). m.parent) stays ∙ outside.parent;
      branch = ap (λ (m : Node). m.branch) stays ∙ outside.branch;
      nodes = λ n other not_below live.
          let was = outside.nodes n other not_below live in
          keeps.nodes n (still_live (node_at middle.nodes n) (node_at t.nodes n) was live) ∙ was;
      places = λ k lt not_below.
          let was = outside.places k lt not_below in
          let target = closed k lt in
          let node = outside.nodes (place_at t.places k).node (at_leaf k target) not_below (g.places k lt).live in
          keeps.targets k (same_open t middle k node was ∙ target) ∙ was;
    }
  where
    at_leaf : (k : ℕ) → is_open (node_at t.nodes) (place_at t.places k) ≡ false → (place_at t.places k).node ≢ r
    at_leaf k target same = true≢false (sym (inner_open (node_at t.nodes) (place_at t.places k) (subst (λ (n : ℕ). IsInner (node_at t.nodes n).content) (sym same) (temporary_is_inner (node_at t.nodes r).content temporary))) ∙ target)

-- a state that a tree has keeps its leaf while the tree grows and no node changes
leaf_still : (middle now : TreeState) → IsTree middle → IsTree now → NodesStay middle now → (q : ℕ) → q < length middle.access → leaf_at now.leaves q ≡ leaf_at middle.leaves q
leaf_still middle now half g stay q lt =
    let was = half.leaves.leaves q lt in
    let same = stay (leaf_at middle.leaves q) (subst IsLive (sym was) tt) in
    (g.leaves.states (leaf_at middle.leaves q) q (ap (λ (m : Node). m.content) same ∙ was)).1

-- what was gathered at a final node stays there or below while the tree is closed
pub inside_then : (r : ℕ) (t middle now : TreeState) → IsTree t → IsTree middle → IsTree now → middle.access ≡ t.access → length t.places ≤ length middle.places → GathersInside r t middle → KeepsTree middle now → StaysInside r t now
inside_then r t middle now g half last access longer gathers keeps =
    record {
      leaves = λ q lt below.
          let there = gathers.leaves q lt below in
          let inside : q < length middle.access = subst (λ (words : List (List ℕ)). q < length words) (sym access) lt in
          let live = subst IsLive (sym (half.leaves.leaves q inside)) tt in
          let same = leaf_still middle now half last keeps.nodes q inside in
          subst (λ (n : ℕ). StandsBelow (node_at now.nodes) r n) (sym same) (there.0, stays r (leaf_at middle.leaves q) live there.1);
      places = λ k lt below.
          let inside : k < length middle.places = omega (arith, lt, longer) in
          let to : ℕ = (place_at middle.places k).node in
          let up = stays r to (half.places k inside).live (above_in k lt below) in
          above_trans (node_at now.nodes) last.nodes.branches r to (place_at now.places k).node (all_places now (shape_of now last) k).live up (keeps.descends k);
    }
  where
    stays : (m n : ℕ) → IsLive (node_at middle.nodes n).content → IsAbove (node_at middle.nodes) m n → IsAbove (node_at now.nodes) m n
    stays = above_stays (node_at middle.nodes) (node_at now.nodes) half.nodes.branches (λ n live. ap (λ (m : Node). m.parent) (keeps.nodes n live))

    above_in : (k : ℕ) → k < length t.places → StandsBelow (node_at t.nodes) r (place_at t.places k).node → IsAbove (node_at middle.nodes) r (place_at middle.places k).node
    above_in k lt below =
        ⊎_elim
        (λ (same : (place_at middle.places k).node ≡ r). subst (λ (n : ℕ). IsAbove (node_at middle.nodes) r n) (sym same) (above_here (node_at middle.nodes) half.nodes.branches r))
        (λ (state : StandsAtItsState t middle k).
        let q : ℕ = state.0 in
        let by = state.1 in
        let there : (place_at t.places k).node ≡ leaf_at t.leaves q = ap (λ (j : ℕ). (place_at t.places j).node) (sym by.2) ∙ (g.edges q by.0 by.1).target in
        subst (λ (n : ℕ). IsAbove (node_at middle.nodes) r n) (sym state.2) (gathers.leaves q by.1 (subst (λ (n : ℕ). StandsBelow (node_at t.nodes) r n) there below)).1)
        (gathers.places k lt below)

-- outputs that are the same stay, as they did
pub outputs_then : (t middle now : TreeState) → HaveSameOutputs t middle → OutputsStay middle now → OutputsStay t now
outputs_then t middle now same stay k y is =
    ⊎_elim
    (λ (lt : k < length t.places). stay k y (same k lt ∙ is))
    (λ (past : length t.places ≤ k). let none : None ≡ Some y = sym (ap (λ (p : Place). p.output) (past_place t.places k past)) ∙ is in cc)
    (cases_lt k (length t.places))

-- a leaf that became temporary is one discriminator more
word_more : (nodes : List Node) (leaf q : ℕ) (suffix : List ℕ) → leaf < length nodes → (node_at nodes leaf).content ≡ State q
    → (front : List (List ℕ)) × (back : List (List ℕ)) × (discriminators nodes ≡ front ++ back) × (discriminators (set nodes leaf (inner_node (node_at nodes leaf) suffix)) ≡ front ++ suffix ∷ back)
word_more [] leaf q suffix lt is = absurd (omega (arith, lt))
word_more (n ∷ nodes) zero q suffix lt is = ([], discriminators nodes, ap (λ (c : Content). words_of c ++ discriminators nodes) is, refl)
word_more (n ∷ nodes) (suc leaf) q suffix lt is =
    let r = word_more nodes leaf q suffix (omega (arith, lt)) is in (
      words_of n.content ++ r.0,
      r.1,
      ap (λ (l : List (List ℕ)). words_of n.content ++ l) r.2 ∙ sym (append_assoc (words_of n.content) r.0 r.1),
      ap (λ (l : List (List ℕ)). words_of n.content ++ l) r.3 ∙ sym (append_assoc (words_of n.content) r.0 (suffix ∷ r.1)),
    )

-- and no final one
same_finals : (nodes : List Node) (leaf q : ℕ) (suffix : List ℕ) → leaf < length nodes → (node_at nodes leaf).content ≡ State q → final_discriminators (set nodes leaf (inner_node (node_at nodes leaf) suffix)) ≡ final_discriminators nodes
same_finals [] leaf q suffix lt is = absurd (omega (arith, lt))
same_finals (n ∷ nodes) zero q suffix lt is = sym (ap (λ (c : Content). final_words_of c ++ final_discriminators nodes) is)
same_finals (n ∷ nodes) (suc leaf) q suffix lt is = ap (λ (l : List (List ℕ)). final_words_of n.content ++ l) (same_finals nodes leaf q suffix (omega (arith, lt)) is)

count_more : (nodes : List Node) (leaf q : ℕ) (suffix : List ℕ) → leaf < length nodes → (node_at nodes leaf).content ≡ State q → temporaries (set nodes leaf (inner_node (node_at nodes leaf) suffix)) ≡ temporaries nodes + 1
count_more [] leaf q suffix lt is = absurd (omega (arith, lt))
count_more (n ∷ nodes) zero q suffix lt is =
    let none : (if is_temporary n.content then 1 else 0) + temporaries nodes ≡ 0 + temporaries nodes = ap (λ (c : Content). (if is_temporary c then 1 else 0) + temporaries nodes) is in
    omega (arith, none)
count_more (n ∷ nodes) (suc leaf) q suffix lt is =
    let r = count_more nodes leaf q suffix (omega (arith, lt)) is in
    omega (arith, r)

module _ (t : TreeState) (edge : Edge) (output q : ℕ) (suffix old new : List ℕ) (g : IsTree t) (next : IsNextSplit t edge output q suffix old new) where
  abbrev leaf : ℕ
  leaf = leaf_at t.leaves q

  abbrev split : TreeState
  split = split_tree t edge output q suffix old new

  abbrev first : List Node
  first = set t.nodes leaf (inner_node (node_at t.nodes leaf) suffix)

  is_leaf : (node_at t.nodes leaf).content ≡ State q
  is_leaf = g.leaves.leaves q next.target

  inside : leaf < length t.nodes
  inside = live_within t.nodes leaf (subst IsLive (sym is_leaf) tt)

  written_leaf : Updates (node_at t.nodes) (node_at first) leaf (inner_node (node_at t.nodes leaf) suffix)
  written_leaf = written t.nodes leaf (inner_node (node_at t.nodes leaf) suffix) no_node inside

  -- the two new leaves come behind all nodes
  old_node : (n : ℕ) → n < length t.nodes → node_at split.nodes n ≡ node_at first n
  old_node n lt =
      let long = length-set t.nodes leaf (inner_node (node_at t.nodes leaf) suffix) in
      let longer = length-append first (leaf_below leaf old q ∷ []) in
      (pushed (first ++ leaf_below leaf old q ∷ []) (leaf_below (place_by (lowered t q suffix old) edge).node new (length t.access)) no_node).others n (λ same. omega (arith, same, longer, long, lt))
      ∙ (pushed first (leaf_below leaf old q) no_node).others n (λ same. omega (arith, same, long, lt))

  split_leaf : node_at split.nodes leaf ≡ inner_node (node_at t.nodes leaf) suffix
  split_leaf = old_node leaf inside ∙ written_leaf.here

  -- just two transitions are put elsewhere, and both stood at the leaf
  split_target : (k : ℕ) → (place_at t.places k).node ≢ leaf → place_at split.places k ≡ place_at t.places k
  split_target k other =
      let reached : Edge = edge_at t.spanning q in
      let moved : List Place = moved_edge t.inputs t.places reached q (length t.nodes) in
      let number : ℕ = edge.state * t.inputs + edge.letter in
      let within : number < length moved = subst (λ (n : ℕ). number < n) (sym (length-moved_edge t.inputs t.places reached (length t.nodes) q)) (place_inside t (shape_of t g) edge next.from) in
      (set_and_more moved number t.inputs (placed output (length (lowered t q suffix old).nodes)) within).others k (λ same. other (ap (λ (n : ℕ). (place_at t.places n).node) same ∙ next.there))
      ∙ moved_other t.inputs t.places reached (length t.nodes) q k (edge_inside t q suffix old (shape_of t g) next.target next.letters next.some next.old_size)
      (λ some same. other (ap (λ (n : ℕ). (place_at t.places n).node) same ∙ (g.edges q some next.target).target))

  middle_shape : IsShaped (lowered t q suffix old)
  middle_shape = lower_shape t q suffix old (shape_of t g) next.target next.letters next.some next.old_size

  middle_next : IsNextState (lowered t q suffix old) edge output new
  middle_next = split_next t edge output q suffix old new (shape_of t g) next

  -- the transition by which the state was reached goes to its new leaf, and the other one to the other
  split_descends : PlacesDescend t split
  split_descends k =
      let middle : TreeState = lowered t q suffix old in
      let from : ℕ = (place_at t.places k).node in
      let to : ℕ = (place_at middle.places k).node in
      let last : ℕ = (place_at split.places k).node in
      let branches = (state_nodes middle edge output new middle_shape middle_next).branches in
      let live = (all_places middle middle_shape k).live in
      let stay : (n : ℕ) → IsLive (node_at middle.nodes n).content → node_at split.nodes n ≡ node_at middle.nodes n = node_stays middle edge output new middle_shape middle_next in
      let up = above_stays (node_at middle.nodes) (node_at split.nodes) middle_shape.nodes.branches (λ n is. ap (λ (m : Node). m.parent) (stay n is)) from to live (lower_descends t q suffix old (shape_of t g) next.target next.letters next.some next.old_size k) in
      above_trans (node_at split.nodes) branches from to last (state_place_live middle edge output new middle_shape middle_next k) up (state_descends middle edge output new middle_shape middle_next k)

  split_outputs : OutputsStay t split
  split_outputs =
      let reached : Edge = edge_at t.spanning q in
      let moved : List Place = moved_edge t.inputs t.places reached q (length t.nodes) in
      let number : ℕ = edge.state * t.inputs + edge.letter in
      let within : number < length moved = subst (λ (n : ℕ). number < n) (sym (length-moved_edge t.inputs t.places reached (length t.nodes) q)) (place_inside t (shape_of t g) edge next.from) in
      everywhere (place_at moved) (place_at split.places) number (placed output (length (lowered t q suffix old).nodes)) (λ k p. (y : ℕ) → (place_at t.places k).output ≡ Some y → p.output ≡ Some y) (set_and_more moved number t.inputs (placed output (length (lowered t q suffix old).nodes)) within)
      (λ y is. sym next.known ∙ is)
      (λ k other y is. moved_output t.inputs t.places reached (length t.nodes) q k (edge_inside t q suffix old (shape_of t g) next.target next.letters next.some next.old_size) ∙ is)

  pub is_split : IsSplit (word_at t.access edge.state ++ edge.letter ∷ []) suffix leaf t split
  is_split =
      let w = word_more t.nodes leaf q suffix inside is_leaf in
      let long = length-append t.access ((word_at t.access edge.state ++ edge.letter ∷ []) ∷ []) in
      record {
        more = [];
        access = refl;
        states = omega (arith, long);
        front = w.0;
        back = w.1;
        discriminators_were = w.2;
        discriminators_are = discriminators_leaf (first ++ leaf_below leaf old q ∷ []) (place_by (lowered t q suffix old) edge).node new (length t.access) ∙ (discriminators_leaf first leaf old q ∙ w.3);
        finals = finals_leaf (first ++ leaf_below leaf old q ∷ []) (place_by (lowered t q suffix old) edge).node new (length t.access) ∙ (finals_leaf first leaf old q ∙ same_finals t.nodes leaf q suffix inside is_leaf);
        temporary = temporaries_leaf (first ++ leaf_below leaf old q ∷ []) (place_by (lowered t q suffix old) edge).node new (length t.access) ∙ (temporaries_leaf first leaf old q ∙ count_more t.nodes leaf q suffix inside is_leaf);
        parent = ap (λ (m : Node). m.parent) split_leaf;
        branch = ap (λ (m : Node). m.branch) split_leaf;
        content = ap (λ (m : Node). m.content) split_leaf;
        nodes = λ n other live. old_node n (live_within t.nodes n live) ∙ written_leaf.others n other;
        targets = λ k other closed. split_target k other;
        descends = split_descends;
        outputs = split_outputs;
      }

-- a split tree that was closed, all or in part
pub split_then : (ks : List Answer) (word suffix : List ℕ) (leaf : ℕ) (t middle now : TreeState) → IsTree t → IsTree middle → IsSplit word suffix leaf t middle → HasGrown ks middle now → KeepsTree middle now → IsSplit word suffix leaf t now
split_then ks word suffix leaf t middle now g half split grown keeps =
    let stays = keeps.nodes leaf (subst IsLive (sym split.content) tt) in
    record {
      more = split.more ++ grown.more;
      access = grown.access ∙ (ap (λ (words : List (List ℕ)). words ++ grown.more) split.access ∙ append_assoc t.access (word ∷ split.more) grown.more);
      states = let s = split.states in let l = access_longer ks middle now grown in omega (arith, s, l);
      front = split.front;
      back = split.back;
      discriminators_were = split.discriminators_were;
      discriminators_are = keeps.discriminators_are ∙ split.discriminators_are;
      finals = keeps.finals ∙ split.finals;
      temporary = keeps.temporary ∙ split.temporary;
      parent = ap (λ (m : Node). m.parent) stays ∙ split.parent;
      branch = ap (λ (m : Node). m.branch) stays ∙ split.branch;
      content = ap (λ (m : Node). m.content) stays ∙ split.content;
      nodes = λ n other live.
          let was = split.nodes n other live in
          keeps.nodes n (still_live (node_at middle.nodes n) (node_at t.nodes n) was live) ∙ was;
      targets = λ k other closed.
          let was = split.targets k other closed in
          let node = split.nodes (place_at t.places k).node other (all_places t (shape_of t g) k).live in
          keeps.targets k (same_open t middle k node was ∙ closed) ∙ was;
      descends = descends_then t middle now half grown.tree keeps.nodes split.descends keeps.descends;
      outputs = λ k y is. keeps.outputs k y (split.outputs k y is);
    }

pub room_to_count : (ks : List Answer) (word suffix : List ℕ) (leaf : ℕ) (t middle now : TreeState) → IsTree t → IsSplit word suffix leaf t middle → middle.refinements ≡ t.refinements → HasGrown ks middle now → KeepsTree middle now → now.refinements + 1 < length now.access
room_to_count ks word suffix leaf t middle now g split same grown keeps =
    let s = split.states in
    let l = access_longer ks middle now grown in
    let r = g.refined in
    let k = keeps.refinements in
    omega (arith, s, l, r, k, same)

pub has_split : (first ks : List Answer) (word suffix : List ℕ) (leaf : ℕ) (t middle now last : TreeState) → IsTree t → HasGrown first t middle → IsSplit word suffix leaf t middle → middle.refinements ≡ t.refinements → HasClosed ks middle now (Ok tt) → last ≡ refined_once now → IsTree last → HasSplit ks word suffix leaf t last (Ok tt)
has_split first ks word suffix leaf t middle now last g one split same done is tree =
    let grown = grown_then first ks t middle now one done.grown in
    let s = split_then ks word suffix leaf t middle now g one.tree split done.grown done.keeps in
    subst (λ (u : TreeState). HasSplit ks word suffix leaf t u (Ok tt)) (sym is)
    (record {
      grown = record { inputs = grown.inputs; outputs = grown.outputs; most = grown.most; more = grown.more; access = grown.access; tree = subst (λ (u : TreeState). IsTree u) is tree; read = record { outs = grown.read.outs; transitions = grown.read.transitions; access = grown.read.access } };
      closed = done.closed;
      split = record {
        more = s.more;
        access = s.access;
        states = s.states;
        front = s.front;
        back = s.back;
        discriminators_were = s.discriminators_were;
        discriminators_are = s.discriminators_are;
        finals = s.finals;
        temporary = s.temporary;
        parent = s.parent;
        branch = s.branch;
        content = s.content;
        nodes = s.nodes;
        targets = s.targets;
        descends = s.descends;
        outputs = s.outputs;
      };
      left = tt;
      refined = ap (λ (n : ℕ). n + 1) (done.keeps.refinements ∙ same);
      refused = tt;
      crowd = λ words told. cc;
    })

-- where the closing was refused
pub not_all_split : (first ks : List Answer) (word suffix : List ℕ) (leaf : ℕ) (t middle now : TreeState) (stop : GrowStop) (result : Result ⊤ GrowStop) → IsTree t → HasGrown first t middle → IsSplit word suffix leaf t middle → middle.refinements ≡ t.refinements → HasClosed ks middle now (Err stop) → IsErrAnd result (λ e. e ≡ stop) → HasSplit ks word suffix leaf t now result
not_all_split first ks word suffix leaf t middle now stop result g one split same done is =
    subst (HasSplit ks word suffix leaf t now) (sym (handed_stop stop result is))
    (record {
      grown = grown_then first ks t middle now one done.grown;
      closed = tt;
      split = tt;
      left = inr (split_then ks word suffix leaf t middle now g one.tree split done.grown done.keeps);
      refined = tt;
      refused = done.keeps.refinements ∙ same;
      crowd = done.crowd;
    })

-- where nothing was split
pub not_split : (ks : List Answer) (word suffix : List ℕ) (leaf : ℕ) (t now : TreeState) (stop : GrowStop) (result : Result ⊤ GrowStop) → HasGrown ks t now → now ≡ t → TellsCrowd {X = ⊤} ks now (Err stop) → IsErrAnd result (λ e. e ≡ stop) → HasSplit ks word suffix leaf t now result
not_split ks word suffix leaf t now stop result grown same crowd is =
    subst (HasSplit ks word suffix leaf t now) (sym (handed_stop stop result is))
    (record { grown = grown; closed = tt; split = tt; left = inl same; refined = tt; refused = ap (λ (u : TreeState). u.refinements) same; crowd = crowd })
