-- A tree whose transitions are in lists, and what each step leaves of that.
use Rattle.std.proofs.Common.{◌≡◌, ◌≢◌, ⊎_elim, ℕ, suc, ◌+◌, ◌*◌, ◌^◌, ◌<◌, ◌≤◌, Bool, true, false, true≢false, ◌||◌, ◌==◌, if◌then◌else◌, List, [], length, replicate, get_or, Option, Some, None, IsSome, option_map, is_none, Result, Ok, Err, IfOk, Vec, refl, ap, sym, ◌∙◌, subst, inl, inr, arith}
use Rattle.std.proofs.Math.Nat.{mul-le-mul_right}
use Rattle.std.proofs.lemmas.Bool.{cases_lt, cases_eq, eq-eqb, ne_eqb, cond-true, cond-false, false_from_ne_true}
use Rattle.std.proofs.lemmas.List.{length-set, length-replicate}
use Rattle.lw_words.specs.Word.{IsWord}
use Rattle.std.specs.declared.alloc.Global.{Global}
use Rattle.lw_words.specs.declared.memory.NoMemory.{NoMemory}
use Rattle.lw_links.specs.Owners.{ListsByOwner, owner_of}
use Rattle.lw_tree.specs.Tree.{TreeState, no_node, no_place, node_at, place_at, leaf_at, edge_at, is_inner, is_open, IsLive, IsTree, IsClosed, HasOpen, new_tree}
use Rattle.lw_tree.specs.bodies.Arrivals.{list_of_content, list_of_place, AreArrivals, AreNewArrivals, IsListedTree, Filed, HasState, HasSplitList, HasSplitState, HasFilled, IsListing, AreOpen}
use Rattle.lw_tree.specs.bodies.Steps.{placed, with_place, leaf_below, with_state, moved_edge, lowered, IsNextSplit, split_tree}
use Rattle.lw_tree.specs.bodies.Transitions.{IsTransition, place_by, is_open_by}
use Rattle.lw_tree.specs.declared.nodes.Node.{Node}
use Rattle.lw_tree.specs.declared.nodes.Content.{Content}
use Rattle.lw_tree.specs.declared.nodes.Content.TheVariants.{State, Discriminator, Gone}
use Rattle.lw_tree.specs.declared.transitions.Place.{Place}
use Rattle.lw_tree.specs.declared.transitions.Edge.{Edge}
use Rattle.lw_tree.proofs.NodeLemmas.{Updates, pushed, written, live_within}
use Rattle.lw_tree.proofs.PlaceLemmas.{past_place, set_and_more, length-set_and_more, unasked_at}
use Rattle.lw_tree.proofs.ShapeLemmas.{IsShaped, shape_of, all_places, place_inside}
use Rattle.lw_tree.proofs.LowerLemmas.{moved_output, moved_here, moved_other, length-moved_edge, leaf_update, lower_leaf, node_stays, edge_inside, lower_shape}

-- the list of a place, and whether it is open
open_at : (o : Option ℕ) (c : Content) → (is_none o || is_inner c) ≡ true → (if is_none o then 0 else list_of_content c) ≡ 0
open_at None c is = refl
open_at (Some y) (State q) is = absurd (true≢false (sym is))
open_at (Some y) (Discriminator word temporary) is = refl
open_at (Some y) Gone is = refl

closed_at : (o : Option ℕ) (c : Content) → IsLive c → (is_none o || is_inner c) ≡ false → (if is_none o then 0 else list_of_content c) ≢ 0
closed_at None c live is same = true≢false is
closed_at (Some y) (State q) live is same = omega (arith, same)
closed_at (Some y) (Discriminator word temporary) live is same = true≢false is
closed_at (Some y) Gone live is same = elim live [ ]

state_at : (o : Option ℕ) (c : Content) (q : ℕ) → (if is_none o then 0 else list_of_content c) ≡ q + 1 → c ≡ State q
state_at None c q is = absurd (omega (arith, is))
state_at (Some y) (State p) q is = let same : p ≡ q = omega (arith, is) in ap State same
state_at (Some y) (Discriminator word temporary) q is = absurd (omega (arith, is))
state_at (Some y) Gone q is = absurd (omega (arith, is))

known_at : (o : Option ℕ) (c : Content) → IsSome o → (if is_none o then 0 else list_of_content c) ≡ list_of_content c
known_at None c is = absurd (true≢false (sym is))
known_at (Some y) c is = refl

below_at : (c : Content) (n : ℕ) → ((q : ℕ) → c ≡ State q → q < n) → list_of_content c < n + 1
below_at (State q) n few = let lt = few q refl in omega (arith, lt)
below_at (Discriminator word temporary) n few = omega arith
below_at Gone n few = omega arith

below_or : (o : Option ℕ) (c : Content) (n : ℕ) → list_of_content c < n → (if is_none o then 0 else list_of_content c) < n
below_or None c n lt = omega (arith, lt)
below_or (Some y) c n lt = lt

-- the list of a place at a node that is as it was
list_same : (node now : ℕ → Node) (p : Place) → now p.node ≡ node p.node → list_of_place now p ≡ list_of_place node p
list_same node now p same = ap (λ (m : Node). if is_none p.output then 0 else list_of_content m.content) same

abbrev some_of : Option ℕ → ℕ
some_of None = 0
some_of (Some x) = x

-- lists for all states that there may be, and their transitions
module _ (t : TreeState) (v : ListsByOwner) (g : IsTree t) (owners : length v.lists ≡ t.most + 1) (cells : v.cells ≡ t.most * t.inputs) where
  pub few_cells : v.cells < 2 ^ 32
  few_cells =
      let most : t.most * t.inputs ≤ 1024 * t.inputs = mul-le-mul_right t.inputs g.most.1 in
      let inputs = g.inputs.1 in
      omega (arith, most, cells, inputs)

  pub places_fit : length t.places ≤ v.cells
  places_fit =
      let more : length t.access * t.inputs ≤ t.most * t.inputs = mul-le-mul_right t.inputs g.few in
      let each = g.each_place in
      omega (arith, more, cells, each)

  pub list_exists : (n : ℕ) → list_of_content (node_at t.nodes n).content < length v.lists
  list_exists n =
      let few = g.few in
      let lt = below_at (node_at t.nodes n).content t.most (λ q is. let below = (g.leaves.states n q is).0 in omega (arith, below, few)) in
      omega (arith, lt, owners)

  pub lists_exist : (k : ℕ) → k < length t.places → list_of_place (node_at t.nodes) (place_at t.places k) < length v.lists
  lists_exist k lt = below_or (place_at t.places k).output (node_at t.nodes (place_at t.places k).node).content (length v.lists) (list_exists (place_at t.places k).node)

  pub nodes_exist : (k : ℕ) → k < length t.places → (place_at t.places k).node < length t.nodes
  nodes_exist k lt = live_within t.nodes (place_at t.places k).node (g.places k lt).live

module _ (t : TreeState) (v : ListsByOwner) (g : IsTree t) (a : AreArrivals t v) where
  pub cells_few : v.cells < 2 ^ 32
  cells_few = few_cells t v g a.owners a.cells

  pub cell_below : (k : ℕ) → k < length t.places → k < v.cells
  cell_below k lt = let fit = places_fit t v g a.owners a.cells in omega (arith, lt, fit)

  pub room_below : length t.access < t.most → length t.places + t.inputs ≤ v.cells
  room_below lt =
      let more : suc (length t.access) * t.inputs ≤ t.most * t.inputs = mul-le-mul_right t.inputs (omega (arith, lt)) in
      let next : suc (length t.access) * t.inputs ≡ length t.access * t.inputs + t.inputs = omega arith in
      let cells = a.cells in
      let each = g.each_place in
      omega (arith, more, next, cells, each)

  pub content_below : (n : ℕ) → list_of_content (node_at t.nodes n).content < length v.lists
  content_below = list_exists t v g a.owners a.cells

  pub open_owner : (edge : Edge) → IsTransition t edge → is_open_by t edge ≡ true → owner_of v (edge.state * t.inputs + edge.letter) ≡ Some 0
  open_owner edge from stands =
      a.listed (edge.state * t.inputs + edge.letter) (place_inside t (shape_of t g) edge from) ∙ ap Some (open_at (place_by t edge).output (node_at t.nodes (place_by t edge).node).content stands)

  -- the transition by which a state was reached leads to it
  pub edge_owner : (q : ℕ) → 0 < q → q < length t.access → owner_of v ((edge_at t.spanning q).state * t.inputs + (edge_at t.spanning q).letter) ≡ Some (q + 1)
  edge_owner q some lt =
      let e = g.edges q some lt in
      let from : IsTransition t (edge_at t.spanning q) = (let before = e.before in omega (arith, before, lt), e.small) in
      let p : Place = place_by t (edge_at t.spanning q) in
      a.listed ((edge_at t.spanning q).state * t.inputs + (edge_at t.spanning q).letter) (place_inside t (shape_of t g) (edge_at t.spanning q) from)
      ∙ ap Some (known_at p.output (node_at t.nodes p.node).content e.known ∙ ap list_of_content (ap (λ (n : ℕ). (node_at t.nodes n).content) e.target ∙ g.leaves.leaves q lt))

  -- and so does one that is to lead to a new state
  pub target_owner : (edge : Edge) (output q : ℕ) (suffix old new : List ℕ) → IsNextSplit t edge output q suffix old new → owner_of v (edge.state * t.inputs + edge.letter) ≡ Some (q + 1)
  target_owner edge output q suffix old new next =
      let p : Place = place_by t edge in
      a.listed (edge.state * t.inputs + edge.letter) (place_inside t (shape_of t g) edge next.from)
      ∙ ap Some (known_at p.output (node_at t.nodes p.node).content (subst (λ (o : Option ℕ). IsSome o) (sym next.known) refl) ∙ ap list_of_content (ap (λ (n : ℕ). (node_at t.nodes n).content) next.there ∙ g.leaves.leaves q next.target))

  inside : (k l : ℕ) → owner_of v k ≡ Some l → k < length t.places
  inside k l is =
      ⊎_elim
      (λ (lt : k < length t.places). lt)
      (λ (past : length t.places ≤ k). let e : None ≡ Some l = sym (a.free k past) ∙ is in absurd cc)
      (cases_lt k (length t.places))

  opened : (k : ℕ) → owner_of v k ≡ Some 0 → is_open (node_at t.nodes) (place_at t.places k) ≡ true
  opened k is = by (is_open (node_at t.nodes) (place_at t.places k)) refl
    where
      list : list_of_place (node_at t.nodes) (place_at t.places k) ≡ 0
      list = ap some_of (sym (a.listed k (inside k 0 is)) ∙ is)

      by : (b : Bool) → is_open (node_at t.nodes) (place_at t.places k) ≡ b → is_open (node_at t.nodes) (place_at t.places k) ≡ true
      by true e = e
      by false e = absurd (closed_at (place_at t.places k).output (node_at t.nodes (place_at t.places k).node).content (all_places t (shape_of t g) k).live e list)

  owned : (k : ℕ) → k < length t.places → is_open (node_at t.nodes) (place_at t.places k) ≡ true → owner_of v k ≡ Some 0
  owned k lt is = a.listed k lt ∙ ap Some (open_at (place_at t.places k).output (node_at t.nodes (place_at t.places k).node).content is)

  pub some_open : (k : ℕ) × (owner_of v k ≡ Some 0) → HasOpen t
  some_open is = (is.0, inside is.0 0 is.1, opened is.0 is.1)

  pub none_open : ((k : ℕ) → owner_of v k ≡ Some 0 → ⊥) → IsClosed t
  none_open none k lt = false_from_ne_true (is_open (node_at t.nodes) (place_at t.places k)) (λ is. none k (owned k lt is))

  pub listing_open : (numbers : List ℕ) → IsListing v numbers → AreOpen t numbers
  listing_open numbers l =
      record {
        within = λ i lt. inside (get_or numbers i 0) 0 (l.only i lt);
        stands = λ i lt. opened (get_or numbers i 0) (l.only i lt);
        each = λ k lt is. l.each k (owned k lt is);
        rising = l.rising;
      }

-- an open transition at another node
module _ (t : TreeState) (v w : ListsByOwner) (edge : Edge) (output n : ℕ) (g : IsTree t) (a : AreArrivals t v) (from : IsTransition t edge) (f : Filed v w (edge.state * t.inputs + edge.letter) (list_of_content (node_at t.nodes n).content)) where
  abbrev placed_number : ℕ
  placed_number = edge.state * t.inputs + edge.letter

  here : placed_number < length t.places
  here = place_inside t (shape_of t g) edge from

  long : length (with_place t edge output n).places ≡ length t.places
  long = length-set t.places placed_number (placed output n)

  update : Updates (place_at t.places) (place_at (with_place t edge output n).places) placed_number (placed output n)
  update = written t.places placed_number (placed output n) no_place here

  abbrev list_in : Place → Option ℕ
  list_in p = Some (list_of_place (node_at t.nodes) p)

  pub placed_listed : AreArrivals (with_place t edge output n) w
  placed_listed =
      record {
        owners = f.size.owners ∙ a.owners;
        cells = f.size.cells ∙ a.cells;
        listed = λ k lt. elim (cases_eq k placed_number) [
          | inl e ↦ f.owner k ∙ (cond-true _ _ _ (eq-eqb k placed_number e) ∙ sym (ap list_in (ap (place_at (with_place t edge output n).places) e ∙ update.here)))
          | inr ne ↦ f.owner k ∙ (cond-false _ _ _ (ne_eqb k placed_number ne) ∙ (a.listed k (omega (arith, lt, long)) ∙ sym (ap list_in (update.others k ne))))
        ];
        free = λ k ge. f.owner k ∙ (cond-false _ _ _ (ne_eqb k placed_number (λ e. omega (arith, e, ge, long, here))) ∙ a.free k (omega (arith, ge, long)));
      }

-- a new state, to which a transition leads
module _ (t : TreeState) (v w : ListsByOwner) (edge : Edge) (output : ℕ) (branch : List ℕ) (g : IsShaped t) (a : AreArrivals t v) (from : IsTransition t edge)
    (h : HasState v w (edge.state * t.inputs + edge.letter) (length t.access + 1) (length t.places) (length t.places + t.inputs)) where
  abbrev state_number : ℕ
  state_number = edge.state * t.inputs + edge.letter

  abbrev grown : TreeState
  grown = with_state t edge output branch

  state_here : state_number < length t.places
  state_here = place_inside t g edge from

  state_places : Updates (place_at t.places) (place_at grown.places) state_number (placed output (length t.nodes))
  state_places = set_and_more t.places state_number t.inputs (placed output (length t.nodes)) state_here

  state_nodes : Updates (node_at t.nodes) (node_at grown.nodes) (length t.nodes) (leaf_below (place_by t edge).node branch (length t.access))
  state_nodes = pushed t.nodes (leaf_below (place_by t edge).node branch (length t.access)) no_node

  still : (k : ℕ) → list_of_place (node_at grown.nodes) (place_at t.places k) ≡ list_of_place (node_at t.nodes) (place_at t.places k)
  still k =
      let lt = live_within t.nodes (place_at t.places k).node (all_places t g k).live in
      list_same (node_at t.nodes) (node_at grown.nodes) (place_at t.places k) (state_nodes.others (place_at t.places k).node (λ e. omega (arith, e, lt)))

  filed_other : (k : ℕ) → k ≢ state_number → owner_of h.middle k ≡ owner_of v k
  filed_other k ne = h.filed.owner k ∙ cond-false _ _ _ (ne_eqb k state_number ne)

  abbrev list_then : Place → Option ℕ
  list_then p = Some (list_of_place (node_at grown.nodes) p)

  at_new : list_of_place (node_at grown.nodes) (placed output (length t.nodes)) ≡ length t.access + 1
  at_new = ap (λ (m : Node). list_of_content m.content) state_nodes.here

  old_listed : (k : ℕ) → k < length t.places → owner_of w k ≡ list_then (place_at grown.places k)
  old_listed k lt = h.added.below k lt ∙ elim (cases_eq k state_number) [
    | inl e ↦ h.filed.owner k ∙ (cond-true _ _ _ (eq-eqb k state_number e) ∙ (ap Some (sym at_new) ∙ sym (ap list_then (ap (place_at grown.places) e ∙ state_places.here))))
    | inr ne ↦ filed_other k ne ∙ (a.listed k lt ∙ (ap Some (sym (still k)) ∙ sym (ap list_then (state_places.others k ne))))
  ]

  new_listed_at : (k : ℕ) → length t.places ≤ k → k < length t.places + t.inputs → owner_of w k ≡ list_then (place_at grown.places k)
  new_listed_at k ge lt =
      h.added.new k ge lt ∙ sym (ap list_then (state_places.others k (λ e. omega (arith, e, ge, state_here)) ∙ past_place t.places k ge))

  state_long : length grown.places ≡ length t.places + t.inputs
  state_long = length-set_and_more t.places state_number t.inputs (placed output (length t.nodes))

  pub state_listed : AreArrivals grown w
  state_listed =
      record {
        owners = h.added.size.owners ∙ (h.filed.size.owners ∙ a.owners);
        cells = h.added.size.cells ∙ (h.filed.size.cells ∙ a.cells);
        listed = λ k lt. ⊎_elim
            (λ (old : k < length t.places). old_listed k old)
            (λ (new : length t.places ≤ k). new_listed_at k new (omega (arith, lt, state_long)))
            (cases_lt k (length t.places));
        free = λ k ge. h.added.above k (omega (arith, ge, state_long)) ∙ (filed_other k (λ e. omega (arith, e, ge, state_here, state_long)) ∙ a.free k (omega (arith, ge, state_long)));
      }

-- a leaf that became an inner node
module _ (t : TreeState) (v w : ListsByOwner) (q : ℕ) (suffix branch : List ℕ) (g : IsShaped t) (a : AreArrivals t v) (target : q < length t.access) (letters : IsWord t.inputs suffix) (some_letter : suffix ≢ []) (size : length branch ≡ length suffix)
    (h : HasSplitList v w q ((edge_at t.spanning q).state * t.inputs + (edge_at t.spanning q).letter)) where
  abbrev low : TreeState
  low = lowered t q suffix branch

  abbrev node : ℕ → Node
  node = node_at t.nodes

  abbrev now : ℕ → Node
  now = node_at low.nodes

  abbrev reached : Edge
  reached = edge_at t.spanning q

  abbrev edge_number : ℕ
  edge_number = reached.state * t.inputs + reached.letter

  abbrev reopens : ℕ → ℕ
  reopens o = if o == q + 1 then 0 else o

  reopens_zero : reopens 0 ≡ 0
  reopens_zero = cond-false _ _ _ (ne_eqb 0 (q + 1) (λ e. omega (arith, e)))

  at_leaf_none : (o : Option ℕ) → reopens (if is_none o then 0 else q + 1) ≡ (if is_none o then 0 else 0)
  at_leaf_none None = reopens_zero
  at_leaf_none (Some y) = cond-true _ _ _ (eq-eqb (q + 1) (q + 1) refl)

  -- where a place that stays belongs
  reopened_list : (k : ℕ) → reopens (list_of_place node (place_at t.places k)) ≡ list_of_place now (place_at t.places k)
  reopened_list k = elim (cases_eq p.node (leaf_at t.leaves q)) [
    | inl e ↦
        let was : (node p.node).content ≡ State q = ap (λ (n : ℕ). (node n).content) e ∙ g.leaves.leaves q target in
        let is : (now p.node).content ≡ Discriminator suffix true = ap (λ (n : ℕ). (now n).content) e ∙ lower_leaf t q suffix branch g target letters some_letter size in
        ap (λ (c : Content). reopens (if is_none p.output then 0 else list_of_content c)) was ∙ (at_leaf_none p.output ∙ sym (ap (λ (c : Content). if is_none p.output then 0 else list_of_content c) is))
    | inr ne ↦
        let lt = live_within t.nodes p.node (all_places t g k).live in
        let same = list_same node now p (node_stays t q suffix branch g target letters some_letter size p.node (λ e. omega (arith, e, lt)) ne) in
        cond-false _ _ _ (ne_eqb (list_of_place node p) (q + 1) (λ e. ne (sym (g.leaves.states p.node q (state_at p.output (node p.node).content q e)).1))) ∙ sym same
  ]
    where
      p : Place
      p = place_at t.places k

  abbrev list_now : Place → Option ℕ
  list_now p = Some (list_of_place now p)

  middle_listed : (k : ℕ) → k < length t.places → owner_of h.middle k ≡ list_now (place_at t.places k)
  middle_listed k lt = h.reopened.owner k ∙ (ap (option_map reopens) (a.listed k lt) ∙ ap Some (reopened_list k))

  middle_free : (k : ℕ) → length t.places ≤ k → owner_of h.middle k ≡ None
  middle_free k ge = h.reopened.owner k ∙ ap (option_map reopens) (a.free k ge)

  edge_within : 0 < q → edge_number < length t.places
  edge_within = edge_inside t q suffix branch g target letters some_letter size

  stays_at : (k : ℕ) → (0 < q → k ≢ edge_number) → place_at low.places k ≡ place_at t.places k
  stays_at k other = moved_other t.inputs t.places reached (length t.nodes) q k edge_within other

  long_low : length low.places ≡ length t.places
  long_low = length-moved_edge t.inputs t.places reached (length t.nodes) q

  -- the transition by which the state was reached leads to it again
  at_edge : 0 < q → list_of_place now (place_at low.places edge_number) ≡ q + 1
  at_edge some =
      let known : IsSome (place_at low.places edge_number).output = subst (λ (o : Option ℕ). IsSome o) (sym (moved_output t.inputs t.places reached (length t.nodes) q edge_number edge_within)) (g.edges q some target).known in
      let there : (place_at low.places edge_number).node ≡ length t.nodes = moved_here t.inputs t.places reached (length t.nodes) q some (edge_within some) in
      known_at (place_at low.places edge_number).output (now (place_at low.places edge_number).node).content known
      ∙ ap list_of_content (ap (λ (n : ℕ). (now n).content) there ∙ ap (λ (m : Node). m.content) (leaf_update t q suffix branch g target letters some_letter size).here)

  first_listed : (k : ℕ) → k < length t.places → q ≡ 0 → owner_of w k ≡ list_now (place_at low.places k)
  first_listed k lt zero_is = ap (λ (u : ListsByOwner). owner_of u k) (h.first zero_is) ∙ (middle_listed k lt ∙ ap list_now (sym (stays_at k (λ some. absurd (omega (arith, some, zero_is))))))

  later_listed : (k : ℕ) → k < length t.places → 0 < q → owner_of w k ≡ list_now (place_at low.places k)
  later_listed k lt some = (h.later some).owner k ∙ elim (cases_eq k edge_number) [
    | inl e ↦ cond-true _ _ _ (eq-eqb k edge_number e) ∙ (ap Some (sym (at_edge some)) ∙ ap (λ (j : ℕ). list_now (place_at low.places j)) (sym e))
    | inr ne ↦ cond-false _ _ _ (ne_eqb k edge_number ne) ∙ (middle_listed k lt ∙ ap list_now (sym (stays_at k (λ some. ne))))
  ]

  free_then : (k : ℕ) → length t.places ≤ k → owner_of w k ≡ None
  free_then k ge = ⊎_elim
      (λ (some : 0 < q). let within = edge_within some in (h.later some).owner k ∙ (cond-false _ _ _ (ne_eqb k edge_number (λ e. omega (arith, e, ge, within))) ∙ middle_free k ge))
      (λ (le : q ≤ 0). ap (λ (u : ListsByOwner). owner_of u k) (h.first (omega (arith, le))) ∙ middle_free k ge)
      (cases_lt 0 q)

  sizes : (length w.lists ≡ length v.lists) × (w.cells ≡ v.cells)
  sizes = ⊎_elim
      (λ (some : 0 < q). ((h.later some).size.owners ∙ h.reopened.size.owners, (h.later some).size.cells ∙ h.reopened.size.cells))
      (λ (le : q ≤ 0).
      let is = h.first (omega (arith, le)) in
      (ap (λ (u : ListsByOwner). length u.lists) is ∙ h.reopened.size.owners, ap (λ (u : ListsByOwner). u.cells) is ∙ h.reopened.size.cells))
      (cases_lt 0 q)

  pub lower_listed : AreArrivals low w
  lower_listed =
      record {
        owners = sizes.0 ∙ a.owners;
        cells = sizes.1 ∙ a.cells;
        listed = λ k lt. ⊎_elim
            (λ (some : 0 < q). later_listed k (omega (arith, lt, long_low)) some)
            (λ (le : q ≤ 0). first_listed k (omega (arith, lt, long_low)) (omega (arith, le)))
            (cases_lt 0 q);
        free = λ k ge. free_then k (omega (arith, ge, long_low));
      }

-- a tree that was split
pub split_listed : (t : TreeState) (v w : ListsByOwner) (edge : Edge) (output q : ℕ) (suffix old new : List ℕ) → IsShaped t → AreArrivals t v → IsNextSplit t edge output q suffix old new
    → HasSplitState v w q ((edge_at t.spanning q).state * t.inputs + (edge_at t.spanning q).letter) (edge.state * t.inputs + edge.letter) (length t.access + 1) (length t.places) (length t.places + t.inputs)
    → AreArrivals (split_tree t edge output q suffix old new) w
split_listed t v w edge output q suffix old new g a next h =
    let low : TreeState = lowered t q suffix old in
    let shape : IsShaped low = lower_shape t q suffix old g next.target next.letters next.some next.old_size in
    let long : length low.places ≡ length t.places = length-moved_edge t.inputs t.places (edge_at t.spanning q) (length t.nodes) q in
    state_listed low h.halfway w edge output new shape (lower_listed t v h.halfway q suffix old g a next.target next.letters next.some next.old_size h.split) next.from
    (subst (λ (n : ℕ). HasState h.halfway w (edge.state * t.inputs + edge.letter) (length t.access + 1) n (n + t.inputs)) (sym long) h.pushed)

pub moved_long : (t : TreeState) (q : ℕ) (edge : Edge) → length (moved_edge t.inputs t.places edge q (length t.nodes)) ≡ length t.places
moved_long t q edge = length-moved_edge t.inputs t.places edge (length t.nodes) q

-- lists that were filled by the places
pub filled_listed : (t : TreeState) (v w : ListsByOwner) → length v.lists ≡ t.most + 1 → v.cells ≡ t.most * t.inputs → HasFilled v w (node_at t.nodes) t.places (length t.places) → AreArrivals t w
filled_listed t v w owners cells f = record { owners = f.size.owners ∙ owners; cells = f.size.cells ∙ cells; listed = f.listed; free = f.free }

-- the lists of a new tree
pub new_is_listed : (a b most : ℕ) (v : ListsByOwner) → AreNewArrivals v most a → AreArrivals (new_tree a b most) v
new_is_listed a b most v n =
    let long : length (replicate a no_place) ≡ a = length-replicate {A = Place} a no_place in
    record {
      owners = n.owners;
      cells = n.cells;
      listed = λ k lt. n.listed k (omega (arith, lt, long)) ∙ sym (ap (λ (p : Place). Some (list_of_place (node_at (new_tree a b most).nodes) p)) (unasked_at a k));
      free = λ k ge. n.free k (omega (arith, ge, long));
    }

pub listed_open : {own t : TreeState} {v : ListsByOwner} → own ≡ t → IsListedTree own v → (result : Result (Vec ℕ Global) NoMemory) → IfOk result (λ numbers. IsListing v numbers.items) → IfOk result (λ numbers. AreOpen t numbers.items)
listed_open {v = v} view listed (Ok numbers) is = subst (λ (u : TreeState). AreOpen u numbers.items) view (listing_open _ v listed.tree listed.arrivals numbers.items is)
listed_open view listed (Err stop) is = tt
