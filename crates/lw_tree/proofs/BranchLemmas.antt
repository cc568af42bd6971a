-- What is known of the words of a tree: that each step leaves it so, and that the access words are apart.
use Rattle.std.proofs.Common.{◌≡◌, ◌≢◌, ◌⊎◌, inl, inr, ⊎_elim, ℕ, zero, suc, ◌+◌, ◌*◌, ◌<◌, ◌≤◌, true, List, [], ◌∷◌, ◌++◌, length, Some, None, refl, ap, ap₂, sym, ◌∙◌, subst, arith}
use Rattle.std.proofs.lemmas.Bool.{cases_lt, cases_eq}
use Rattle.std.proofs.lemmas.List.{map-append}
use Rattle.lw_words.specs.Word.{Answer, answer_of, answers_of, IsWord}
use Rattle.lw_words.specs.declared.kept.KeptAnswer.{KeptAnswer}
use Rattle.lw_cache.specs.Crowd.{IsCrowd}
use Rattle.lw_cache.specs.Cut.{word_at}
use Rattle.lw_cache.proofs.GrowLemmas.{reads_stay}
use Rattle.lw_tree.specs.Laws.{BranchesStay, AccessIsCrowd, NewIsRead}
use Rattle.lw_tree.specs.Tree.{TreeState, no_place, node_at, place_at, leaf_at, edge_at, place_of, IsLive, Tells, Agrees, BranchesAreRead, discriminator, new_tree}
use Rattle.lw_tree.specs.bodies.Steps.{placed, with_place, leaf_below, with_state, IsNextState, lowered, IsNextSplit, split_tree, IsRead}
use Rattle.lw_tree.specs.bodies.Transitions.{IsTransition, word_of, place_by, content_by, is_open_by}
use Rattle.lw_tree.specs.declared.nodes.Node.{Node}
use Rattle.lw_tree.specs.declared.nodes.Content.{Content}
use Rattle.lw_tree.specs.declared.transitions.Place.{Place}
use Rattle.lw_tree.specs.declared.transitions.Edge.{Edge}
use Rattle.lw_tree.proofs.WayLemmas.{still_agrees, agrees_below}
use Rattle.lw_tree.proofs.PartLemmas.{crowd_of_leaves}
use Rattle.lw_tree.proofs.NodeLemmas.{Updates, live_within}
use Rattle.lw_tree.proofs.PlaceLemmas.{one_transition, past_place, unasked_at}
use Rattle.lw_tree.proofs.ShapeLemmas.{IsShaped, shape_of, all_places, place_inside, leaf_live, same_output, place_update, state_nodes, state_keeps, node_update, new_live, word_stays, new_word, new_leaf, leaf_stays, places_update, at_last, state_shape}
use Rattle.lw_tree.proofs.LowerLemmas.{moved_output, moved_here, moved_other, lower_nodes, lower_keeps, leaf_update, new_live as lowered_live, leaf_written, edge_inside, lower_leaf, lower_shape, same_place, split_next, at_discriminator}

-- what was read stays so where answers come
tells_more : (ks more : List Answer) (word suffix outs : List ℕ) → Tells ks word suffix outs → Tells (ks ++ more) word suffix outs
tells_more ks more word suffix outs told = (told.0, reads_stay ks more (word ++ suffix) told.0 told.1, told.2)

pub branches_stay : BranchesStay
branches_stay ks more t read =
    record {
      outs = λ q x y lq lx e. tells_more ks more (word_at t.access q) (x ∷ []) (y ∷ []) (read.outs q x y lq lx e);
      transitions = λ q x lq lx m on. tells_more ks more (word_at t.access q ++ x ∷ []) (discriminator (node_at t.nodes (node_at t.nodes m).parent).content) (node_at t.nodes m).branch (read.transitions q x lq lx m on);
      access = λ q lq m on. tells_more ks more (word_at t.access q) (discriminator (node_at t.nodes (node_at t.nodes m).parent).content) (node_at t.nodes m).branch (read.access q lq m on);
    }

pub branches_more : (before gained now : List KeptAnswer) (t : TreeState) → now ≡ before ++ gained → BranchesAreRead (answers_of before) t → BranchesAreRead (answers_of now) t
branches_more before gained now t grown read = subst (λ (ks : List Answer). BranchesAreRead ks t) (sym (ap answers_of grown ∙ map-append answer_of before gained)) (branches_stay (answers_of before) (answers_of gained) t read)

-- each word agrees with the way to the root, which has no branch
at_root : (ks : List Answer) (node : ℕ → Node) (word : List ℕ) → Agrees ks node word 0
at_root ks node word m on = elim on [ ]

shaped_crowd : (ks : List Answer) (t : TreeState) → IsShaped t → BranchesAreRead ks t → IsCrowd ks t.access
shaped_crowd ks t g read = crowd_of_leaves t.inputs ks (node_at t.nodes) (leaf_at t.leaves) t.access g.nodes g.leaves read.access

pub access_is_crowd : AccessIsCrowd
access_is_crowd ks t g read = shaped_crowd ks t (shape_of t g) read

-- an open transition at another node
module _ (ks : List Answer) (t : TreeState) (edge : Edge) (output n : ℕ) (g : IsShaped t) (from : IsTransition t edge) (stands : is_open_by t edge ≡ true) (below : output < t.outputs) (live : IsLive (node_at t.nodes n).content)
    (read : BranchesAreRead ks t) (out : Tells ks (word_at t.access edge.state) (edge.letter ∷ []) (output ∷ [])) (agrees : Agrees ks (node_at t.nodes) (word_of t edge) n) where
  abbrev placed_tree : TreeState
  placed_tree = with_place t edge output n

  placed_update : Updates (place_at t.places) (place_at placed_tree.places) (edge.state * t.inputs + edge.letter) (placed output n)
  placed_update = place_update t edge output n g from stands below live

  pub placed_read : BranchesAreRead ks placed_tree
  placed_read =
      record {
        outs = λ q x y lq lx e. ⊎_elim
            (λ (same : q * t.inputs + x ≡ edge.state * t.inputs + edge.letter).
            let one = one_transition t.inputs q x edge.state edge.letter lx from.1 same in
            let is : output ≡ y = same_output output y (sym (ap (λ (p : Place). p.output) (ap (place_at placed_tree.places) same ∙ placed_update.here)) ∙ e) in
            subst (λ (p : ℕ). Tells ks (word_at t.access p) (x ∷ []) (y ∷ [])) (sym one.0) (subst (λ (z : ℕ). Tells ks (word_at t.access edge.state) (z ∷ []) (y ∷ [])) (sym one.1) (subst (λ (z : ℕ). Tells ks (word_at t.access edge.state) (edge.letter ∷ []) (z ∷ [])) is out)))
            (λ (other : q * t.inputs + x ≢ edge.state * t.inputs + edge.letter).
            read.outs q x y lq lx (sym (ap (λ (p : Place). p.output) (placed_update.others (q * t.inputs + x) other)) ∙ e))
            (cases_eq (q * t.inputs + x) (edge.state * t.inputs + edge.letter));
        transitions = λ q x lq lx. ⊎_elim
            (λ (same : q * t.inputs + x ≡ edge.state * t.inputs + edge.letter).
            let one = one_transition t.inputs q x edge.state edge.letter lx from.1 same in
            subst (λ (k : ℕ). Agrees ks (node_at t.nodes) (word_at t.access q ++ x ∷ []) k) (sym (ap (λ (p : Place). p.node) (ap (place_at placed_tree.places) same ∙ placed_update.here)))
            (subst (λ (w : List ℕ). Agrees ks (node_at t.nodes) w n) (sym (ap₂ (λ (p z : ℕ). word_at t.access p ++ z ∷ []) one.0 one.1)) agrees))
            (λ (other : q * t.inputs + x ≢ edge.state * t.inputs + edge.letter).
            subst (λ (k : ℕ). Agrees ks (node_at t.nodes) (word_at t.access q ++ x ∷ []) k) (sym (ap (λ (p : Place). p.node) (placed_update.others (q * t.inputs + x) other))) (read.transitions q x lq lx))
            (cases_eq (q * t.inputs + x) (edge.state * t.inputs + edge.letter));
        access = read.access;
      }

-- a new state
module _ (ks : List Answer) (t : TreeState) (edge : Edge) (output : ℕ) (branch : List ℕ) (g : IsShaped t) (next : IsNextState t edge output branch) (read : IsRead ks t edge output branch) where
  abbrev after : TreeState
  after = with_state t edge output branch

  abbrev now : ℕ → Node
  now = node_at after.nodes

  abbrev count : ℕ
  count = length t.access

  abbrev number : ℕ
  number = edge.state * t.inputs + edge.letter

  update : Updates (place_at t.places) (place_at after.places) number (placed output (length t.nodes))
  update = places_update t edge output branch g next

  still : (word : List ℕ) (n : ℕ) → IsLive (node_at t.nodes n).content → Agrees ks (node_at t.nodes) word n → Agrees ks now word n
  still = still_agrees t.inputs (node_at t.nodes) now g.nodes (state_keeps t edge output branch g next) ks

  made : now (length t.nodes) ≡ leaf_below (place_by t edge).node branch count
  made = (node_update t edge output branch g next).here

  -- the new access word agrees with the way to the new leaf
  new_agrees : Agrees ks now (word_of t edge) (length t.nodes)
  new_agrees =
      let live = (all_places t g number).live in
      let up : (now (length t.nodes)).parent ≡ (place_by t edge).node = ap (λ (m : Node). m.parent) made in
      let content : (now (now (length t.nodes)).parent).content ≡ content_by t edge = ap (λ (p : ℕ). (now p).content) up ∙ (state_keeps t edge output branch g next).inner (place_by t edge).node next.inner in
      agrees_below t.inputs now (state_nodes t edge output branch g next) ks (word_of t edge) (length t.nodes) (let lt = live_within t.nodes 0 g.nodes.root in lt) (new_live t edge output branch g next)
      (subst (λ (p : ℕ). Agrees ks now (word_of t edge) p) (sym up) (still (word_of t edge) (place_by t edge).node live (read.branches.transitions edge.state edge.letter next.from.0 next.from.1)))
      (subst (λ (c : Content). Tells ks (word_of t edge) (discriminator c) (now (length t.nodes)).branch) (sym content) (subst (λ (b : List ℕ). Tells ks (word_of t edge) (discriminator (content_by t edge)) b) (sym (ap (λ (m : Node). m.branch) made)) read.outs))

  old_word : (q : ℕ) → q < count → word_at after.access q ≡ word_at t.access q
  old_word = word_stays t edge output branch g next

  -- a transition of the new state stands at the root, and was asked nothing
  new_place : (q x : ℕ) → q ≡ count → x < t.inputs → place_of t.inputs after.places q x ≡ no_place
  new_place q x at lx =
      let past : length t.places ≤ q * t.inputs + x = (let e = g.each_place in let m : q * t.inputs ≡ count * t.inputs = ap (λ (n : ℕ). n * t.inputs) at in omega (arith, e, m)) in
      let inside = place_inside t g edge next.from in
      update.others (q * t.inputs + x) (λ same. omega (arith, same, past, inside)) ∙ past_place t.places (q * t.inputs + x) past

  pub state_read : BranchesAreRead ks after
  state_read =
      record {
        outs = λ q x y lq lx e. ⊎_elim
            (λ (old : q < count). ⊎_elim
            (λ (same : q * t.inputs + x ≡ number).
            let one = one_transition t.inputs q x edge.state edge.letter lx next.from.1 same in
            let is : output ≡ y = same_output output y (sym (ap (λ (p : Place). p.output) (ap (place_at after.places) same ∙ update.here)) ∙ e) in
            subst (λ (w : List ℕ). Tells ks w (x ∷ []) (y ∷ [])) (sym (old_word q old))
            (subst (λ (p : ℕ). Tells ks (word_at t.access p) (x ∷ []) (y ∷ [])) (sym one.0) (subst (λ (z : ℕ). Tells ks (word_at t.access edge.state) (z ∷ []) (y ∷ [])) (sym one.1) (subst (λ (z : ℕ). Tells ks (word_at t.access edge.state) (edge.letter ∷ []) (z ∷ [])) is read.out))))
            (λ (other : q * t.inputs + x ≢ number).
            subst (λ (w : List ℕ). Tells ks w (x ∷ []) (y ∷ [])) (sym (old_word q old)) (read.branches.outs q x y old lx (sym (ap (λ (p : Place). p.output) (update.others (q * t.inputs + x) other)) ∙ e)))
            (cases_eq (q * t.inputs + x) number))
            (λ (ge : count ≤ q). let none : None ≡ Some y = sym (ap (λ (p : Place). p.output) (new_place q x (at_last t edge output branch g next q lq ge) lx)) ∙ e in cc)
            (cases_lt q count);
        transitions = λ q x lq lx. ⊎_elim
            (λ (old : q < count). ⊎_elim
            (λ (same : q * t.inputs + x ≡ number).
            let one = one_transition t.inputs q x edge.state edge.letter lx next.from.1 same in
            subst (λ (k : ℕ). Agrees ks now (word_at after.access q ++ x ∷ []) k) (sym (ap (λ (p : Place). p.node) (ap (place_at after.places) same ∙ update.here)))
            (subst (λ (w : List ℕ). Agrees ks now w (length t.nodes)) (sym (ap (λ (w : List ℕ). w ++ x ∷ []) (old_word q old) ∙ ap₂ (λ (p z : ℕ). word_at t.access p ++ z ∷ []) one.0 one.1)) new_agrees))
            (λ (other : q * t.inputs + x ≢ number).
            subst (λ (k : ℕ). Agrees ks now (word_at after.access q ++ x ∷ []) k) (sym (ap (λ (p : Place). p.node) (update.others (q * t.inputs + x) other)))
            (subst (λ (w : List ℕ). Agrees ks now (w ++ x ∷ []) (place_of t.inputs t.places q x).node) (sym (old_word q old)) (still (word_at t.access q ++ x ∷ []) (place_of t.inputs t.places q x).node (all_places t g (q * t.inputs + x)).live (read.branches.transitions q x old lx))))
            (cases_eq (q * t.inputs + x) number))
            (λ (ge : count ≤ q). subst (λ (p : Place). Agrees ks now (word_at after.access q ++ x ∷ []) p.node) (sym (new_place q x (at_last t edge output branch g next q lq ge) lx)) (at_root ks now (word_at after.access q ++ x ∷ [])))
            (cases_lt q count);
        access = λ q lq. ⊎_elim
            (λ (old : q < count).
            subst (λ (k : ℕ). Agrees ks now (word_at after.access q) k) (sym (leaf_stays t edge output branch g next q old))
            (subst (λ (w : List ℕ). Agrees ks now w (leaf_at t.leaves q)) (sym (old_word q old)) (still (word_at t.access q) (leaf_at t.leaves q) (leaf_live t g q old) (read.branches.access q old))))
            (λ (ge : count ≤ q).
            subst (λ (p : ℕ). Agrees ks now (word_at after.access p) (leaf_at after.leaves p)) (sym (at_last t edge output branch g next q lq ge))
            (subst (λ (k : ℕ). Agrees ks now (word_at after.access count) k) (sym (new_leaf t edge output branch g next)) (subst (λ (w : List ℕ). Agrees ks now w (length t.nodes)) (sym (new_word t edge output branch g next)) new_agrees)))
            (cases_lt q count);
      }

  -- the access words and the word of the transition are apart, whether or not there is room for one state more
  pub next_crowd : IsCrowd ks (t.access ++ word_of t edge ∷ [])
  next_crowd = shaped_crowd ks after (state_shape t edge output branch g next) state_read

-- a leaf that was lowered
module _ (ks : List Answer) (t : TreeState) (q : ℕ) (suffix branch : List ℕ) (g : IsShaped t) (target : q < length t.access) (letters : IsWord t.inputs suffix) (some_letter : suffix ≢ []) (size : length branch ≡ length suffix)
    (read : BranchesAreRead ks t) (told : Tells ks (word_at t.access q) suffix branch) where
  abbrev lower_tree : TreeState
  lower_tree = lowered t q suffix branch

  abbrev then : ℕ → Node
  then = node_at lower_tree.nodes

  abbrev edge_of : Edge
  edge_of = edge_at t.spanning q

  abbrev its_number : ℕ
  its_number = edge_of.state * t.inputs + edge_of.letter

  inside : 0 < q → its_number < length t.places
  inside = edge_inside t q suffix branch g target letters some_letter size

  still_so : (word : List ℕ) (n : ℕ) → IsLive (node_at t.nodes n).content → Agrees ks (node_at t.nodes) word n → Agrees ks then word n
  still_so = still_agrees t.inputs (node_at t.nodes) then g.nodes (lower_keeps t q suffix branch g target letters some_letter size) ks

  made_leaf : then (length t.nodes) ≡ leaf_below (leaf_at t.leaves q) branch q
  made_leaf = (leaf_update t q suffix branch g target letters some_letter size).here

  state_agrees : Agrees ks then (word_at t.access q) (length t.nodes)
  state_agrees =
      let up : (then (length t.nodes)).parent ≡ leaf_at t.leaves q = ap (λ (m : Node). m.parent) made_leaf in
      let content : discriminator (then (then (length t.nodes)).parent).content ≡ suffix = ap (λ (p : ℕ). discriminator (then p).content) up ∙ ap discriminator (lower_leaf t q suffix branch g target letters some_letter size) in
      agrees_below t.inputs then (lower_nodes t q suffix branch g target letters some_letter size) ks (word_at t.access q) (length t.nodes) (live_within t.nodes 0 g.nodes.root) (lowered_live t q suffix branch g target letters some_letter size)
      (subst (λ (p : ℕ). Agrees ks then (word_at t.access q) p) (sym up) (still_so (word_at t.access q) (leaf_at t.leaves q) (leaf_live t g q target) (read.access q target)))
      (subst (λ (d : List ℕ). Tells ks (word_at t.access q) d (then (length t.nodes)).branch) (sym content) (subst (λ (b : List ℕ). Tells ks (word_at t.access q) suffix b) (sym (ap (λ (m : Node). m.branch) made_leaf)) told))

  -- the transition by which the state was reached, and each other one
  transition_agrees : (p x : ℕ) → p < length t.access → x < t.inputs → (q ≡ 0) ⊎ (0 < q) → Agrees ks then (word_at t.access p ++ x ∷ []) (place_of t.inputs lower_tree.places p x).node
  transition_agrees p x lp lx (inl none) =
      subst (λ (k : ℕ). Agrees ks then (word_at t.access p ++ x ∷ []) k) (sym (ap (λ (m : Place). m.node) (moved_other t.inputs t.places edge_of (length t.nodes) q (p * t.inputs + x) inside (λ some. absurd (omega (arith, some, none))))))
      (still_so (word_at t.access p ++ x ∷ []) (place_of t.inputs t.places p x).node (all_places t g (p * t.inputs + x)).live (read.transitions p x lp lx))
  transition_agrees p x lp lx (inr some) =
      ⊎_elim
      (λ (same : p * t.inputs + x ≡ its_number).
      let e = g.edges q some target in
      let one = one_transition t.inputs p x edge_of.state edge_of.letter lx e.small same in
      subst (λ (k : ℕ). Agrees ks then (word_at t.access p ++ x ∷ []) k) (sym (ap (λ (k : ℕ). (place_at lower_tree.places k).node) same ∙ moved_here t.inputs t.places edge_of (length t.nodes) q some (inside some)))
      (subst (λ (w : List ℕ). Agrees ks then w (length t.nodes)) (e.word_is ∙ sym (ap₂ (λ (r z : ℕ). word_at t.access r ++ z ∷ []) one.0 one.1)) state_agrees))
      (λ (other : p * t.inputs + x ≢ its_number).
      subst (λ (k : ℕ). Agrees ks then (word_at t.access p ++ x ∷ []) k) (sym (ap (λ (m : Place). m.node) (moved_other t.inputs t.places edge_of (length t.nodes) q (p * t.inputs + x) inside (λ _. other))))
      (still_so (word_at t.access p ++ x ∷ []) (place_of t.inputs t.places p x).node (all_places t g (p * t.inputs + x)).live (read.transitions p x lp lx)))
      (cases_eq (p * t.inputs + x) its_number)

  zero_or_some : (n : ℕ) → (n ≡ 0) ⊎ (0 < n)
  zero_or_some zero = inl refl
  zero_or_some (suc n) = inr (omega arith)

  pub lower_read : BranchesAreRead ks lower_tree
  lower_read =
      record {
        outs = λ p x y lp lx e. read.outs p x y lp lx (sym (moved_output t.inputs t.places edge_of (length t.nodes) q (p * t.inputs + x) inside) ∙ e);
        transitions = λ p x lp lx. transition_agrees p x lp lx (zero_or_some q);
        access = λ p lp. ⊎_elim
            (λ (same : p ≡ q). subst (λ (r : ℕ). Agrees ks then (word_at t.access r) (leaf_at lower_tree.leaves r)) (sym same) (subst (λ (k : ℕ). Agrees ks then (word_at t.access q) k) (sym (leaf_written t q suffix branch g target letters some_letter size).here) state_agrees))
            (λ (other : p ≢ q). subst (λ (k : ℕ). Agrees ks then (word_at t.access p) k) (sym ((leaf_written t q suffix branch g target letters some_letter size).others p other)) (still_so (word_at t.access p) (leaf_at t.leaves p) (leaf_live t g p lp) (read.access p lp)))
            (cases_eq p q);
      }

-- a leaf that was split
module _ (ks : List Answer) (t : TreeState) (edge : Edge) (output q : ℕ) (suffix old new : List ℕ) (g : IsShaped t) (next : IsNextSplit t edge output q suffix old new) (read : BranchesAreRead ks t) (told_old : Tells ks (word_at t.access q) suffix old) (told_new : Tells ks (word_of t edge) suffix new) where
  abbrev middle : TreeState
  middle = lowered t q suffix old

  middle_shape : IsShaped middle
  middle_shape = lower_shape t q suffix old g next.target next.letters next.some next.old_size

  middle_next : IsNextState middle edge output new
  middle_next = split_next t edge output q suffix old new g next

  middle_read : IsRead ks middle edge output new
  middle_read =
      record {
        branches = lower_read ks t q suffix old g next.target next.letters next.some next.old_size read told_old;
        out = read.outs edge.state edge.letter output next.from.0 next.from.1 next.known;
        outs = subst (λ (c : Content). Tells ks (word_of t edge) (discriminator c) new) (sym (at_discriminator t edge output q suffix old new g next)) told_new;
        same = λ y is. same_output y output (sym is ∙ (ap (λ (p : Place). p.output) (same_place t edge output q suffix old new g next) ∙ next.known));
      }

  pub split_shape : IsShaped (split_tree t edge output q suffix old new)
  split_shape = state_shape middle edge output new middle_shape middle_next

  pub split_read : BranchesAreRead ks (split_tree t edge output q suffix old new)
  split_read = state_read ks middle edge output new middle_shape middle_next middle_read

  pub split_crowd : IsCrowd ks (t.access ++ word_of t edge ∷ [])
  split_crowd = next_crowd ks middle edge output new middle_shape middle_next middle_read

pub new_is_read : NewIsRead
new_is_read ks a b most =
    record {
      outs = λ q x y lq lx e. let none : None ≡ Some y = sym (ap (λ (p : Place). p.output) (unasked_at a (q * a + x))) ∙ e in cc;
      transitions = λ q x lq lx. subst (λ (p : Place). Agrees ks (node_at (new_tree a b most).nodes) (word_at ([] ∷ []) q ++ x ∷ []) p.node) (sym (unasked_at a (q * a + x))) (at_root ks (node_at (new_tree a b most).nodes) (word_at ([] ∷ []) q ++ x ∷ []));
      access = λ q lq. let at : 0 ≡ q = omega (arith, lq) in subst (λ (p : ℕ). Agrees ks (node_at (new_tree a b most).nodes) (word_at ([] ∷ []) p) (leaf_at (0 ∷ []) p)) at (at_root ks (node_at (new_tree a b most).nodes) []);
    }
