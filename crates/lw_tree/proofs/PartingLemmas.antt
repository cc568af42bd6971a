-- The steps by which the nodes that are to stand below a block's root are made.
use Rattle.std.proofs.Common.{◌≡◌, ◌≢◌, ◌⊎◌, inl, inr, ⊎_elim, ℕ, ◌+◌, ◌-◌, ◌<◌, ◌≤◌, Bool, true, List, [], ◌∷◌, ◌++◌, length, drop, set, refl, ap, sym, ◌∙◌, subst, subst₂, append_assoc, arith}
use Rattle.std.proofs.lemmas.Bool.{cases_lt, cases_eq}
use Rattle.std.proofs.lemmas.List.{length-append, length-set, get_or-append-add, get_or-set_other}
use Rattle.lw_words.specs.Word.{Answer, AreAnswers, IsWord}
use Rattle.lw_cache.specs.Crowd.{Separates}
use Rattle.lw_cache.specs.Cut.{word_at}
use Rattle.lw_cache.proofs.KnownLemmas.{reads_once}
use Rattle.lw_tree.specs.Tree.{no_node, node_at, leaf_at, discriminator, IsLive, IsInner, IsFinal, HasTwo, Tells, Agrees}
use Rattle.lw_tree.specs.bodies.Nodes.{IsChild}
use Rattle.lw_tree.specs.bodies.Sprouts.{AreBranched, AreStanding, IsSprout, IsOpen, CanPart, HasDescended}
use Rattle.lw_tree.specs.bodies.Steps.{leaf_below, inner_node}
use Rattle.lw_tree.specs.declared.nodes.Node.{Node}
use Rattle.lw_tree.specs.declared.nodes.Content.{Content}
use Rattle.lw_tree.specs.declared.nodes.Content.TheVariants.{State, Discriminator, Gone}
use Rattle.lw_tree.proofs.AboveLemmas.{agrees_child, agrees_still}
use Rattle.lw_tree.proofs.NodeLemmas.{Updates, everywhere, pushed, written, live_within, final_is_inner, two_stay, with_leaf, lowered_keeps, live_was, live_still, lowered_nodes}
use Rattle.lw_tree.proofs.WayLemmas.{KeepsNodes, inner_is_live}

-- the states before a number took their step down from a node; the nodes from the end of those before on stand below it
pub record IsParting (ks : List Answer) (a : ℕ) (access : List (List ℕ)) (start : ℕ) (was : List Node) (before : List ℕ) (next c : ℕ) (word : List ℕ) (upto : ℕ) (nodes : List Node) (leaves : List ℕ) : Type 0 where
  pub standing : AreStanding ks a access start (node_at nodes) (leaf_at leaves)
  pub each : length leaves ≡ length access
  pub lower : c < next
  pub within : next ≤ length was
  pub longer : length was ≤ length nodes
  pub temporary : Bool
  pub content : (node_at nodes c).content ≡ Discriminator word temporary
  pub two : (n : ℕ) → n ≢ c → IsInner (node_at nodes n).content → HasTwo (node_at nodes) n
  pub stood : (q : ℕ) → q < length access → ((node_at nodes (leaf_at leaves q)).content ≡ State q) ⊎ ((next ≤ leaf_at leaves q) ⊎ ((upto ≤ q) × (leaf_at leaves q ≡ c)))
  pub unmade : (n : ℕ) → next ≤ n → ¬ IsInner (node_at nodes n).content
  pub children : (n : ℕ) → 0 < n → IsLive (node_at nodes n).content → (node_at nodes n).parent ≡ c → length was ≤ n
  pub parents : (n : ℕ) → length was ≤ n → IsLive (node_at nodes n).content → (node_at nodes n).parent ≡ c
  pub all : (n : ℕ) → start ≤ n → n < length nodes → IsLive (node_at nodes n).content
  pub moved : (q : ℕ) → q < upto → q < length access → leaf_at before q ≡ c → (length was ≤ leaf_at leaves q) × Tells ks (word_at access q) word (node_at nodes (leaf_at leaves q)).branch

not_state : (c : Content) (word : List ℕ) (temporary : Bool) (q : ℕ) → c ≡ Discriminator word temporary → c ≡ State q → ⊥
not_state c word temporary q one other = elim (subst IsInner (sym one ∙ other) tt) [ ]

pub parting_start : (ks : List Answer) (a : ℕ) (access : List (List ℕ)) (start : ℕ) (nodes : List Node) (leaves : List ℕ) (next c : ℕ) (word : List ℕ) → IsOpen ks a access start nodes leaves next c word → IsParting ks a access start nodes leaves next c word 0 nodes leaves
parting_start ks a access start nodes leaves next c word o =
    record {
      standing = o.standing;
      each = o.each;
      lower = o.before;
      within = o.within;
      longer = omega arith;
      temporary = o.temporary;
      content = o.content;
      two = o.two;
      stood = λ q lt. ⊎_elim
          (λ (settled : (node_at nodes (leaf_at leaves q)).content ≡ State q). inl settled)
          (λ (other : (next ≤ leaf_at leaves q) ⊎ (leaf_at leaves q ≡ c)). inr (⊎_elim (λ (later : next ≤ leaf_at leaves q). inl later) (λ (here : leaf_at leaves q ≡ c). inr (omega arith, here)) other))
          (o.stood q lt);
      unmade = o.unmade;
      children = λ n some live up. absurd (o.childless n some live up);
      parents = λ n past live. let lt = live_within nodes n live in absurd (omega (arith, lt, past));
      all = o.all;
      moved = λ q lt. absurd (omega (arith, lt));
    }

module _ (ks : List Answer) (a : ℕ) (access : List (List ℕ)) (start : ℕ) (was : List Node) (before : List ℕ) (next c : ℕ) (word : List ℕ) (upto : ℕ) (nodes : List Node) (leaves : List ℕ) (P : IsParting ks a access start was before next c word upto nodes leaves) where
  -- a state that stands elsewhere stays
  pub parting_skip : leaf_at leaves upto ≡ leaf_at before upto → leaf_at leaves upto ≢ c → IsParting ks a access start was before next c word (upto + 1) nodes leaves
  parting_skip same other =
      record {
        standing = P.standing;
        each = P.each;
        lower = P.lower;
        within = P.within;
        longer = P.longer;
        temporary = P.temporary;
        content = P.content;
        two = P.two;
        stood = λ q lt. ⊎_elim
            (λ (settled : (node_at nodes (leaf_at leaves q)).content ≡ State q). inl settled)
            (λ (more : (next ≤ leaf_at leaves q) ⊎ ((upto ≤ q) × (leaf_at leaves q ≡ c))).
            inr (⊎_elim (λ (later : next ≤ leaf_at leaves q). inl later)
            (λ (here : (upto ≤ q) × (leaf_at leaves q ≡ c)).
            let le = here.0 in
            ⊎_elim (λ (is : q ≡ upto). absurd (other (ap (leaf_at leaves) (sym is) ∙ here.1)))
            (λ (not : q ≢ upto). inr (⊎_elim (λ (lt : upto < q). omega (arith, lt)) (λ (ge : q ≤ upto). absurd (not (omega (arith, ge, le)))) (cases_lt upto q), here.1))
            (cases_eq q upto))
            more))
            (P.stood q lt);
        unmade = P.unmade;
        children = P.children;
        parents = P.parents;
        all = P.all;
        moved = λ q lt inside there. ⊎_elim
            (λ (old : q < upto). P.moved q old inside there)
            (λ (ge : upto ≤ q). let is : q ≡ upto = omega (arith, lt, ge) in absurd (other (same ∙ (ap (leaf_at before) (sym is) ∙ there))))
            (cases_lt q upto);
      }

  -- a state takes its step to a node below, which is new or was there
  module _ (later : List Node) (m : ℕ) (branch : List ℕ) (shape : AreBranched a (node_at later)) (stays : (n : ℕ) → IsLive (node_at nodes n).content → node_at later n ≡ node_at nodes n)
      (new : (n : ℕ) → IsLive (node_at later n).content → IsLive (node_at nodes n).content ⊎ ((n ≡ m) × (length was ≤ n) × (node_at later n ≡ leaf_below c branch upto))) (m_live : IsLive (node_at later m).content) (m_parent : (node_at later m).parent ≡ c) (m_branch : (node_at later m).branch ≡ branch)
      (m_past : length was ≤ m) (inside : upto < length access) (here : leaf_at leaves upto ≡ c) (tells : Tells ks (word_at access upto) word branch) (longer : length nodes ≤ length later) (all : (n : ℕ) → start ≤ n → n < length later → IsLive (node_at later n).content) where
    now : ℕ → Node
    now = node_at later

    stand : ℕ → ℕ
    stand = leaf_at (set leaves upto m)

    update : Updates (leaf_at leaves) (leaf_at (set leaves upto m)) upto m
    update = written leaves upto m 0 (omega (arith, inside, P.each))

    keeps : KeepsNodes (node_at nodes) (node_at later)
    keeps = record {
      parent = λ n live. ap (λ (k : Node). k.parent) (stays n live);
      branch = λ n live. ap (λ (k : Node). k.branch) (stays n live);
      inner = λ n is. ap (λ (k : Node). k.content) (stays n (inner_is_live (node_at nodes n).content is));
    }

    c_live : IsLive (node_at nodes c).content
    c_live = subst IsLive (sym P.content) tt

    content_now : (node_at later c).content ≡ Discriminator word P.temporary
    content_now = ap (λ (k : Node). k.content) (stays c c_live) ∙ P.content

    some : 0 < m
    some = let l = P.lower in let w = P.within in omega (arith, l, w, m_past)

    agrees_here : Agrees ks (node_at later) (word_at access upto) m
    agrees_here =
        let was_agreed : Agrees ks (node_at nodes) (word_at access upto) c = subst (λ (k : ℕ). Agrees ks (node_at nodes) (word_at access upto) k) here (P.standing.agrees upto inside) in
        let content : discriminator (node_at later (node_at later m).parent).content ≡ word = ap (λ (p : ℕ). discriminator (node_at later p).content) m_parent ∙ ap discriminator content_now in
        agrees_child (node_at later) shape.branches ks (word_at access upto) m some m_live
        (subst (λ (k : ℕ). Agrees ks (node_at later) (word_at access upto) k) (sym m_parent) (agrees_still (node_at nodes) (node_at later) P.standing.shape.branches keeps ks (word_at access upto) c c_live was_agreed))
        (subst (λ (d : List ℕ). Tells ks (word_at access upto) d (node_at later m).branch) (sym content) (subst (λ (x : List ℕ). Tells ks (word_at access upto) word x) (sym m_branch) tells))

    -- the leaf of a state isn't the one that moves
    old_state : (n p : ℕ) → (node_at nodes n).content ≡ State p → p ≢ upto
    old_state n p is same =
        let at : leaf_at leaves p ≡ n = (P.standing.states n p is).1 in
        let is_c : n ≡ c = sym at ∙ (ap (leaf_at leaves) same ∙ here) in
        not_state (node_at nodes c).content word P.temporary p P.content (ap (λ (k : ℕ). (node_at nodes k).content) (sym is_c) ∙ is)

    state_live : (c : Content) (q : ℕ) → c ≡ State q → IsLive c
    state_live c q is = subst IsLive (sym is) tt

    states : (n p : ℕ) → (node_at later n).content ≡ State p → (p < length access) × (leaf_at (set leaves upto m) p ≡ n)
    states n p is =
        ⊎_elim
        (λ (old : IsLive (node_at nodes n).content).
        let content : (node_at nodes n).content ≡ State p = ap (λ (k : Node). k.content) (sym (stays n old)) ∙ is in
        let r = P.standing.states n p content in
        (r.0, update.others p (old_state n p content) ∙ r.1))
        (λ (fresh : (n ≡ m) × (length was ≤ n) × (node_at later n ≡ leaf_below c branch upto)).
        let same : State upto ≡ State p = sym (ap (λ (k : Node). k.content) fresh.2) ∙ is in
        let at : upto ≡ p = ap state_number same in
        (subst (λ (k : ℕ). k < length access) at inside, ap (leaf_at (set leaves upto m)) (sym at) ∙ (update.here ∙ sym fresh.0)))
        (new n (state_live (node_at later n).content p is))
      where
        state_number : Content → ℕ
        state_number (State q) = q
        state_number (Discriminator w t) = 0
        state_number Gone = 0

    live_too : (n : ℕ) → IsLive (node_at nodes n).content → IsLive (node_at later n).content
    live_too n live = subst (λ (k : Node). IsLive k.content) (sym (stays n live)) live

    standing : AreStanding ks a access start (node_at later) (leaf_at (set leaves upto m))
    standing =
        record {
          shape = shape;
          states = states;
          live = everywhere (leaf_at leaves) (leaf_at (set leaves upto m)) upto m (λ q n. q < length access → IsLive (node_at later n).content) update (λ lt. m_live) (λ q other lt. live_too (leaf_at leaves q) (P.standing.live q lt));
          agrees = everywhere (leaf_at leaves) (leaf_at (set leaves upto m)) upto m (λ q n. q < length access → Agrees ks (node_at later) (word_at access q) n) update (λ lt. agrees_here)
              (λ q other lt. agrees_still (node_at nodes) (node_at later) P.standing.shape.branches keeps ks (word_at access q) (leaf_at leaves q) (P.standing.live q lt) (P.standing.agrees q lt));
          plain = λ n past is. ⊎_elim
              (λ (old : IsLive (node_at nodes n).content). P.standing.plain n past (subst (λ (k : Node). IsFinal k.content) (stays n old) is))
              (λ (fresh : (n ≡ m) × (length was ≤ n) × (node_at later n ≡ leaf_below c branch upto)). elim (subst (λ (k : Node). IsFinal k.content) fresh.2 is) [ ])
              (new n (inner_is_live (node_at later n).content (final_is_inner (node_at later n).content is)));
        }

    inner_old : (n : ℕ) → IsInner (node_at later n).content → IsInner (node_at nodes n).content
    inner_old n is =
        ⊎_elim
        (λ (old : IsLive (node_at nodes n).content). subst (λ (k : Node). IsInner k.content) (stays n old) is)
        (λ (fresh : (n ≡ m) × (length was ≤ n) × (node_at later n ≡ leaf_below c branch upto)). elim (subst (λ (k : Node). IsInner k.content) fresh.2 is) [ ])
        (new n (inner_is_live (node_at later n).content is))

    pub parting_moves : IsParting ks a access start was before next c word (upto + 1) later (set leaves upto m)
    parting_moves =
        record {
          standing = standing;
          each = length-set leaves upto m ∙ P.each;
          lower = P.lower;
          within = P.within;
          longer = (let l = P.longer in omega (arith, l, longer));
          temporary = P.temporary;
          content = content_now;
          two = λ n other is. two_stay (node_at nodes) (node_at later) live_too keeps.parent n (P.two n other (inner_old n is));
          stood = everywhere (leaf_at leaves) (leaf_at (set leaves upto m)) upto m (λ q n. q < length access → ((node_at later n).content ≡ State q) ⊎ ((next ≤ n) ⊎ ((upto + 1 ≤ q) × (n ≡ c)))) update
              (λ lt. inr (inl (let w = P.within in omega (arith, w, m_past))))
              (λ q other lt. ⊎_elim
              (λ (settled : (node_at nodes (leaf_at leaves q)).content ≡ State q). inl (ap (λ (k : Node). k.content) (stays (leaf_at leaves q) (P.standing.live q lt)) ∙ settled))
              (λ (rest : (next ≤ leaf_at leaves q) ⊎ ((upto ≤ q) × (leaf_at leaves q ≡ c))).
              inr (⊎_elim (λ (behind : next ≤ leaf_at leaves q). inl behind)
              (λ (at : (upto ≤ q) × (leaf_at leaves q ≡ c)).
              let le = at.0 in
              inr (⊎_elim (λ (gt : upto < q). omega (arith, gt)) (λ (ge : q ≤ upto). absurd (other (omega (arith, ge, le)))) (cases_lt upto q), at.1))
              rest))
              (P.stood q lt));
          unmade = λ n past is. P.unmade n past (inner_old n is);
          children = λ n some live up. ⊎_elim
              (λ (old : IsLive (node_at nodes n).content). P.children n some old (sym (keeps.parent n old) ∙ up))
              (λ (fresh : (n ≡ m) × (length was ≤ n) × (node_at later n ≡ leaf_below c branch upto)). fresh.1)
              (new n live);
          parents = λ n past live. ⊎_elim
              (λ (old : IsLive (node_at nodes n).content). keeps.parent n old ∙ P.parents n past old)
              (λ (fresh : (n ≡ m) × (length was ≤ n) × (node_at later n ≡ leaf_below c branch upto)). ap (λ (k : Node). k.parent) fresh.2)
              (new n live);
          all = all;
          moved = everywhere (leaf_at leaves) (leaf_at (set leaves upto m)) upto m (λ q n. q < upto + 1 → q < length access → leaf_at before q ≡ c → (length was ≤ n) × Tells ks (word_at access q) word (node_at later n).branch) update
              (λ lt ins there. (m_past, subst (λ (x : List ℕ). Tells ks (word_at access upto) word x) (sym m_branch) tells))
              (λ q other lt ins there.
              let less : q < upto = ⊎_elim (λ (l : q < upto). l) (λ (ge : upto ≤ q). absurd (other (omega (arith, ge, lt)))) (cases_lt q upto) in
              let r = P.moved q less ins there in
              (r.0, subst (λ (x : List ℕ). Tells ks (word_at access q) word x) (sym (keeps.branch (leaf_at leaves q) (P.standing.live q ins))) r.1));
        }

  -- to a node that was there
  pub parting_old : (m : ℕ) (branch : List ℕ) → upto < length access → leaf_at leaves upto ≡ c → Tells ks (word_at access upto) word branch → length was ≤ m → IsLive (node_at nodes m).content → (node_at nodes m).branch ≡ branch → IsParting ks a access start was before next c word (upto + 1) nodes (set leaves upto m)
  parting_old m branch inside here tells past live is = parting_moves nodes m branch P.standing.shape (λ n l. refl) (λ n l. inl l) live (P.parents m past live) is past inside here tells (omega arith) P.all

  -- to a new one
  pub parting_new : (branch : List ℕ) → upto < length access → leaf_at leaves upto ≡ c → Tells ks (word_at access upto) word branch → length branch ≡ length word → ((n : ℕ) → length was ≤ n → IsLive (node_at nodes n).content → (node_at nodes n).branch ≢ branch)
      → IsParting ks a access start was before next c word (upto + 1) (nodes ++ leaf_below c branch upto ∷ []) (set leaves upto (length nodes))
  parting_new branch inside here tells size fresh =
      let leaf : Node = leaf_below c branch upto in
      let update = pushed nodes leaf no_node in
      let inner : IsInner (node_at nodes c).content = subst IsInner (sym P.content) tt in
      let apart : (n : ℕ) → IsChild (node_at nodes) c n → (node_at nodes n).branch ≢ branch = λ n child. fresh n (P.children n child.0 child.1 child.2) child.1 in
      let shape : AreBranched a (node_at (nodes ++ leaf ∷ [])) = with_leaf a (node_at nodes) (node_at (nodes ++ leaf ∷ [])) (length nodes) c branch upto P.standing.shape update (live_within nodes) inner (size ∙ ap (λ (k : Content). length (discriminator k)) (sym P.content)) apart in
      parting_moves (nodes ++ leaf ∷ []) (length nodes) branch shape
      (λ n live. update.others n (λ same. let lt = live_within nodes n live in omega (arith, same, lt)))
      (λ n live. ⊎_elim (λ (same : n ≡ length nodes). inr (same, (let l = P.longer in omega (arith, same, l)), ap (node_at (nodes ++ leaf ∷ [])) same ∙ update.here)) (λ (other : n ≢ length nodes). inl (subst (λ (k : Node). IsLive k.content) (update.others n other) live)) (cases_eq n (length nodes)))
      (subst (λ (k : Node). IsLive k.content) (sym update.here) tt)
      (ap (λ (k : Node). k.parent) update.here)
      (ap (λ (k : Node). k.branch) update.here)
      P.longer inside here tells (let long = length-append nodes (leaf ∷ []) in omega (arith, long))
      (λ n past lt. ⊎_elim
      (λ (same : n ≡ length nodes). subst (λ (k : Node). IsLive k.content) (sym (ap (node_at (nodes ++ leaf ∷ [])) same ∙ update.here)) tt)
      (λ (other : n ≢ length nodes).
      let long = length-append nodes (leaf ∷ []) in
      let less : n < length nodes = ⊎_elim (λ (l : n < length nodes). l) (λ (ge : length nodes ≤ n). absurd (other (omega (arith, ge, lt, long)))) (cases_lt n (length nodes)) in
      subst (λ (k : Node). IsLive k.content) (sym (update.others n other)) (P.all n past less))
      (cases_eq n (length nodes)))

-- outputs that differ
told_differ : (a : ℕ) (ks : List Answer) (word u v x y : List ℕ) → AreAnswers a ks → Separates ks word u v → Tells ks u word x → Tells ks v word y → x ≢ y
told_differ a ks word u v x y are s one other same =
    let first : one.0 ≡ s.one = reads_once a ks (u ++ word) one.0 s.one are one.1 s.one_read in
    let second : other.0 ≡ s.other = reads_once a ks (v ++ word) other.0 s.other are other.1 s.other_read in
    s.differ (ap (drop (length u)) (sym first) ∙ (sym one.2 ∙ (same ∙ (other.2 ∙ ap (drop (length v)) second))))

-- all states took their step
pub parting_done : (ks : List Answer) (a : ℕ) (access : List (List ℕ)) (start : ℕ) (was : List Node) (before : List ℕ) (next c : ℕ) (word : List ℕ) (upto : ℕ) (nodes : List Node) (leaves : List ℕ) → AreAnswers a ks → CanPart ks access before c word → length access ≤ upto → IsParting ks a access start was before next c word upto nodes leaves
    → IsSprout ks a access start nodes leaves next
parting_done ks a access start was before next c word upto nodes leaves are can all P =
    record {
      standing = P.standing;
      each = P.each;
      two = λ n is. ⊎_elim (λ (same : n ≡ c). subst (HasTwo (node_at nodes)) (sym same) of_c) (λ (other : n ≢ c). P.two n other is) (cases_eq n c);
      stood = λ q lt. ⊎_elim
          (λ (settled : (node_at nodes (leaf_at leaves q)).content ≡ State q). inl settled)
          (λ (more : (next ≤ leaf_at leaves q) ⊎ ((upto ≤ q) × (leaf_at leaves q ≡ c))). inr (⊎_elim (λ (later : next ≤ leaf_at leaves q). later) (λ (here : (upto ≤ q) × (leaf_at leaves q ≡ c)). let le = here.0 in absurd (omega (arith, le, lt, all))) more))
          (P.stood q lt);
      unmade = P.unmade;
      all = P.all;
    }
  where
    in_one : can.one < upto
    in_one = let l = can.one_state in omega (arith, l, all)

    in_other : can.other < upto
    in_other = let l = can.other_state in omega (arith, l, all)

    one : (length was ≤ leaf_at leaves can.one) × Tells ks (word_at access can.one) word (node_at nodes (leaf_at leaves can.one)).branch
    one = P.moved can.one in_one can.one_state can.one_there

    other : (length was ≤ leaf_at leaves can.other) × Tells ks (word_at access can.other) word (node_at nodes (leaf_at leaves can.other)).branch
    other = P.moved can.other in_other can.other_state can.other_there

    two_of : (x y : ℕ) → length was ≤ x → x < y → IsLive (node_at nodes x).content → IsLive (node_at nodes y).content → HasTwo (node_at nodes) c
    two_of x y past lt live_x live_y =
        record {
          one = x;
          other = y;
          below = (let l = P.lower in let w = P.within in omega (arith, l, w, past));
          rising = lt;
          one_live = live_x;
          other_live = live_y;
          one_parent = P.parents x past live_x;
          other_parent = P.parents y (omega (arith, past, lt)) live_y;
        }

    of_c : HasTwo (node_at nodes) c
    of_c =
        let x : ℕ = leaf_at leaves can.one in
        let y : ℕ = leaf_at leaves can.other in
        let differ : x ≢ y = λ same. told_differ a ks word (word_at access can.one) (word_at access can.other) (node_at nodes x).branch (node_at nodes y).branch are can.differ one.1 other.1 (ap (λ (k : ℕ). (node_at nodes k).branch) same) in
        ⊎_elim
        (λ (lt : x < y). two_of x y one.0 lt (P.standing.live can.one can.one_state) (P.standing.live can.other can.other_state))
        (λ (ge : y ≤ x). two_of y x other.0 (⊎_elim (λ (lt : y < x). lt) (λ (le : x ≤ y). absurd (differ (omega (arith, ge, le)))) (cases_lt y x)) (P.standing.live can.other can.other_state) (P.standing.live can.one can.one_state))
        (cases_lt x y)

-- a node at which one state stands is its leaf
pub sprout_leaf : (ks : List Answer) (a : ℕ) (access : List (List ℕ)) (start : ℕ) (nodes : List Node) (leaves : List ℕ) (i : ℕ) → IsSprout ks a access start nodes leaves i → ((q : ℕ) → q < length access → leaf_at leaves q ≡ i → (node_at nodes i).content ≡ State q) → IsSprout ks a access start nodes leaves (i + 1)
sprout_leaf ks a access start nodes leaves i s alone =
    record {
      standing = s.standing;
      each = s.each;
      two = s.two;
      stood = λ q lt. ⊎_elim
          (λ (settled : (node_at nodes (leaf_at leaves q)).content ≡ State q). inl settled)
          (λ (le : i ≤ leaf_at leaves q). ⊎_elim
          (λ (here : leaf_at leaves q ≡ i). inl (ap (λ (k : ℕ). (node_at nodes k).content) here ∙ alone q lt here))
          (λ (other : leaf_at leaves q ≢ i). inr (⊎_elim (λ (gt : i < leaf_at leaves q). omega (arith, gt)) (λ (ge : leaf_at leaves q ≤ i). absurd (other (omega (arith, ge, le)))) (cases_lt i (leaf_at leaves q))))
          (cases_eq (leaf_at leaves q) i))
          (s.stood q lt);
      unmade = λ n past. s.unmade n (omega (arith, past));
      all = s.all;
    }

-- a node at which several stand becomes an inner one
pub sprout_opens : (ks : List Answer) (a : ℕ) (access : List (List ℕ)) (start : ℕ) (nodes : List Node) (leaves : List ℕ) (i p : ℕ) (word : List ℕ) → IsSprout ks a access start nodes leaves i → (node_at nodes i).content ≡ State p → IsWord a word → word ≢ [] → IsOpen ks a access start (set nodes i (inner_node (node_at nodes i) word)) leaves (i + 1) i word
sprout_opens ks a access start nodes leaves i p word s leaf letters some_letter =
    record {
      standing = record {
        shape = shape;
        states = λ n q is. ⊎_elim
            (λ (same : n ≡ i). elim (subst IsState (ap (λ (k : Node). k.content) (ap now same ∙ update.here)) (subst IsState (sym is) tt)) [ ])
            (λ (other : n ≢ i). s.standing.states n q (ap (λ (k : Node). k.content) (sym (update.others n other)) ∙ is))
            (cases_eq n i);
        live = λ q lt. live_still a node now i p word s.standing.shape update leaf letters some_letter (leaf_at leaves q) (s.standing.live q lt);
        agrees = λ q lt. agrees_still node now s.standing.shape.branches keeps ks (word_at access q) (leaf_at leaves q) (s.standing.live q lt) (s.standing.agrees q lt);
        plain = λ n past is. ⊎_elim
            (λ (same : n ≡ i). elim (subst (λ (k : Node). IsFinal k.content) (ap now same ∙ update.here) is) [ ])
            (λ (other : n ≢ i). s.standing.plain n past (subst (λ (k : Node). IsFinal k.content) (update.others n other) is))
            (cases_eq n i);
      };
      each = s.each;
      before = omega arith;
      within = (let long = length-set nodes i (inner_node (node_at nodes i) word) in omega (arith, long, inside));
      temporary = true;
      content = ap (λ (k : Node). k.content) update.here;
      two = λ n other is. two_stay node now (live_still a node now i p word s.standing.shape update leaf letters some_letter) keeps.parent n (s.two n (subst (λ (k : Node). IsInner k.content) (update.others n other) is));
      stood = λ q lt. ⊎_elim
          (λ (here : leaf_at leaves q ≡ i). inr (inr here))
          (λ (other : leaf_at leaves q ≢ i). ⊎_elim
          (λ (settled : (node (leaf_at leaves q)).content ≡ State q). inl (ap (λ (k : Node). k.content) (update.others (leaf_at leaves q) other) ∙ settled))
          (λ (le : i ≤ leaf_at leaves q). inr (inl (⊎_elim (λ (gt : i < leaf_at leaves q). omega (arith, gt)) (λ (ge : leaf_at leaves q ≤ i). absurd (other (omega (arith, ge, le)))) (cases_lt i (leaf_at leaves q)))))
          (s.stood q lt))
          (cases_eq (leaf_at leaves q) i);
      unmade = λ n past is. s.unmade n (omega (arith, past)) (subst (λ (k : Node). IsInner k.content) (update.others n (λ same. omega (arith, same, past))) is);
      all = λ n past lt. live_still a node now i p word s.standing.shape update leaf letters some_letter n (s.all n past (let long = length-set nodes i (inner_node (node_at nodes i) word) in omega (arith, long, lt)));
      childless = λ n some live up.
          let was : IsLive (node n).content = live_was a node now i p word s.standing.shape update leaf letters some_letter n live in
          let inner = (s.standing.shape.branches n some was).inner in
          elim (subst IsInner (ap (λ (k : ℕ). (node k).content) (sym (keeps.parent n was) ∙ up) ∙ leaf) inner) [ ];
    }
  where
    node : ℕ → Node
    node = node_at nodes

    now : ℕ → Node
    now = node_at (set nodes i (inner_node (node_at nodes i) word))

    IsState : Content → Type 0
    IsState (State q) = Unit {0}
    IsState (Discriminator w t) = ⊥
    IsState Gone = ⊥

    inside : i < length nodes
    inside = live_within nodes i (subst IsLive (sym leaf) tt)

    update : Updates (node_at nodes) (node_at (set nodes i (inner_node (node_at nodes i) word))) i (inner_node (node_at nodes i) word)
    update = written nodes i (inner_node (node_at nodes i) word) no_node inside

    shape : AreBranched a (node_at (set nodes i (inner_node (node_at nodes i) word)))
    shape = lowered_nodes a (node_at nodes) (node_at (set nodes i (inner_node (node_at nodes i) word))) i p word s.standing.shape update leaf letters some_letter

    keeps : KeepsNodes (node_at nodes) (node_at (set nodes i (inner_node (node_at nodes i) word)))
    keeps = lowered_keeps a (node_at nodes) (node_at (set nodes i (inner_node (node_at nodes i) word))) i p word s.standing.shape update leaf letters some_letter

-- the same, for nodes that stand behind others
pub parting_descends : (ks : List Answer) (a : ℕ) (access : List (List ℕ)) (start : ℕ) (base first : List Node) (before : List ℕ) (next c : ℕ) (word : List ℕ) (upto : ℕ) (nodes : List Node) (leaves : List ℕ) (branch : List ℕ) (later : List Node) (stand : List ℕ) (n front : ℕ)
    → n ≡ length base → front ≡ length first → start ≡ length base → IsParting ks a access start (base ++ first) before next c word upto (base ++ nodes) leaves → upto < length access → leaf_at leaves upto ≡ c → Tells ks (word_at access upto) word branch → length branch ≡ length word → HasDescended n front c branch upto nodes leaves later stand
    → IsParting ks a access start (base ++ first) before next c word (upto + 1) (base ++ later) stand
parting_descends ks a access start base first before next c word upto nodes leaves branch later stand n front is_n is_front is_start P inside here tells size (inl old) =
    let j : ℕ = old.0 in
    let from : front ≤ j = old.1 in
    let lt : j < length nodes = old.2 in
    let first_long = length-append base first in
    let long = length-append base nodes in
    let at : node_at (base ++ nodes) (length base + j) ≡ node_at nodes j = get_or-append-add base nodes j no_node in
    let past : length (base ++ first) ≤ length base + j = omega (arith, first_long, from, is_front) in
    let P_now = parting_old ks a access start (base ++ first) before next c word upto (base ++ nodes) leaves P (length base + j) branch inside here tells past
    (P.all (length base + j) (omega (arith, is_start)) (omega (arith, long, lt))) (ap (λ (k : Node). k.branch) at ∙ old.3) in
    subst₂ (λ (l : List Node) (s : List ℕ). IsParting ks a access start (base ++ first) before next c word (upto + 1) l s) (ap (λ (l : List Node). base ++ l) (sym old.4)) (ap (λ (k : ℕ). set leaves upto (k + j)) (sym is_n) ∙ sym old.5) P_now
parting_descends ks a access start base first before next c word upto nodes leaves branch later stand n front is_n is_front is_start P inside here tells size (inr new) =
    let first_long = length-append base first in
    let long = length-append base nodes in
    let fresh : (k : ℕ) → length (base ++ first) ≤ k → IsLive (node_at (base ++ nodes) k).content → (node_at (base ++ nodes) k).branch ≢ branch =
    λ k past live same.
    let lt = live_within (base ++ nodes) k live in
    let is : k ≡ length base + (k - length base) = omega (arith, past, first_long) in
    new.0 (k - length base) (omega (arith, past, first_long, is_front)) (omega (arith, lt, long, past, first_long)) (ap (λ (m : Node). m.branch) (sym (ap (node_at (base ++ nodes)) is ∙ get_or-append-add base nodes (k - length base) no_node)) ∙ same) in
    let P_now = parting_new ks a access start (base ++ first) before next c word upto (base ++ nodes) leaves P branch inside here tells size fresh in
    subst₂ (λ (l : List Node) (s : List ℕ). IsParting ks a access start (base ++ first) before next c word (upto + 1) l s) (append_assoc base nodes (leaf_below c branch upto ∷ []) ∙ ap (λ (l : List Node). base ++ l) (sym new.1)) (ap (λ (k : ℕ). set leaves upto k) (long ∙ ap (λ (k : ℕ). k + length nodes) (sym is_n)) ∙ sym new.2) P_now

module _ (n front c : ℕ) (branch : List ℕ) (q : ℕ) (nodes : List Node) (leaves : List ℕ) (later : List Node) (stand : List ℕ) where
  pub descended_each : HasDescended n front c branch q nodes leaves later stand → length stand ≡ length leaves
  descended_each (inl old) = ap (λ (l : List ℕ). length l) old.5 ∙ length-set leaves q (n + old.0)
  descended_each (inr new) = ap (λ (l : List ℕ). length l) new.2 ∙ length-set leaves q (n + length nodes)

  pub descended_longer : HasDescended n front c branch q nodes leaves later stand → length nodes ≤ length later
  descended_longer (inl old) = let e : length later ≡ length nodes = ap (λ (l : List Node). length l) old.4 in omega (arith, e)
  descended_longer (inr new) =
      let e : length later ≡ length (nodes ++ leaf_below c branch q ∷ []) = ap (λ (l : List Node). length l) new.1 in
      let long = length-append nodes (leaf_below c branch q ∷ []) in
      omega (arith, e, long)

  pub descended_left : HasDescended n front c branch q nodes leaves later stand → (k : ℕ) → k ≢ q → leaf_at stand k ≡ leaf_at leaves k
  descended_left (inl old) k other = ap (λ (l : List ℕ). leaf_at l k) old.5 ∙ get_or-set_other leaves q k (n + old.0) 0 other
  descended_left (inr new) k other = ap (λ (l : List ℕ). leaf_at l k) new.2 ∙ get_or-set_other leaves q k (n + length nodes) 0 other
