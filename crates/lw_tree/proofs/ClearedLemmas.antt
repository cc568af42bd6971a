-- A tree's nodes once the root of a block is a final node, and what stood below it is gone.
use Rattle.std.proofs.Common.{◌≡◌, ◌≢◌, ◌⊎◌, inl, inr, ⊎_elim, ℕ, zero, suc, ◌<◌, ◌≤◌, Bool, true, false, true≢false, List, [], ◌∷◌, ◌++◌, length, map, if◌then◌else◌, refl, ap, sym, ◌∙◌, subst, subst₂, append-nil, arith}
use Rattle.std.proofs.lemmas.Bool.{cases_lt, cases_eq}
use Rattle.std.proofs.lemmas.List.{length-append, length-set, length-map, get_or-map}
use Rattle.lw_words.specs.Word.{Answer, IsWord}
use Rattle.lw_cache.specs.Cut.{word_at}
use Rattle.lw_tree.specs.Blocks.{IsMember, MayReplace}
use Rattle.lw_tree.specs.Tree.{TreeState, no_node, node_at, leaf_at, discriminator, is_temporary, IsLive, IsInner, IsFinal, IsBranch, HasTail, HasTwo, IsTree, IsOnWayWithin, IsOnWay, Tells, Agrees, BranchesAreRead}
use Rattle.lw_tree.specs.bodies.Sprouts.{IsUnder, mark_at, AreMarks, IsNextMark, lifted, AreBranched, AreStanding, IsOpen, CanPart, IsCleared, cleared, final_node, replaced_root}
use Rattle.lw_tree.specs.declared.nodes.Node.{Node}
use Rattle.lw_tree.specs.declared.nodes.Content.{Content}
use Rattle.lw_tree.specs.declared.nodes.Content.TheVariants.{State, Discriminator, Gone}
use Rattle.lw_tree.proofs.AboveLemmas.{HaveBranches, way_live, above_le, above_trans, way_trans, under_parent, under_child, final_up}
use Rattle.lw_tree.proofs.NodeLemmas.{Updates, everywhere, pushed, written, live_within, final_is_inner, tail_stays}
use Rattle.lw_tree.proofs.WayLemmas.{inner_is_live}

pub marked_or_not : (b : Bool) → (b ≡ true) ⊎ (b ≡ false)
marked_or_not true = inl refl
marked_or_not false = inr refl

-- marks, and the next one behind them
pub next_mark : (node : ℕ → Node) (b : HaveBranches node) (r : ℕ) (marks : List Bool) (mark : Bool) → AreMarks node r marks → IsNextMark marks r (length marks) (node (length marks)) mark → AreMarks node r (marks ++ mark ∷ [])
next_mark node b r marks mark are next =
    record {
      sound = everywhere (mark_at marks) (mark_at (marks ++ mark ∷ [])) (length marks) mark (λ n m. m ≡ true → IsUnder node r n) update
          (λ is.
          let y = next.yes is in
          let lt = y.0 in
          under_child node b r (length marks) (omega (arith, lt)) y.1
          (⊎_elim (λ (same : (node (length marks)).parent ≡ r). inl same) (λ (up : mark_at marks (node (length marks)).parent ≡ true). inr (are.sound (node (length marks)).parent up)) y.2))
          (λ n other is. are.sound n is);
      complete = everywhere (mark_at marks) (mark_at (marks ++ mark ∷ [])) (length marks) mark (λ n m. n < length (marks ++ mark ∷ []) → IsUnder node r n → m ≡ true) update
          (λ lt u.
          let some = u.0 in
          let lower = (b (length marks) (omega (arith, some)) u.1).lower in
          next.no u.0 u.1 (⊎_elim (λ (same : (node (length marks)).parent ≡ r). inl same) (λ (up : IsUnder node r (node (length marks)).parent). inr (are.complete (node (length marks)).parent lower up)) (under_parent node b r (length marks) u)))
          (λ n other lt u.
          let long = length-append marks (mark ∷ []) in
          are.complete n (⊎_elim (λ (less : n < length marks). less) (λ (ge : length marks ≤ n). absurd (other (omega (arith, ge, lt, long)))) (cases_lt n (length marks))) u);
    }
  where
    update : Updates (mark_at marks) (mark_at (marks ++ mark ∷ [])) (length marks) mark
    update = pushed marks mark false

pub no_marks : (node : ℕ → Node) (r : ℕ) → AreMarks node r []
no_marks node r = record { sound = λ n is. absurd (true≢false (sym is)); complete = λ n lt. absurd (omega (arith, lt)) }

-- the cleared list, by number
cleared_parent : (nodes : List Node) (marks : List Bool) (n : ℕ) → (node_at (cleared nodes marks) n).parent ≡ (node_at nodes n).parent
cleared_parent [] marks n = refl
cleared_parent (x ∷ nodes) [] n = refl
cleared_parent (x ∷ nodes) (true ∷ marks) zero = refl
cleared_parent (x ∷ nodes) (true ∷ marks) (suc n) = cleared_parent nodes marks n
cleared_parent (x ∷ nodes) (false ∷ marks) zero = refl
cleared_parent (x ∷ nodes) (false ∷ marks) (suc n) = cleared_parent nodes marks n

cleared_branch : (nodes : List Node) (marks : List Bool) (n : ℕ) → (node_at (cleared nodes marks) n).branch ≡ (node_at nodes n).branch
cleared_branch [] marks n = refl
cleared_branch (x ∷ nodes) [] n = refl
cleared_branch (x ∷ nodes) (true ∷ marks) zero = refl
cleared_branch (x ∷ nodes) (true ∷ marks) (suc n) = cleared_branch nodes marks n
cleared_branch (x ∷ nodes) (false ∷ marks) zero = refl
cleared_branch (x ∷ nodes) (false ∷ marks) (suc n) = cleared_branch nodes marks n

cleared_gone : (nodes : List Node) (marks : List Bool) (n : ℕ) → mark_at marks n ≡ true → (node_at (cleared nodes marks) n).content ≡ Gone
cleared_gone [] marks n is = refl
cleared_gone (x ∷ nodes) [] n is = absurd (true≢false (sym is))
cleared_gone (x ∷ nodes) (true ∷ marks) zero is = refl
cleared_gone (x ∷ nodes) (true ∷ marks) (suc n) is = cleared_gone nodes marks n is
cleared_gone (x ∷ nodes) (false ∷ marks) zero is = absurd (true≢false (sym is))
cleared_gone (x ∷ nodes) (false ∷ marks) (suc n) is = cleared_gone nodes marks n is

cleared_kept : (nodes : List Node) (marks : List Bool) (n : ℕ) → mark_at marks n ≡ false → (node_at (cleared nodes marks) n).content ≡ (node_at nodes n).content
cleared_kept [] marks n is = refl
cleared_kept (x ∷ nodes) [] n is = refl
cleared_kept (x ∷ nodes) (true ∷ marks) zero is = absurd (true≢false is)
cleared_kept (x ∷ nodes) (true ∷ marks) (suc n) is = cleared_kept nodes marks n is
cleared_kept (x ∷ nodes) (false ∷ marks) zero is = refl
cleared_kept (x ∷ nodes) (false ∷ marks) (suc n) is = cleared_kept nodes marks n is

pub cleared_long : (nodes : List Node) (marks : List Bool) → length (cleared nodes marks) ≡ length nodes
cleared_long [] marks = refl
cleared_long (x ∷ nodes) [] = refl
cleared_long (x ∷ nodes) (true ∷ marks) = ap suc (cleared_long nodes marks)
cleared_long (x ∷ nodes) (false ∷ marks) = ap suc (cleared_long nodes marks)

pub replaced_long : (nodes : List Node) (r : ℕ) (word : List ℕ) (marks : List Bool) → length (replaced_root nodes r word marks) ≡ length nodes
replaced_long nodes r word marks = length-set (cleared nodes marks) r (final_node (node_at (cleared nodes marks) r) word) ∙ cleared_long nodes marks

pub replaced_clears : (nodes : List Node) (r : ℕ) (word : List ℕ) (marks : List Bool) → r < length nodes → IsCleared (node_at nodes) (node_at (replaced_root nodes r word marks)) r word marks
replaced_clears nodes r word marks inside =
    record {
      parent = everywhere (node_at (cleared nodes marks)) (node_at (replaced_root nodes r word marks)) r new (λ n m. m.parent ≡ (node_at nodes n).parent) update (cleared_parent nodes marks r) (λ n other. cleared_parent nodes marks n);
      branch = everywhere (node_at (cleared nodes marks)) (node_at (replaced_root nodes r word marks)) r new (λ n m. m.branch ≡ (node_at nodes n).branch) update (cleared_branch nodes marks r) (λ n other. cleared_branch nodes marks n);
      root = ap (λ (m : Node). m.content) update.here;
      gone = λ n other is. ap (λ (m : Node). m.content) (update.others n other) ∙ cleared_gone nodes marks n is;
      kept = λ n other is. ap (λ (m : Node). m.content) (update.others n other) ∙ cleared_kept nodes marks n is;
    }
  where
    new : Node
    new = final_node (node_at (cleared nodes marks) r) word

    update : Updates (node_at (cleared nodes marks)) (node_at (replaced_root nodes r word marks)) r (final_node (node_at (cleared nodes marks) r) word)
    update = written (cleared nodes marks) r (final_node (node_at (cleared nodes marks) r) word) no_node (let long = cleared_long nodes marks in omega (arith, long, inside))

pub lifted_yes : (marks : List Bool) (r n : ℕ) → mark_at marks n ≡ true → lifted marks r n ≡ r
lifted_yes marks r n is = ap (λ (b : Bool). if b then r else n) is

pub lifted_no : (marks : List Bool) (r n : ℕ) → mark_at marks n ≡ false → lifted marks r n ≡ n
lifted_no marks r n is = ap (λ (b : Bool). if b then r else n) is

temporary_inner : (c : Content) → is_temporary c ≡ true → IsInner c × ¬ IsFinal c
temporary_inner (State q) is = absurd (true≢false (sym is))
temporary_inner (Discriminator word true) is = (tt, λ f. elim f [ ])
temporary_inner (Discriminator word false) is = absurd (true≢false (sym is))
temporary_inner Gone is = absurd (true≢false (sym is))

pub temporary_plain : (c : Content) → is_temporary c ≡ true → ¬ IsFinal c
temporary_plain c is = (temporary_inner c is).1

tail_some : (node : ℕ → Node) (word : List ℕ) → HasTail node word → word ≢ []
tail_some node word tail none =
    ⊎_elim
    (λ (one : word ≡ tail.0 ∷ []). let e : [] ≡ tail.0 ∷ [] = sym none ∙ one in cc)
    (λ (more : (n : ℕ) × IsFinal (node n).content × (word ≡ tail.0 ∷ discriminator (node n).content)). let e : [] ≡ tail.0 ∷ discriminator (node more.0).content = sym none ∙ more.2 in cc)
    tail.1

pub block_inside : (ks : List Answer) (t : TreeState) (r : ℕ) (word : List ℕ) → MayReplace ks t r word → r < length t.nodes
block_inside ks t r word may = live_within t.nodes r (inner_is_live (node_at t.nodes r).content (temporary_inner (node_at t.nodes r).content may.block.temporary).0)

module _ (ks : List Answer) (t : TreeState) (r : ℕ) (word : List ℕ) (marks : List Bool) (base : List Node) (g : IsTree t) (may : MayReplace ks t r word) (are : AreMarks (node_at t.nodes) r marks) (each : length marks ≡ length t.nodes)
    (clear : IsCleared (node_at t.nodes) (node_at base) r word marks) where
  abbrev node : ℕ → Node
  node = node_at t.nodes

  abbrev now : ℕ → Node
  now = node_at base

  b : HaveBranches (node_at t.nodes)
  b = g.nodes.branches

  pub r_inner : IsInner (node_at t.nodes r).content
  r_inner = (temporary_inner (node_at t.nodes r).content may.block.temporary).0

  r_lower : ¬ IsFinal (node_at t.nodes r).content
  r_lower = (temporary_inner (node_at t.nodes r).content may.block.temporary).1

  pub r_live : IsLive (node_at t.nodes r).content
  r_live = inner_is_live (node_at t.nodes r).content r_inner

  pub under_marked : (n : ℕ) → IsUnder (node_at t.nodes) r n → mark_at marks n ≡ true
  under_marked n u = are.complete n (let lt = live_within t.nodes n u.1 in omega (arith, lt, each)) u

  unmarked_up_to : (n : ℕ) → n ≤ r → mark_at marks n ≡ false
  unmarked_up_to n le =
      ⊎_elim
      (λ (yes : mark_at marks n ≡ true). let lt = (are.sound n yes).0 in absurd (omega (arith, lt, le)))
      (λ (none : mark_at marks n ≡ false). none)
      (marked_or_not (mark_at marks n))

  pub now_r_live : IsLive (now r).content
  now_r_live = subst IsLive (sym clear.root) tt

  -- a live node is the root, or was so and isn't marked
  live_cases : (n : ℕ) → IsLive (now n).content → (n ≡ r) ⊎ ((n ≢ r) × (mark_at marks n ≡ false) × IsLive (node n).content)
  live_cases n live =
      ⊎_elim
      (λ (same : n ≡ r). inl same)
      (λ (other : n ≢ r). ⊎_elim
      (λ (yes : mark_at marks n ≡ true). elim (subst IsLive (clear.gone n other yes) live) [ ])
      (λ (none : mark_at marks n ≡ false). inr (other, none, subst IsLive (clear.kept n other none) live))
      (marked_or_not (mark_at marks n)))
      (cases_eq n r)

  pub live_was : (n : ℕ) → IsLive (now n).content → IsLive (node n).content
  live_was n live =
      ⊎_elim
      (λ (same : n ≡ r). subst (λ (k : ℕ). IsLive (node k).content) (sym same) r_live)
      (λ (kept : (n ≢ r) × (mark_at marks n ≡ false) × IsLive (node n).content). kept.2)
      (live_cases n live)

  pub live_kept : (n : ℕ) → mark_at marks n ≡ false → IsLive (node n).content → IsLive (now n).content
  live_kept n none live =
      ⊎_elim
      (λ (same : n ≡ r). subst (λ (k : ℕ). IsLive (now k).content) (sym same) now_r_live)
      (λ (other : n ≢ r). subst IsLive (sym (clear.kept n other none)) live)
      (cases_eq n r)

  -- the parent of a node that is kept is no marked one, nor is it the root
  parent_kept : (n : ℕ) → 0 < n → IsLive (node n).content → (n ≡ r) ⊎ (mark_at marks n ≡ false) → ((node n).parent ≢ r) × (mark_at marks (node n).parent ≡ false)
  parent_kept n some live (inl same) =
      let lower = (b n some live).lower in
      (λ e. omega (arith, e, lower, same), unmarked_up_to (node n).parent (omega (arith, lower, same)))
  parent_kept n some live (inr none) = (
    λ e. true≢false (sym (under_marked n (under_child (node_at t.nodes) b r n some live (inl e))) ∙ none),
    ⊎_elim
        (λ (yes : mark_at marks (node n).parent ≡ true). absurd (true≢false (sym (under_marked n (under_child (node_at t.nodes) b r n some live (inr (are.sound (node n).parent yes)))) ∙ none)))
        (λ (other : mark_at marks (node n).parent ≡ false). other)
        (marked_or_not (mark_at marks (node n).parent)),
  )

  is_kept : (n : ℕ) → IsLive (now n).content → (n ≡ r) ⊎ (mark_at marks n ≡ false)
  is_kept n live = ⊎_elim (λ (same : n ≡ r). inl same) (λ (kept : (n ≢ r) × (mark_at marks n ≡ false) × IsLive (node n).content). inr kept.1) (live_cases n live)

  parent_content : (n : ℕ) → 0 < n → IsLive (node n).content → (n ≡ r) ⊎ (mark_at marks n ≡ false) → (now (now n).parent).content ≡ (node (node n).parent).content
  parent_content n some live kept =
      let p = parent_kept n some live kept in
      ap (λ (k : ℕ). (now k).content) (clear.parent n) ∙ clear.kept (node n).parent p.0 p.1

  base_branch : (n : ℕ) → 0 < n → IsLive (now n).content → IsBranch now n
  base_branch n some live =
      let old = live_was n live in
      let was = b n some old in
      let content = parent_content n some old (is_kept n live) in
      record {
        lower = subst (λ (p : ℕ). p < n) (sym (clear.parent n)) was.lower;
        inner = subst IsInner (sym content) was.inner;
        size = ap (λ (l : List ℕ). length l) (clear.branch n) ∙ (was.size ∙ ap (λ (c : Content). length (discriminator c)) (sym content));
        final = λ is. subst IsFinal (sym content)
            (⊎_elim
            (λ (same : n ≡ r). subst (λ (k : ℕ). IsFinal (node (node k).parent).content) (sym same) (may.block.highest (omega (arith, same, some))))
            (λ (kept : (n ≢ r) × (mark_at marks n ≡ false) × IsLive (node n).content). was.final (subst IsFinal (clear.kept n kept.0 kept.1) is))
            (live_cases n live));
      }

  final_kept : (n : ℕ) → IsFinal (node n).content → (n ≢ r) × (mark_at marks n ≡ false)
  final_kept n final = (
    λ same. r_lower (subst (λ (k : ℕ). IsFinal (node k).content) same final),
    ⊎_elim
        (λ (yes : mark_at marks n ≡ true). let u = are.sound n yes in absurd (r_lower (final_up (node_at t.nodes) b r n u.1 u.2 final)))
        (λ (none : mark_at marks n ≡ false). none)
        (marked_or_not (mark_at marks n)),
  )

  tail_kept : (w : List ℕ) → HasTail node w → HasTail now w
  tail_kept w tail = tail_stays node now w (λ n final. let k = final_kept n final in clear.kept n k.0 k.1) tail

  pub base_branched : AreBranched t.inputs now
  base_branched =
      record {
        root = live_kept 0 (unmarked_up_to 0 (omega arith)) g.nodes.root;
        branches = base_branch;
        apart = λ m n some lt live_m live_n up same. g.nodes.apart m n some lt (live_was m live_m) (live_was n live_n) (sym (clear.parent m) ∙ (up ∙ clear.parent n)) (sym (clear.branch m) ∙ (same ∙ clear.branch n));
        words = λ n is. ⊎_elim
            (λ (same : n ≡ r). subst (λ (c : Content). IsWord t.inputs (discriminator c) × (discriminator c ≢ [])) (sym (ap (λ (k : ℕ). (now k).content) same ∙ clear.root)) (may.letters, tail_some node word may.tail))
            (λ (kept : (n ≢ r) × (mark_at marks n ≡ false) × IsLive (node n).content).
            let at = clear.kept n kept.0 kept.1 in
            subst (λ (c : Content). IsWord t.inputs (discriminator c) × (discriminator c ≢ [])) (sym at) (g.nodes.words n (subst IsInner at is)))
            (live_cases n (inner_is_live (now n).content is));
        tails = λ n is. ⊎_elim
            (λ (same : n ≡ r). subst (λ (c : Content). HasTail now (discriminator c)) (sym (ap (λ (k : ℕ). (now k).content) same ∙ clear.root)) (tail_kept word may.tail))
            (λ (kept : (n ≢ r) × (mark_at marks n ≡ false) × IsLive (node n).content).
            let at = clear.kept n kept.0 kept.1 in
            subst (λ (c : Content). HasTail now (discriminator c)) (sym at) (tail_kept (discriminator (node n).content) (g.nodes.tails n (subst IsFinal at is))))
            (live_cases n (inner_is_live (now n).content (final_is_inner (now n).content is)));
      }

  -- the ways are the same, since all parents are
  same_way : (steps m n : ℕ) → IsOnWayWithin steps now m n → IsOnWayWithin steps node m n
  same_way zero m n on = on
  same_way (suc steps) m n on = (
    on.0,
    ⊎_elim
        (λ (here : m ≡ n). inl here)
        (λ (up : IsOnWayWithin steps now m (now n).parent). inr (same_way steps m (node n).parent (subst (IsOnWayWithin steps now m) (clear.parent n) up)))
        on.1,
  )

  -- a word that agreed with the way to a node agrees with that to a node above it that is kept
  agrees_kept : (w : List ℕ) (m : ℕ) → IsLive (node m).content → (m ≡ r) ⊎ (mark_at marks m ≡ false) → Agrees ks node w m → Agrees ks now w m
  agrees_kept w m live kept agrees k on =
      let was : IsOnWay node k m = same_way m k m on in
      let l = way_live (node_at t.nodes) b k m live was in
      let le = l.2 in
      let k_kept : (k ≡ r) ⊎ (mark_at marks k ≡ false) = ⊎_elim
      (λ (yes : mark_at marks k ≡ true).
      let u = are.sound k yes in
      let lt = u.0 in
      let m_under : IsUnder node r m = (omega (arith, lt, le), live, above_trans (node_at t.nodes) b r k m live u.2 (inr was)) in
      let m_lt = m_under.0 in
      absurd (⊎_elim (λ (same : m ≡ r). omega (arith, same, m_lt)) (λ (none : mark_at marks m ≡ false). true≢false (sym (under_marked m m_under) ∙ none)) kept))
      (λ (none : mark_at marks k ≡ false). inr none)
      (marked_or_not (mark_at marks k)) in
      let content = parent_content k l.0 l.1 k_kept in
      subst (λ (c : Content). Tells ks w (discriminator c) (now k).branch) (sym content)
      (subst (λ (x : List ℕ). Tells ks w (discriminator (node (node k).parent).content) x) (sym (clear.branch k)) (agrees k was))

  pub lifted_agrees : (w : List ℕ) (n : ℕ) → IsLive (node n).content → Agrees ks node w n → Agrees ks now w (lifted marks r n)
  lifted_agrees w n live agrees =
      ⊎_elim
      (λ (yes : mark_at marks n ≡ true).
      let u = are.sound n yes in
      subst (λ (k : ℕ). Agrees ks now w k) (sym (lifted_yes marks r n yes))
      (agrees_kept w r r_live (inl refl) (λ k on. agrees k (way_trans (node_at t.nodes) b k r n r_live live on u.2))))
      (λ (none : mark_at marks n ≡ false). subst (λ (k : ℕ). Agrees ks now w k) (sym (lifted_no marks r n none)) (agrees_kept w n live (inr none) agrees))
      (marked_or_not (mark_at marks n))

  pub lifted_live : (n : ℕ) → IsLive (node n).content → IsLive (now (lifted marks r n)).content
  lifted_live n live =
      ⊎_elim
      (λ (yes : mark_at marks n ≡ true). subst (λ (k : ℕ). IsLive (now k).content) (sym (lifted_yes marks r n yes)) now_r_live)
      (λ (none : mark_at marks n ≡ false). subst (λ (k : ℕ). IsLive (now k).content) (sym (lifted_no marks r n none)) (live_kept n none live))
      (marked_or_not (mark_at marks n))

  leaf_live : (q : ℕ) → q < length t.access → IsLive (node (leaf_at t.leaves q)).content
  leaf_live q lt = subst IsLive (sym (g.leaves.leaves q lt)) tt

  abbrev leaves_now : List ℕ
  leaves_now = map (lifted marks r) t.leaves

  leaf_now : (q : ℕ) → q < length t.access → leaf_at leaves_now q ≡ lifted marks r (leaf_at t.leaves q)
  leaf_now q lt = get_or-map (lifted marks r) t.leaves q 0 0 (omega (arith, lt, g.each_leaf))

  leaf_not_root : (q : ℕ) → q < length t.access → leaf_at t.leaves q ≢ r
  leaf_not_root q lt same = elim (subst IsInner (ap (λ (k : ℕ). (node k).content) (sym same) ∙ g.leaves.leaves q lt) r_inner) [ ]

  -- a state stands at the root, or is settled
  stands : (q : ℕ) → q < length t.access → ((now (leaf_at leaves_now q)).content ≡ State q) ⊎ (leaf_at leaves_now q ≡ r)
  stands q lt =
      ⊎_elim
      (λ (yes : mark_at marks (leaf_at t.leaves q) ≡ true). inr (leaf_now q lt ∙ lifted_yes marks r (leaf_at t.leaves q) yes))
      (λ (none : mark_at marks (leaf_at t.leaves q) ≡ false).
      inl (ap (λ (k : ℕ). (now k).content) (leaf_now q lt ∙ lifted_no marks r (leaf_at t.leaves q) none) ∙ (clear.kept (leaf_at t.leaves q) (leaf_not_root q lt) none ∙ g.leaves.leaves q lt)))
      (marked_or_not (mark_at marks (leaf_at t.leaves q)))

  state_live : (c : Content) (q : ℕ) → c ≡ State q → IsLive c
  state_live c q is = subst IsLive (sym is) tt

  base_states : (n q : ℕ) → (now n).content ≡ State q → (q < length t.access) × (leaf_at leaves_now q ≡ n)
  base_states n q is =
      ⊎_elim
      (λ (same : n ≡ r). elim (subst IsInner (sym (ap (λ (k : ℕ). (now k).content) same ∙ clear.root) ∙ is) tt) [ ])
      (λ (kept : (n ≢ r) × (mark_at marks n ≡ false) × IsLive (node n).content).
      let was = g.leaves.states n q (sym (clear.kept n kept.0 kept.1) ∙ is) in
      (was.0, leaf_now q was.0 ∙ (ap (lifted marks r) was.1 ∙ lifted_no marks r n kept.1)))
      (live_cases n (state_live (now n).content q is))

  pub base_standing : BranchesAreRead ks t → length base ≡ length t.nodes → AreStanding ks t.inputs t.access (length t.nodes) now (leaf_at leaves_now)
  base_standing read long =
      record {
        shape = base_branched;
        states = base_states;
        live = λ q lt. subst (λ (k : ℕ). IsLive (now k).content) (sym (leaf_now q lt)) (lifted_live (leaf_at t.leaves q) (leaf_live q lt));
        agrees = λ q lt. subst (λ (k : ℕ). Agrees ks now (word_at t.access q) k) (sym (leaf_now q lt)) (lifted_agrees (word_at t.access q) (leaf_at t.leaves q) (leaf_live q lt) (read.access q lt));
        plain = λ n past is. let lt = live_within base n (inner_is_live (now n).content (final_is_inner (now n).content is)) in omega (arith, lt, past, long);
      }

  child_live : (m n : ℕ) → 0 < m → n ≢ r → IsInner (now n).content → IsLive (node m).content → (node m).parent ≡ n → IsLive (now m).content
  child_live m n some other inner live up =
      ⊎_elim
      (λ (yes : mark_at marks m ≡ true).
      absurd (⊎_elim
      (λ (same : (node m).parent ≡ r). other (sym up ∙ same))
      (λ (u : IsUnder node r (node m).parent). elim (subst IsInner (clear.gone n other (under_marked n (subst (λ (k : ℕ). IsUnder node r k) up u))) inner) [ ])
      (under_parent (node_at t.nodes) b r m (are.sound m yes))))
      (λ (none : mark_at marks m ≡ false). live_kept m none live)
      (marked_or_not (mark_at marks m))

  base_two : (n : ℕ) → n ≢ r → IsInner (now n).content → HasTwo now n
  base_two n other is =
      let kept : (n ≢ r) × (mark_at marks n ≡ false) × IsLive (node n).content = ⊎_elim
      (λ (same : n ≡ r). absurd (other same))
      (λ (k : (n ≢ r) × (mark_at marks n ≡ false) × IsLive (node n).content). k)
      (live_cases n (inner_is_live (now n).content is)) in
      let two = g.nodes.two n (subst IsInner (clear.kept n other kept.1) is) in
      let one_some = two.below in
      let rising = two.rising in
      record {
        one = two.one;
        other = two.other;
        below = two.below;
        rising = two.rising;
        one_live = child_live two.one n two.below other is two.one_live two.one_parent;
        other_live = child_live two.other n (omega (arith, one_some, rising)) other is two.other_live two.other_parent;
        one_parent = clear.parent two.one ∙ two.one_parent;
        other_parent = clear.parent two.other ∙ two.other_parent;
      }

  pub r_inside : r < length t.nodes
  r_inside = live_within t.nodes r r_live

  base_is_open : BranchesAreRead ks t → length base ≡ length t.nodes → IsOpen ks t.inputs t.access (length t.nodes) base leaves_now (length t.nodes) r word
  base_is_open read long =
      record {
        standing = base_standing read long;
        each = length-map t.leaves (lifted marks r) ∙ g.each_leaf;
        before = r_inside;
        within = omega (arith, long);
        temporary = false;
        content = clear.root;
        two = base_two;
        stood = λ q lt. ⊎_elim (λ (settled : (now (leaf_at leaves_now q)).content ≡ State q). inl settled) (λ (here : leaf_at leaves_now q ≡ r). inr (inr here)) (stands q lt);
        unmade = λ n past is. let lt = live_within base n (inner_is_live (now n).content is) in omega (arith, lt, past, long);
        all = λ n past lt. absurd (omega (arith, past, lt, long));
        childless = λ n some live up. (parent_kept n some (live_was n live) (is_kept n live)).0 (sym (clear.parent n) ∙ up);
      }

  pub base_open : BranchesAreRead ks t → length base ≡ length t.nodes → (nodes : List Node) (leaves : List ℕ) → nodes ≡ [] → leaves ≡ map (lifted marks r) t.leaves → IsOpen ks t.inputs t.access (length t.nodes) (base ++ nodes) leaves (length t.nodes) r word
  base_open read long nodes leaves none are_leaves =
      subst₂ (λ (l : List Node) (s : List ℕ). IsOpen ks t.inputs t.access (length t.nodes) l s (length t.nodes) r word) (sym (ap (λ (l : List Node). base ++ l) none ∙ append-nil base)) (sym are_leaves) (base_is_open read long)

  member_of : (q : ℕ) → q < length t.access → leaf_at leaves_now q ≡ r → IsMember t r q
  member_of q lt here =
      ⊎_elim
      (λ (yes : mark_at marks (leaf_at t.leaves q) ≡ true). (lt, record { above = (are.sound (leaf_at t.leaves q) yes).2; live = r_live; lower = r_lower; highest = may.block.highest }))
      (λ (none : mark_at marks (leaf_at t.leaves q) ≡ false). absurd (leaf_not_root q lt (sym (leaf_now q lt ∙ lifted_no marks r (leaf_at t.leaves q) none) ∙ here)))
      (marked_or_not (mark_at marks (leaf_at t.leaves q)))

  member_there : (q : ℕ) → IsMember t r q → leaf_at leaves_now q ≡ r
  member_there q is =
      let le = above_le (node_at t.nodes) b r (leaf_at t.leaves q) (leaf_live q is.0) is.1.above in
      let lt : r < leaf_at t.leaves q = ⊎_elim (λ (l : r < leaf_at t.leaves q). l) (λ (ge : leaf_at t.leaves q ≤ r). absurd (leaf_not_root q is.0 (omega (arith, ge, le)))) (cases_lt r (leaf_at t.leaves q)) in
      leaf_now q is.0 ∙ lifted_yes marks r (leaf_at t.leaves q) (under_marked (leaf_at t.leaves q) (lt, leaf_live q is.0, is.1.above))

  pub root_can : CanPart ks t.access leaves_now r word
  root_can =
      record {
        each = length-map t.leaves (lifted marks r) ∙ g.each_leaf;
        known = λ q lt here. may.known q (member_of q lt here);
        one = may.told.one;
        other = may.told.other;
        one_state = may.told.one_member.0;
        other_state = may.told.other_member.0;
        one_there = member_there may.told.one may.told.one_member;
        other_there = member_there may.told.other may.told.other_member;
        differ = may.told.differ;
      }
