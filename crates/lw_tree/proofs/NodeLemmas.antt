-- Nodes after a step: one of them is another one.
use Rattle.std.proofs.Common.{◌≡◌, ◌≢◌, ◌⊎◌, inl, inr, ⊎_elim, ℕ, ◌+◌, ◌<◌, ◌≤◌, List, [], ◌∷◌, ◌++◌, length, get_or, set, refl, ap, sym, ◌∙◌, subst, arith}
use Rattle.std.proofs.Math.ListN.{get_or-append}
use Rattle.std.proofs.Math.Seq.{get_or-append_seam}
use Rattle.std.proofs.lemmas.Bool.{cases_lt, cases_eq}
use Rattle.std.proofs.lemmas.List.{length-append, get_or-set_same, get_or-set_other, get_or_past}
use Rattle.lw_words.specs.Word.{IsWord}
use Rattle.lw_tree.specs.Tree.{no_node, node_at, IsLive, IsInner, IsFinal, IsBranch, HasTwo, HasTail, discriminator}
use Rattle.lw_tree.specs.bodies.Nodes.{IsChild}
use Rattle.lw_tree.specs.bodies.Sprouts.{AreBranched}
use Rattle.lw_tree.specs.bodies.Steps.{leaf_below, inner_node}
use Rattle.lw_tree.specs.declared.nodes.Node.{Node}
use Rattle.lw_tree.specs.declared.nodes.Content.{Content}
use Rattle.lw_tree.specs.declared.nodes.Content.TheVariants.{State, Discriminator, Gone}
use Rattle.lw_tree.proofs.WayLemmas.{KeepsNodes, inner_is_live}

-- two functions that differ at one number at most
pub record Updates {A : Type 0} (was now : ℕ → A) (at : ℕ) (value : A) : Type 0 where
  pub here : now at ≡ value
  pub others : (n : ℕ) → n ≢ at → now n ≡ was n

module _ {A : Type 0} where
  -- what holds there, and of all others before, holds everywhere
  pub everywhere : (was now : ℕ → A) (at : ℕ) (value : A) (P : ℕ → A → Type 0) → Updates was now at value → P at value → ((n : ℕ) → n ≢ at → P n (was n)) → (n : ℕ) → P n (now n)
  everywhere was now at value P u here there n =
      ⊎_elim
      (λ (same : n ≡ at). subst (λ (m : ℕ). P m (now m)) (sym same) (subst (P at) (sym u.here) here))
      (λ (other : n ≢ at). subst (P n) (sym (u.others n other)) (there n other))
      (cases_eq n at)

  -- a list with one element more
  pub pushed : (xs : List A) (x d : A) → Updates (λ n. get_or xs n d) (λ n. get_or (xs ++ x ∷ []) n d) (length xs) x
  pushed xs x d = record {
    here = get_or-append_seam xs x [] d;
    others = λ n other. ⊎_elim
        (λ (inside : n < length xs). get_or-append xs (x ∷ []) d n inside)
        (λ (past : length xs ≤ n).
        let long : length (xs ++ x ∷ []) ≡ length xs + 1 = length-append xs (x ∷ []) in
        get_or_past (xs ++ x ∷ []) n d (⊎_elim (λ (lt : length xs < n). omega (arith, lt, long)) (λ (le : n ≤ length xs). absurd (other (omega (arith, le, past)))) (cases_lt (length xs) n))
        ∙ sym (get_or_past xs n d past))
        (cases_lt n (length xs));
  }

  -- a list with another element
  pub written : (xs : List A) (at : ℕ) (x d : A) → at < length xs → Updates (λ n. get_or xs n d) (λ n. get_or (set xs at x) n d) at x
  written xs at x d inside = record {
    here = get_or-set_same xs at x d inside;
    others = λ n other. get_or-set_other xs at n x d other;
  }

past_no_node : (nodes : List Node) (n : ℕ) → length nodes ≤ n → node_at nodes n ≡ no_node
past_no_node nodes n past = get_or_past nodes n no_node past

-- a node that is live is one of the list
pub live_within : (nodes : List Node) (n : ℕ) → IsLive (node_at nodes n).content → n < length nodes
live_within nodes n live =
    ⊎_elim
    (λ (lt : n < length nodes). lt)
    (λ (past : length nodes ≤ n). absurd (subst (λ (m : Node). IsLive m.content) (past_no_node nodes n past) live))
    (cases_lt n (length nodes))

pub final_is_inner : (c : Content) → IsFinal c → IsInner c
final_is_inner (State q) is = elim is [ ]
final_is_inner (Discriminator word temporary) is = tt
final_is_inner Gone is = elim is [ ]

-- where a final discriminator has a tail, it has it after a step that leaves final nodes
pub tail_stays : (node now : ℕ → Node) (word : List ℕ) → ((n : ℕ) → IsFinal (node n).content → (now n).content ≡ (node n).content) → HasTail node word → HasTail now word
tail_stays node now word stays tail =
    let x = tail.0 in (
      x,
      ⊎_elim
          (λ (one : word ≡ x ∷ []). inl one)
          (λ (more : (n : ℕ) × IsFinal (node n).content × (word ≡ x ∷ discriminator (node n).content)).
          let same = stays more.0 more.1 in
          inr (more.0, subst IsFinal (sym same) more.1, more.2 ∙ ap (λ (c : Content). x ∷ discriminator c) (sym same)))
          tail.1,
    )

-- two nodes that stand below one stand there after a step that leaves live nodes so, and their parents
pub two_stay : (node now : ℕ → Node) → ((n : ℕ) → IsLive (node n).content → IsLive (now n).content) → ((n : ℕ) → IsLive (node n).content → (now n).parent ≡ (node n).parent) → (n : ℕ) → HasTwo node n → HasTwo now n
two_stay node now live parent n w =
    record {
      one = w.one;
      other = w.other;
      below = w.below;
      rising = w.rising;
      one_live = live w.one w.one_live;
      other_live = live w.other w.other_live;
      one_parent = parent w.one w.one_live ∙ w.one_parent;
      other_parent = parent w.other w.other_live ∙ w.other_parent;
    }

-- a new leaf below an inner node
module _ (a : ℕ) (node now : ℕ → Node) (new parent : ℕ) (branch : List ℕ) (q : ℕ) (g : AreBranched a node) (u : Updates node now new (leaf_below parent branch q)) (last : (n : ℕ) → IsLive (node n).content → n < new)
    (inner : IsInner (node parent).content) (size : length branch ≡ length (discriminator (node parent).content)) (fresh : (n : ℕ) → IsChild node parent n → (node n).branch ≢ branch) where
  stays : (n : ℕ) → IsLive (node n).content → now n ≡ node n
  stays n live = u.others n (λ same. let lt = last n live in omega (arith, same, lt))

  stays_inner : (n : ℕ) → IsInner (node n).content → now n ≡ node n
  stays_inner n is = stays n (inner_is_live (node n).content is)

  lower : parent < new
  lower = last parent (inner_is_live (node parent).content inner)

  pub leaf_keeps : KeepsNodes node now
  leaf_keeps = record {
    parent = λ n live. ap (λ (m : Node). m.parent) (stays n live);
    branch = λ n live. ap (λ (m : Node). m.branch) (stays n live);
    inner = λ n is. ap (λ (m : Node). m.content) (stays_inner n is);
  }

  parent_content : (now parent).content ≡ (node parent).content
  parent_content = ap (λ (m : Node). m.content) (stays_inner parent inner)

  new_branch : IsBranch now new
  new_branch =
      let at : now new ≡ leaf_below parent branch q = u.here in
      let up : (now new).parent ≡ parent = ap (λ (m : Node). m.parent) at in
      record {
        lower = subst (λ (p : ℕ). p < new) (sym up) lower;
        inner = subst (λ (p : ℕ). IsInner (now p).content) (sym up) (subst IsInner (sym parent_content) inner);
        size = ap (λ (m : Node). length m.branch) at ∙ (size ∙ (ap (λ (c : Content). length (discriminator c)) (sym parent_content) ∙ ap (λ (p : ℕ). length (discriminator (now p).content)) (sym up)));
        final = λ is. elim (subst (λ (m : Node). IsFinal m.content) at is) [ ];
      }

  old_branch : (n : ℕ) → 0 < n → IsLive (node n).content → IsBranch now n
  old_branch n some live =
      let was = g.branches n some live in
      let at : now n ≡ node n = stays n live in
      let up : (now n).parent ≡ (node n).parent = ap (λ (m : Node). m.parent) at in
      let above : (now (node n).parent).content ≡ (node (node n).parent).content = ap (λ (m : Node). m.content) (stays_inner (node n).parent was.inner) in
      let content : (now (now n).parent).content ≡ (node (node n).parent).content = ap (λ (p : ℕ). (now p).content) up ∙ above in
      record {
        lower = subst (λ (p : ℕ). p < n) (sym up) was.lower;
        inner = subst IsInner (sym content) was.inner;
        size = ap (λ (m : Node). length m.branch) at ∙ (was.size ∙ ap (λ (c : Content). length (discriminator c)) (sym content));
        final = λ is. subst IsFinal (sym content) (was.final (subst (λ (m : Node). IsFinal m.content) at is));
      }

  -- a live node is the new one or was live
  pub live_or_new : (n : ℕ) → IsLive (now n).content → (n ≡ new) ⊎ IsLive (node n).content
  live_or_new n live =
      ⊎_elim
      (λ (same : n ≡ new). inl same)
      (λ (other : n ≢ new). inr (subst (λ (m : Node). IsLive m.content) (u.others n other) live))
      (cases_eq n new)

  -- an inner node was so
  pub inner_was : (n : ℕ) → IsInner (now n).content → IsInner (node n).content
  inner_was n is =
      ⊎_elim
      (λ (same : n ≡ new). elim (subst (λ (m : Node). IsInner m.content) (ap now same ∙ u.here) is) [ ])
      (λ (other : n ≢ new). subst (λ (m : Node). IsInner m.content) (u.others n other) is)
      (cases_eq n new)

  apart : (m n : ℕ) → 0 < m → m < n → IsLive (now m).content → IsLive (now n).content → (now m).parent ≡ (now n).parent → (now m).branch ≢ (now n).branch
  apart m n some lt live_m live_n up same =
      ⊎_elim
      (λ (is_new : m ≡ new). ⊎_elim
      (λ (also : n ≡ new). omega (arith, lt, is_new, also))
      (λ (old : IsLive (node n).content). let low = last n old in omega (arith, lt, is_new, low))
      (live_or_new n live_n))
      (λ (old_m : IsLive (node m).content). ⊎_elim
      (λ (is_new : n ≡ new).
      let at : now n ≡ leaf_below parent branch q = ap now is_new ∙ u.here in
      let m_at = stays m old_m in
      fresh m (some, old_m, sym (ap (λ (k : Node). k.parent) m_at) ∙ (up ∙ ap (λ (k : Node). k.parent) at)) (sym (ap (λ (k : Node). k.branch) m_at) ∙ (same ∙ ap (λ (k : Node). k.branch) at)))
      (λ (old_n : IsLive (node n).content).
      let m_at = stays m old_m in
      let n_at = stays n old_n in
      g.apart m n some lt old_m old_n (sym (ap (λ (k : Node). k.parent) m_at) ∙ (up ∙ ap (λ (k : Node). k.parent) n_at)) (sym (ap (λ (k : Node). k.branch) m_at) ∙ (same ∙ ap (λ (k : Node). k.branch) n_at)))
      (live_or_new n live_n))
      (live_or_new m live_m)

  pub with_leaf : AreBranched a now
  with_leaf =
      record {
        root = let at = stays 0 g.root in subst (λ (m : Node). IsLive m.content) (sym at) g.root;
        branches = λ n some live. ⊎_elim
            (λ (same : n ≡ new). subst (IsBranch now) (sym same) new_branch)
            (λ (old : IsLive (node n).content). old_branch n some old)
            (live_or_new n live);
        apart = apart;
        words = λ n is. let was = inner_was n is in subst (λ (m : Node). IsWord a (discriminator m.content) × (discriminator m.content ≢ [])) (sym (stays_inner n was)) (g.words n was);
        tails = λ n is.
            let was = inner_was n (final_is_inner (now n).content is) in
            let at = stays_inner n was in
            let final = subst (λ (m : Node). IsFinal m.content) at is in
            subst (λ (m : Node). HasTail now (discriminator m.content)) (sym at) (tail_stays node now (discriminator (node n).content) (λ k f. ap (λ (m : Node). m.content) (stays_inner k (final_is_inner (node k).content f))) (g.tails n final));
      }

-- a leaf that became a temporary node
module _ (a : ℕ) (node now : ℕ → Node) (leaf q : ℕ) (word : List ℕ) (g : AreBranched a node) (u : Updates node now leaf (inner_node (node leaf) word)) (was_leaf : (node leaf).content ≡ State q) (letters : IsWord a word) (some_letter : word ≢ []) where
  parent_same : (n : ℕ) → (now n).parent ≡ (node n).parent
  parent_same = everywhere node now leaf (inner_node (node leaf) word) (λ n m. m.parent ≡ (node n).parent) u refl (λ n other. refl)

  branch_same : (n : ℕ) → (now n).branch ≡ (node n).branch
  branch_same = everywhere node now leaf (inner_node (node leaf) word) (λ n m. m.branch ≡ (node n).branch) u refl (λ n other. refl)

  not_leaf : (n : ℕ) → IsInner (node n).content → n ≢ leaf
  not_leaf n is same = elim (subst IsInner (ap (λ (k : ℕ). (node k).content) same ∙ was_leaf) is) [ ]

  inner_same : (n : ℕ) → IsInner (node n).content → (now n).content ≡ (node n).content
  inner_same n is = ap (λ (m : Node). m.content) (u.others n (not_leaf n is))

  pub lowered_keeps : KeepsNodes node now
  lowered_keeps = record { parent = λ n live. parent_same n; branch = λ n live. branch_same n; inner = inner_same }

  pub live_was : (n : ℕ) → IsLive (now n).content → IsLive (node n).content
  live_was = everywhere node now leaf (inner_node (node leaf) word) (λ n m. IsLive m.content → IsLive (node n).content) u (λ live. subst IsLive (sym was_leaf) tt) (λ n other live. live)

  pub live_still : (n : ℕ) → IsLive (node n).content → IsLive (now n).content
  live_still = everywhere node now leaf (inner_node (node leaf) word) (λ n m. IsLive (node n).content → IsLive m.content) u (λ live. tt) (λ n other live. live)

  inner_stays : (n : ℕ) → IsInner (node n).content → IsInner (now n).content
  inner_stays n is = subst IsInner (sym (inner_same n is)) is

  final_was : (n : ℕ) → IsFinal (now n).content → (n ≢ leaf) × IsFinal (node n).content
  final_was n is =
      ⊎_elim
      (λ (same : n ≡ leaf). elim (subst (λ (m : Node). IsFinal m.content) (ap now same ∙ u.here) is) [ ])
      (λ (other : n ≢ leaf). (other, subst (λ (m : Node). IsFinal m.content) (u.others n other) is))
      (cases_eq n leaf)

  branch_is : (n : ℕ) → 0 < n → IsLive (node n).content → IsBranch now n
  branch_is n some live =
      let was = g.branches n some live in
      let up = parent_same n in
      let content : (now (now n).parent).content ≡ (node (node n).parent).content = ap (λ (p : ℕ). (now p).content) up ∙ inner_same (node n).parent was.inner in
      record {
        lower = subst (λ (p : ℕ). p < n) (sym up) was.lower;
        inner = subst IsInner (sym content) was.inner;
        size = ap (λ (b : List ℕ). length b) (branch_same n) ∙ (was.size ∙ ap (λ (c : Content). length (discriminator c)) (sym content));
        final = λ is. subst IsFinal (sym content) (was.final (final_was n is).1);
      }

  pub lowered_nodes : AreBranched a now
  lowered_nodes =
      record {
        root = live_still 0 g.root;
        branches = λ n some live. branch_is n some (live_was n live);
        apart = λ m n some lt live_m live_n up same. g.apart m n some lt (live_was m live_m) (live_was n live_n) (sym (parent_same m) ∙ (up ∙ parent_same n)) (sym (branch_same m) ∙ (same ∙ branch_same n));
        words = everywhere node now leaf (inner_node (node leaf) word) (λ n m. IsInner m.content → IsWord a (discriminator m.content) × (discriminator m.content ≢ [])) u (λ is. (letters, some_letter)) (λ n other is. g.words n is);
        tails = λ n is.
            let was = final_was n is in
            let at : now n ≡ node n = u.others n was.0 in
            subst (λ (m : Node). HasTail now (discriminator m.content)) (sym at) (tail_stays node now (discriminator (node n).content) (λ k f. inner_same k (final_is_inner (node k).content f)) (g.tails n was.1));
      }

  -- no node is below it
  pub lowered_childless : (n : ℕ) → IsChild now leaf n → ⊥
  lowered_childless n child =
      let live = live_was n child.1 in
      not_leaf (node n).parent (g.branches n child.0 live).inner (sym (parent_same n) ∙ child.2)
