-- The ways from the root of a discrimination tree to its nodes.
use Rattle.std.proofs.Common.{◌≡◌, ◌⊎◌, inl, inr, ⊎_elim, ℕ, zero, suc, ◌<◌, ◌≤◌, List, refl, ap, sym, ◌∙◌, subst, arith}
use Rattle.lw_words.specs.Word.{Answer}
use Rattle.lw_tree.specs.Tree.{IsLive, IsInner, AreNodes, discriminator, IsOnWayWithin, IsOnWay, Tells, Agrees}
use Rattle.lw_tree.specs.bodies.Sprouts.{AreBranched}
use Rattle.lw_tree.specs.declared.nodes.Node.{Node}
use Rattle.lw_tree.specs.declared.nodes.Content.{Content}
use Rattle.lw_tree.specs.declared.nodes.Content.TheVariants.{State, Discriminator, Gone}

pub inner_is_live : (c : Content) → IsInner c → IsLive c
inner_is_live (State q) is = elim is [ ]
inner_is_live (Discriminator word temporary) is = tt
inner_is_live Gone is = elim is [ ]

-- what is so of nodes whether or not each inner one has two below it
pub joined : (a : ℕ) (node : ℕ → Node) → AreNodes a node → AreBranched a node
joined a node g = record { root = g.root; branches = g.branches; apart = g.apart; words = g.words; tails = g.tails }

module _ (a : ℕ) (node : ℕ → Node) (g : AreBranched a node) where
  -- the parent of a live node is live and lower
  pub live_parent : (n : ℕ) → 0 < n → IsLive (node n).content → IsLive (node (node n).parent).content
  live_parent n some live = inner_is_live (node (node n).parent).content (g.branches n some live).inner

  -- more steps than enough change nothing
  pub more_steps : (steps enough m n : ℕ) → IsLive (node n).content → n ≤ enough → IsOnWayWithin steps node m n → IsOnWayWithin enough node m n
  more_steps zero enough m n live le on = elim on [ ]
  more_steps (suc steps) zero m n live le on = let some = on.0 in absurd (omega (arith, some, le))
  more_steps (suc steps) (suc enough) m n live le on =
      let some = on.0 in (
        some,
        ⊎_elim
            (λ (here : m ≡ n). inl here)
            (λ (above : IsOnWayWithin steps node m (node n).parent).
            inr (more_steps steps enough m (node n).parent (live_parent n some live) (let lower = (g.branches n some live).lower in omega (arith, lower, le)) above))
            on.1,
      )

  -- a node on the way to another one is that one, or on the way to its parent
  pub on_way_up : (m n : ℕ) → 0 < n → IsLive (node n).content → IsOnWay node m n → (m ≡ n) ⊎ IsOnWay node m (node n).parent
  on_way_up m zero some live on = elim on [ ]
  on_way_up m (suc n) some live on =
      ⊎_elim
      (λ (here : m ≡ suc n). inl here)
      (λ (above : IsOnWayWithin n node m (node (suc n)).parent). inr (more_steps n (node (suc n)).parent m (node (suc n)).parent (live_parent (suc n) some live) (omega arith) above))
      on.1

  pub on_way_here : (n : ℕ) → 0 < n → IsOnWay node n n
  on_way_here zero some = absurd (omega (arith, some))
  on_way_here (suc n) some = (some, inl refl)

  pub on_way_down : (m n : ℕ) → 0 < n → IsLive (node n).content → IsOnWay node m (node n).parent → IsOnWay node m n
  on_way_down m zero some live on = absurd (omega (arith, some))
  on_way_down m (suc n) some live on =
      (some, inr (more_steps (node (suc n)).parent n m (node (suc n)).parent (live_parent (suc n) some live) (let lower = (g.branches (suc n) some live).lower in omega (arith, lower)) on))

  -- a node on the way is live, isn't the root, and has no greater number
  pub on_way_within : (steps m n : ℕ) → IsLive (node n).content → IsOnWayWithin steps node m n → (0 < m) × IsLive (node m).content × (m ≤ n)
  on_way_within zero m n live on = elim on [ ]
  on_way_within (suc steps) m n live on =
      let some = on.0 in
      ⊎_elim
      (λ (here : m ≡ n). (omega (arith, here, some), subst (λ (k : ℕ). IsLive (node k).content) (sym here) live, omega (arith, here)))
      (λ (above : IsOnWayWithin steps node m (node n).parent).
      let r = on_way_within steps m (node n).parent (live_parent n some live) above in
      let lower = (g.branches n some live).lower in
      let le = r.2 in
      (r.0, r.1, omega (arith, le, lower)))
      on.1

  pub on_way_live : (m n : ℕ) → IsLive (node n).content → IsOnWay node m n → (0 < m) × IsLive (node m).content × (m ≤ n)
  on_way_live m n live on = on_way_within n m n live on

-- no live node loses its parent or its branch, and no inner node its discriminator
pub record KeepsNodes (node now : ℕ → Node) : Type 0 where
  pub parent : (n : ℕ) → IsLive (node n).content → (now n).parent ≡ (node n).parent
  pub branch : (n : ℕ) → IsLive (node n).content → (now n).branch ≡ (node n).branch
  pub inner : (n : ℕ) → IsInner (node n).content → (now n).content ≡ (node n).content

module _ (a : ℕ) (node now : ℕ → Node) (g : AreBranched a node) (keeps : KeepsNodes node now) where
  same_way_within : (steps m n : ℕ) → IsLive (node n).content → IsOnWayWithin steps now m n → IsOnWayWithin steps node m n
  same_way_within zero m n live on = on
  same_way_within (suc steps) m n live on =
      let some = on.0 in (
        some,
        ⊎_elim
            (λ (here : m ≡ n). inl here)
            (λ (above : IsOnWayWithin steps now m (now n).parent).
            inr (same_way_within steps m (node n).parent (live_parent a node g n some live) (subst (IsOnWayWithin steps now m) (keeps.parent n live) above)))
            on.1,
      )

  -- a word that agreed with the branches on the way to a node agrees with them still
  pub still_agrees : (ks : List Answer) (word : List ℕ) (n : ℕ) → IsLive (node n).content → Agrees ks node word n → Agrees ks now word n
  still_agrees ks word n live agrees m on =
      let was : IsOnWay node m n = same_way_within n m n live on in
      let r = on_way_live a node g m n live was in
      let parent : (now m).parent ≡ (node m).parent = keeps.parent m r.1 in
      let content : (now (now m).parent).content ≡ (node (node m).parent).content = ap (λ (p : ℕ). (now p).content) parent ∙ keeps.inner (node m).parent (g.branches m r.0 r.1).inner in
      subst (λ (c : Content). Tells ks word (discriminator c) (now m).branch) (sym content)
      (subst (λ (b : List ℕ). Tells ks word (discriminator (node (node m).parent).content) b) (sym (keeps.branch m r.1)) (agrees m was))

-- a word agrees with the way to a node where it agrees with that to the parent and with the node's branch
pub agrees_below : (a : ℕ) (node : ℕ → Node) (g : AreBranched a node) (ks : List Answer) (word : List ℕ) (n : ℕ) → 0 < n → IsLive (node n).content → Agrees ks node word (node n).parent → Tells ks word (discriminator (node (node n).parent).content) (node n).branch → Agrees ks node word n
agrees_below a node g ks word n some live above here m on =
    ⊎_elim
    (λ (same : m ≡ n). subst (λ (k : ℕ). Tells ks word (discriminator (node (node k).parent).content) (node k).branch) (sym same) here)
    (λ (up : IsOnWay node m (node n).parent). above m up)
    (on_way_up a node g m n some live on)
