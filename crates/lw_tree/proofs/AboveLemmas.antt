-- Nodes above others, where each live node but the root has its branch.
use Rattle.std.proofs.Common.{◌≡◌, ◌≢◌, ◌⊎◌, inl, inr, ⊎_elim, ℕ, zero, suc, ◌<◌, ◌≤◌, List, refl, ap, sym, ◌∙◌, subst, arith}
use Rattle.std.proofs.lemmas.Bool.{cases_lt, cases_eq}
use Rattle.lw_words.specs.Word.{Answer}
use Rattle.lw_tree.specs.Tree.{IsLive, IsInner, IsFinal, IsBranch, discriminator, IsOnWayWithin, IsOnWay, IsAbove, Tells, Agrees}
use Rattle.lw_tree.specs.bodies.Sprouts.{IsUnder}
use Rattle.lw_tree.specs.declared.nodes.Node.{Node}
use Rattle.lw_tree.specs.declared.nodes.Content.{Content}
use Rattle.lw_tree.specs.declared.nodes.Content.TheVariants.{State}
use Rattle.lw_tree.proofs.WayLemmas.{KeepsNodes, inner_is_live}

abbrev pub HaveBranches : (ℕ → Node) → Type 0
HaveBranches node = (n : ℕ) → 0 < n → IsLive (node n).content → IsBranch node n

module _ (node : ℕ → Node) (b : HaveBranches node) where
  pub parent_live : (n : ℕ) → 0 < n → IsLive (node n).content → IsLive (node (node n).parent).content
  parent_live n some live = inner_is_live (node (node n).parent).content (b n some live).inner

  more : (steps enough m n : ℕ) → IsLive (node n).content → n ≤ enough → IsOnWayWithin steps node m n → IsOnWayWithin enough node m n
  more zero enough m n live le on = elim on [ ]
  more (suc steps) zero m n live le on = let some = on.0 in absurd (omega (arith, some, le))
  more (suc steps) (suc enough) m n live le on =
      let some = on.0 in (
        some,
        ⊎_elim
            (λ (here : m ≡ n). inl here)
            (λ (above : IsOnWayWithin steps node m (node n).parent).
            inr (more steps enough m (node n).parent (parent_live n some live) (let lower = (b n some live).lower in omega (arith, lower, le)) above))
            on.1,
      )

  pub way_up : (m n : ℕ) → 0 < n → IsLive (node n).content → IsOnWay node m n → (m ≡ n) ⊎ IsOnWay node m (node n).parent
  way_up m zero some live on = elim on [ ]
  way_up m (suc n) some live on =
      ⊎_elim
      (λ (here : m ≡ suc n). inl here)
      (λ (above : IsOnWayWithin n node m (node (suc n)).parent). inr (more n (node (suc n)).parent m (node (suc n)).parent (parent_live (suc n) some live) (omega arith) above))
      on.1

  pub way_here : (n : ℕ) → 0 < n → IsOnWay node n n
  way_here zero some = absurd (omega (arith, some))
  way_here (suc n) some = (some, inl refl)

  pub way_down : (m n : ℕ) → 0 < n → IsLive (node n).content → IsOnWay node m (node n).parent → IsOnWay node m n
  way_down m zero some live on = absurd (omega (arith, some))
  way_down m (suc n) some live on =
      (some, inr (more (node (suc n)).parent n m (node (suc n)).parent (parent_live (suc n) some live) (let lower = (b (suc n) some live).lower in omega (arith, lower)) on))

  within : (steps m n : ℕ) → IsLive (node n).content → IsOnWayWithin steps node m n → (0 < m) × IsLive (node m).content × (m ≤ n)
  within zero m n live on = elim on [ ]
  within (suc steps) m n live on =
      let some = on.0 in
      ⊎_elim
      (λ (here : m ≡ n). (omega (arith, here, some), subst (λ (k : ℕ). IsLive (node k).content) (sym here) live, omega (arith, here)))
      (λ (above : IsOnWayWithin steps node m (node n).parent).
      let r = within steps m (node n).parent (parent_live n some live) above in
      let lower = (b n some live).lower in
      let le = r.2 in
      (r.0, r.1, omega (arith, le, lower)))
      on.1

  pub way_live : (m n : ℕ) → IsLive (node n).content → IsOnWay node m n → (0 < m) × IsLive (node m).content × (m ≤ n)
  way_live m n live on = within n m n live on

  -- a node above another one is so of its parent, if it isn't that node
  pub above_up : (m n : ℕ) → IsLive (node n).content → m < n → IsAbove node m n → IsAbove node m (node n).parent
  above_up m n live lt above =
      ⊎_elim
      (λ (root : m ≡ 0). inl root)
      (λ (on : IsOnWay node m n). ⊎_elim (λ (here : m ≡ n). absurd (omega (arith, here, lt))) (λ (up : IsOnWay node m (node n).parent). inr up) (way_up m n (omega (arith, lt)) live on))
      above

  pub above_down : (m n : ℕ) → 0 < n → IsLive (node n).content → IsAbove node m (node n).parent → IsAbove node m n
  above_down m n some live above = ⊎_elim (λ (root : m ≡ 0). inl root) (λ (on : IsOnWay node m (node n).parent). inr (way_down m n some live on)) above

  pub above_here : (n : ℕ) → IsAbove node n n
  above_here zero = inl refl
  above_here (suc n) = inr (way_here (suc n) (omega arith))

  pub above_le : (m n : ℕ) → IsLive (node n).content → IsAbove node m n → m ≤ n
  above_le m n live above = ⊎_elim (λ (root : m ≡ 0). omega (arith, root)) (λ (on : IsOnWay node m n). (way_live m n live on).2) above

  trans_within : (steps l m n : ℕ) → IsLive (node n).content → IsAbove node l m → IsOnWayWithin steps node m n → IsAbove node l n
  trans_within zero l m n live above on = elim on [ ]
  trans_within (suc steps) l m n live above on =
      let some = on.0 in
      ⊎_elim
      (λ (here : m ≡ n). subst (λ (k : ℕ). IsAbove node l k) here above)
      (λ (up : IsOnWayWithin steps node m (node n).parent). above_down l n some live (trans_within steps l m (node n).parent (parent_live n some live) above up))
      on.1

  pub above_trans : (l m n : ℕ) → IsLive (node n).content → IsAbove node l m → IsAbove node m n → IsAbove node l n
  above_trans l m n live one two =
      ⊎_elim
      (λ (root : m ≡ 0). of_root root (subst (λ (k : ℕ). IsAbove node l k) root one))
      (λ (on : IsOnWay node m n). trans_within n l m n live one on)
      two
    where
      of_root : m ≡ 0 → IsAbove node l 0 → IsAbove node l n
      of_root root above = ⊎_elim (λ (r : l ≡ 0). inl r) (λ (on : IsOnWay node l 0). elim on [ ]) above

  -- what is on the way to a node is on the way to all below it
  pub way_trans : (l m n : ℕ) → IsLive (node m).content → IsLive (node n).content → IsOnWay node l m → IsAbove node m n → IsOnWay node l n
  way_trans l m n live_m live on above =
      let some = (way_live l m live_m on).0 in
      ⊎_elim (λ (root : l ≡ 0). absurd (omega (arith, root, some))) (λ (way : IsOnWay node l n). way) (above_trans l m n live (inr on) above)

  pub under_parent : (r n : ℕ) → IsUnder node r n → ((node n).parent ≡ r) ⊎ IsUnder node r (node n).parent
  under_parent r n u =
      let lt = u.0 in
      let up = above_up r n u.1 u.0 u.2 in
      let live = parent_live n (omega (arith, lt)) u.1 in
      let le = above_le r (node n).parent live up in
      ⊎_elim
      (λ (same : (node n).parent ≡ r). inl same)
      (λ (other : (node n).parent ≢ r).
      inr (⊎_elim (λ (lt : r < (node n).parent). lt) (λ (ge : (node n).parent ≤ r). absurd (other (omega (arith, ge, le)))) (cases_lt r (node n).parent), live, up))
      (cases_eq (node n).parent r)

  pub under_child : (r n : ℕ) → 0 < n → IsLive (node n).content → ((node n).parent ≡ r) ⊎ IsUnder node r (node n).parent → IsUnder node r n
  under_child r n some live up =
      let lower = (b n some live).lower in
      ⊎_elim
      (λ (same : (node n).parent ≡ r). (omega (arith, same, lower), live, above_down r n some live (subst (λ (k : ℕ). IsAbove node r k) (sym same) (above_here r))))
      (λ (u : IsUnder node r (node n).parent). let lt = u.0 in (omega (arith, lt, lower), live, above_down r n some live u.2))
      up

  -- the next node on the way from one that is above another
  toward_within : (bound m n : ℕ) → n ≤ bound → IsLive (node n).content → IsAbove node m n → m ≢ n → (child : ℕ) × (0 < child) × IsOnWay node child n × ((node child).parent ≡ m) × IsLive (node child).content
  toward_within zero m n le live above other = absurd (other (let l = above_le m n live above in omega (arith, le, l)))
  toward_within (suc bound) m n le live above other =
      let l = above_le m n live above in
      let lt : m < n = ⊎_elim (λ (lt : m < n). lt) (λ (ge : n ≤ m). absurd (other (omega (arith, ge, l)))) (cases_lt m n) in
      let some : 0 < n = omega (arith, lt) in
      let up = above_up m n live lt above in
      let lower = (b n some live).lower in
      ⊎_elim
      (λ (same : (node n).parent ≡ m). (n, some, way_here n some, same, live))
      (λ (more : (node n).parent ≢ m).
      let r = toward_within bound m (node n).parent (omega (arith, lower, le)) (parent_live n some live) up (λ e. more (sym e)) in
      (r.0, r.1, way_down r.0 n some live r.2, r.3, r.4))
      (cases_eq (node n).parent m)

  pub toward : (m n : ℕ) → IsLive (node n).content → IsAbove node m n → m ≢ n → (child : ℕ) × (0 < child) × IsOnWay node child n × ((node child).parent ≡ m) × IsLive (node child).content
  toward m n live above other = toward_within n m n (omega arith) live above other

  -- a leaf is above itself alone
  pub leaf_above : (m n q : ℕ) → IsLive (node n).content → (node m).content ≡ State q → IsAbove node m n → m ≡ n
  leaf_above m n q live leaf above =
      ⊎_elim
      (λ (same : m ≡ n). same)
      (λ (other : m ≢ n).
      let r = toward m n live above other in
      let inner = (b r.0 r.1 r.4).inner in
      elim (subst IsInner (ap (λ (k : ℕ). (node k).content) r.3 ∙ leaf) inner) [ ])
      (cases_eq m n)

  final_within : (bound r n : ℕ) → n ≤ bound → IsLive (node n).content → IsAbove node r n → IsFinal (node n).content → IsFinal (node r).content
  final_within zero r n le live above final =
      let l = above_le r n live above in
      subst (λ (k : ℕ). IsFinal (node k).content) (omega (arith, l, le)) final
  final_within (suc bound) r n le live above final =
      let l = above_le r n live above in
      ⊎_elim
      (λ (same : r ≡ n). subst (λ (k : ℕ). IsFinal (node k).content) (sym same) final)
      (λ (other : r ≢ n).
      let lt : r < n = ⊎_elim (λ (lt : r < n). lt) (λ (ge : n ≤ r). absurd (other (omega (arith, ge, l)))) (cases_lt r n) in
      let some : 0 < n = omega (arith, lt) in
      let lower = (b n some live).lower in
      final_within bound r (node n).parent (omega (arith, lower, le)) (parent_live n some live) (above_up r n live lt above) ((b n some live).final final))
      (cases_eq r n)

  -- all nodes above a final one are final
  pub final_up : (r n : ℕ) → IsLive (node n).content → IsAbove node r n → IsFinal (node n).content → IsFinal (node r).content
  final_up r n live above final = final_within n r n (omega arith) live above final

  -- a word agrees with the way to a node where it agrees with that to the parent and with the node's branch
  pub agrees_child : (ks : List Answer) (word : List ℕ) (n : ℕ) → 0 < n → IsLive (node n).content → Agrees ks node word (node n).parent → Tells ks word (discriminator (node (node n).parent).content) (node n).branch → Agrees ks node word n
  agrees_child ks word n some live above here m on =
      ⊎_elim
      (λ (same : m ≡ n). subst (λ (k : ℕ). Tells ks word (discriminator (node (node k).parent).content) (node k).branch) (sym same) here)
      (λ (up : IsOnWay node m (node n).parent). above m up)
      (way_up m n some live on)

module _ (node now : ℕ → Node) (b : HaveBranches node) (keeps : KeepsNodes node now) where
  same_way : (steps m n : ℕ) → IsLive (node n).content → IsOnWayWithin steps now m n → IsOnWayWithin steps node m n
  same_way zero m n live on = on
  same_way (suc steps) m n live on =
      let some = on.0 in (
        some,
        ⊎_elim
            (λ (here : m ≡ n). inl here)
            (λ (above : IsOnWayWithin steps now m (now n).parent). inr (same_way steps m (node n).parent (parent_live node b n some live) (subst (IsOnWayWithin steps now m) (keeps.parent n live) above)))
            on.1,
      )

  pub agrees_still : (ks : List Answer) (word : List ℕ) (n : ℕ) → IsLive (node n).content → Agrees ks node word n → Agrees ks now word n
  agrees_still ks word n live agrees m on =
      let was : IsOnWay node m n = same_way n m n live on in
      let r = way_live node b m n live was in
      let parent : (now m).parent ≡ (node m).parent = keeps.parent m r.1 in
      let content : (now (now m).parent).content ≡ (node (node m).parent).content = ap (λ (p : ℕ). (now p).content) parent ∙ keeps.inner (node m).parent (b m r.0 r.1).inner in
      subst (λ (c : Content). Tells ks word (discriminator c) (now m).branch) (sym content)
      (subst (λ (x : List ℕ). Tells ks word (discriminator (node (node m).parent).content) x) (sym (keeps.branch m r.1)) (agrees m was))

-- where live nodes keep their parents, what is above a live node stays so
module _ (node now : ℕ → Node) (b : HaveBranches node) (parent : (n : ℕ) → IsLive (node n).content → (now n).parent ≡ (node n).parent) where
  way_stays : (steps m n : ℕ) → IsLive (node n).content → IsOnWayWithin steps node m n → IsOnWayWithin steps now m n
  way_stays zero m n live on = on
  way_stays (suc steps) m n live on =
      let some = on.0 in (
        some,
        ⊎_elim
            (λ (here : m ≡ n). inl here)
            (λ (above : IsOnWayWithin steps node m (node n).parent). inr (subst (IsOnWayWithin steps now m) (sym (parent n live)) (way_stays steps m (node n).parent (parent_live node b n some live) above)))
            on.1,
      )

  pub above_stays : (m n : ℕ) → IsLive (node n).content → IsAbove node m n → IsAbove now m n
  above_stays m n live above = ⊎_elim (λ (root : m ≡ 0). inl root) (λ (on : IsOnWay node m n). inr (way_stays n m n live on)) above

-- a node is above those just below it
pub above_child : (node : ℕ → Node) (b : HaveBranches node) (m n : ℕ) → 0 < n → IsLive (node n).content → (node n).parent ≡ m → IsAbove node m n
above_child node b m n some live up = above_down node b m n some live (subst (λ (k : ℕ). IsAbove node m k) (sym up) (above_here node b m))
