-- Where the ways to two nodes part.
use Rattle.std.proofs.Common.{◌≡◌, ◌≢◌, ◌⊎◌, inl, inr, ⊎_elim, ℕ, zero, suc, ◌+◌, ◌<◌, ◌≤◌, List, [], ◌++◌, length, drop, get_or, ap, sym, ◌∙◌, subst, arith}
use Rattle.std.proofs.lemmas.Bool.{cases_lt, cases_eq}
use Rattle.std.proofs.lemmas.List.{get_or_default}
use Rattle.lw_words.specs.Word.{Answer, AreAnswers}
use Rattle.lw_cache.specs.Crowd.{Separates, IsCrowd}
use Rattle.lw_cache.specs.Cut.{word_at}
use Rattle.lw_cache.proofs.KnownLemmas.{reads_once}
use Rattle.lw_tree.specs.Tree.{IsLive, IsInner, AreLeaves, discriminator, IsOnWay, IsAbove, Tells, Agrees}
use Rattle.lw_tree.specs.bodies.Sprouts.{AreBranched}
use Rattle.lw_tree.specs.declared.nodes.Node.{Node}
use Rattle.lw_tree.specs.declared.nodes.Content.{Content}
use Rattle.lw_tree.specs.declared.nodes.Content.TheVariants.{State, Discriminator, Gone}
use Rattle.lw_tree.proofs.ClassLemmas.{parent_above}
use Rattle.lw_tree.proofs.WayLemmas.{live_parent, on_way_here, on_way_down, on_way_live}

-- different branches of one node lead to the two
pub record Parted (node : ℕ → Node) (m n : ℕ) : Type 0 where
  pub one : ℕ
  pub other : ℕ
  pub to_one : IsOnWay node one m
  pub to_other : IsOnWay node other n
  pub same : (node one).parent ≡ (node other).parent
  pub differ : (node one).branch ≢ (node other).branch

-- a child of one is on the way to the other
record LeadsTo (node : ℕ → Node) (m n : ℕ) : Type 0 where
  child : ℕ
  below : (node child).parent ≡ m
  to : IsOnWay node child n

turned : (node : ℕ → Node) (m n : ℕ) → Parted node m n → Parted node n m
turned node m n p = record { one = p.other; other = p.one; to_one = p.to_other; to_other = p.to_one; same = sym p.same; differ = λ e. p.differ (sym e) }

data Lie (node : ℕ → Node) (m n : ℕ) : Type 0 where
  above : LeadsTo node m n → Lie node m n
  below : LeadsTo node n m → Lie node m n
  parted : Parted node m n → Lie node m n

turn : (node : ℕ → Node) (m n : ℕ) → Lie node m n → Lie node n m
turn node m n (above x) = below x
turn node m n (below x) = above x
turn node m n (parted x) = parted (turned node m n x)

module _ (a : ℕ) (node : ℕ → Node) (g : AreBranched a node) where
  -- the greater of the two is reached from its parent
  from_parent : (m n : ℕ) → m < n → IsLive (node m).content → IsLive (node n).content → (m ≡ (node n).parent) ⊎ Lie node m (node n).parent → Lie node m n
  from_parent m n lt live_m live_n up =
      let some : 0 < n = omega (arith, lt) in
      ⊎_elim
      (λ (same : m ≡ (node n).parent). above (record { child = n; below = sym same; to = on_way_here a node g n some }))
      (λ (lie : Lie node m (node n).parent). further some lie)
      up
    where
      further : 0 < n → Lie node m (node n).parent → Lie node m n
      further some (above x) = above (record { child = x.child; below = x.below; to = on_way_down a node g x.child n some live_n x.to })
      further some (below x) =
          let r = on_way_live a node g x.child m live_m x.to in
          let le = r.2 in
          parted (record {
            one = x.child;
            other = n;
            to_one = x.to;
            to_other = on_way_here a node g n some;
            same = x.below;
            differ = g.apart x.child n r.0 (omega (arith, le, lt)) r.1 live_n x.below;
          })
      further some (parted x) = parted (record { one = x.one; other = x.other; to_one = x.to_one; to_other = on_way_down a node g x.other n some live_n x.to_other; same = x.same; differ = x.differ })

  -- the greater of the two is reached from its parent, of which the same is known already
  stepped : (bound m n : ℕ) → ((p : ℕ) → p < bound → m ≢ p → IsLive (node p).content → Lie node m p) → m < n → n < suc bound → IsLive (node m).content → IsLive (node n).content → Lie node m n
  stepped bound m n known lt ln live_m live_n =
      let some : 0 < n = omega (arith, lt) in
      let lower = (g.branches n some live_n).lower in
      from_parent m n lt live_m live_n
      (⊎_elim
      (λ (same : m ≡ (node n).parent). inl same)
      (λ (other : m ≢ (node n).parent). inr (known (node n).parent (omega (arith, lower, ln)) other (live_parent a node g n some live_n)))
      (cases_eq m (node n).parent))

  lie_below : (bound m n : ℕ) → m < bound → n < bound → m ≢ n → IsLive (node m).content → IsLive (node n).content → Lie node m n
  lie_below zero m n lm ln differ live_m live_n = absurd (omega (arith, lm))
  lie_below (suc bound) m n lm ln differ live_m live_n =
      ⊎_elim
      (λ (lt : m < n). stepped bound m n (λ p lp other live. lie_below bound m p (omega (arith, lt, ln)) lp other live_m live) lt ln live_m live_n)
      (λ (ge : n ≤ m).
      let lt : n < m = ⊎_elim (λ (lt : n < m). lt) (λ (le : m ≤ n). absurd (differ (omega (arith, ge, le)))) (cases_lt n m) in
      turn node n m (stepped bound n m (λ p lp other live. lie_below bound n p (omega (arith, lt, lm)) lp other live_n live) lt lm live_n live_m))
      (cases_lt m n)

  -- no node is below a leaf
  leaf_is_last : (q m n : ℕ) → (node m).content ≡ State q → IsLive (node n).content → LeadsTo node m n → ⊥
  leaf_is_last q m n leaf live x =
      let r = on_way_live a node g x.child n live x.to in
      subst IsInner leaf (subst (λ (p : ℕ). IsInner (node p).content) x.below (g.branches x.child r.0 r.1).inner)

  leaf_live : (q m : ℕ) → (node m).content ≡ State q → IsLive (node m).content
  leaf_live q m leaf = subst IsLive (sym leaf) tt

  pub leaves_part : (p q m n : ℕ) → (node m).content ≡ State p → (node n).content ≡ State q → m ≢ n → Parted node m n
  leaves_part p q m n is_m is_n differ = of (lie_below (suc (m + n)) m n (omega arith) (omega arith) differ (leaf_live p m is_m) (leaf_live q n is_n))
    where
      of : Lie node m n → Parted node m n
      of (above x) = absurd (leaf_is_last p m n is_m (leaf_live q n is_n) x)
      of (below x) = absurd (leaf_is_last q n m is_n (leaf_live p m is_m) x)
      of (parted x) = x

  -- words that agree with the ways to two leaves are apart
  pub separated : (ks : List Answer) (p q m n : ℕ) (u v : List ℕ) → (node m).content ≡ State p → (node n).content ≡ State q → m ≢ n → Agrees ks node u m → Agrees ks node v n → (e : List ℕ) × Separates ks e u v
  separated ks p q m n u v is_m is_n differ agrees_u agrees_v =
      let x = leaves_part p q m n is_m is_n differ in
      let one = agrees_u x.one x.to_one in
      let other = subst (λ (k : ℕ). Tells ks v (discriminator (node k).content) (node x.other).branch) (sym x.same) (agrees_v x.other x.to_other) in (
        discriminator (node (node x.one).parent).content,
        record { one = one.0; other = other.0; one_read = one.1; other_read = other.1; differ = λ e. x.differ (one.2 ∙ (e ∙ sym other.2)) },
      )

-- a word that agrees with the ways to a node and to a leaf goes by that node to that leaf, or the other way round; and there is
-- no node below a leaf
pub agreeing_above : (a : ℕ) (node : ℕ → Node) (g : AreBranched a node) (letters : ℕ) (ks : List Answer) → AreAnswers letters ks → (m n q : ℕ) (word : List ℕ) → IsLive (node m).content → (node n).content ≡ State q → m ≢ n → Agrees ks node word m → Agrees ks node word n → IsAbove node m n
agreeing_above a node g letters ks are m n q word live_m leaf differ to_m to_n = of (lie_below a node g (suc (m + n)) m n (omega arith) (omega arith) differ live_m live_n)
  where
    live_n : IsLive (node n).content
    live_n = subst IsLive (sym leaf) tt

    of : Lie node m n → IsAbove node m n
    of (above x) =
        let r = on_way_live a node g x.child n live_n x.to in
        subst (λ (k : ℕ). IsAbove node k n) x.below (parent_above a node g x.child n r.0 live_n (inr x.to))
    of (below x) = absurd (leaf_is_last a node g q n m leaf live_m x)
    of (parted x) =
        let one = to_m x.one x.to_one in
        let other = subst (λ (k : ℕ). Tells ks word (discriminator (node k).content) (node x.other).branch) (sym x.same) (to_n x.other x.to_other) in
        let outs = reads_once letters ks (word ++ discriminator (node (node x.one).parent).content) one.0 other.0 are one.1 other.1 in
        absurd (x.differ (one.2 ∙ (ap (drop (length word)) outs ∙ sym other.2)))

-- the access words of states whose leaves they agree with the ways to
pub crowd_of_leaves : (a : ℕ) (ks : List Answer) (node : ℕ → Node) (leaf : ℕ → ℕ) (access : List (List ℕ)) → AreBranched a node → AreLeaves (length access) node leaf → ((q : ℕ) → q < length access → Agrees ks node (word_at access q) (leaf q)) → IsCrowd ks access
crowd_of_leaves a ks node leaf access g are agrees i j d lt lj =
    let li : i < length access = omega (arith, lt, lj) in
    let differ : leaf i ≢ leaf j = λ same.
    let both : State i ≡ State j = sym (are.leaves i li) ∙ (ap (λ (n : ℕ). (node n).content) same ∙ are.leaves j lj) in
    let number : i ≡ j = ap state_of both in
    omega (arith, number, lt) in
    let r = separated a node g ks i j (leaf i) (leaf j) (word_at access i) (word_at access j) (are.leaves i li) (are.leaves j lj) differ (agrees i li) (agrees j lj) in
    (r.0, subst (λ (u : List ℕ). Separates ks r.0 u (get_or access j d)) (get_or_default access i [] d li) (subst (λ (v : List ℕ). Separates ks r.0 (word_at access i) v) (get_or_default access j [] d lj) r.1))
  where
    state_of : Content → ℕ
    state_of (State q) = q
    state_of (Discriminator word temporary) = 0
    state_of Gone = 0
