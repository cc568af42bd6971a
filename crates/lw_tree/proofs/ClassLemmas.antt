-- Nodes above others, and the roots of the classes.
use Rattle.std.proofs.Common.{◌≡◌, ◌⊎◌, inl, inr, ⊎_elim, ℕ, zero, suc, ◌<◌, ◌≤◌, Bool, true, false, true≢false, refl, sym, subst, arith}
use Rattle.std.proofs.lemmas.Bool.{cases_lt}
use Rattle.lw_tree.specs.Blocks.{IsClassRoot, IsFork}
use Rattle.lw_tree.specs.Tree.{IsLive, IsInner, IsFinal, is_temporary, IsOnWay, IsAbove}
use Rattle.lw_tree.specs.bodies.Sprouts.{AreBranched}
use Rattle.lw_tree.specs.declared.nodes.Node.{Node}
use Rattle.lw_tree.specs.declared.nodes.Content.{Content}
use Rattle.lw_tree.specs.declared.nodes.Content.TheVariants.{State, Discriminator, Gone}
use Rattle.lw_tree.proofs.WayLemmas.{live_parent, on_way_up, on_way_here, on_way_down, on_way_live}

-- an inner node is temporary or final, and not both
pub final_of_inner : (c : Content) → IsInner c → is_temporary c ≡ false → IsFinal c
final_of_inner (State q) is e = elim is [ ]
final_of_inner (Discriminator word true) is e = absurd (true≢false e)
final_of_inner (Discriminator word false) is e = tt
final_of_inner Gone is e = elim is [ ]

pub temporary_not_final : (c : Content) → is_temporary c ≡ true → IsFinal c → ⊥
temporary_not_final (State q) e is = is
temporary_not_final (Discriminator word true) e is = is
temporary_not_final (Discriminator word false) e is = true≢false (sym e)
temporary_not_final Gone e is = is

pub temporary_is_inner : (c : Content) → is_temporary c ≡ true → IsInner c
temporary_is_inner (State q) e = absurd (true≢false (sym e))
temporary_is_inner (Discriminator word temporary) e = tt
temporary_is_inner Gone e = absurd (true≢false (sym e))

pub state_not_final : (c : Content) (q : ℕ) → c ≡ State q → IsFinal c → ⊥
state_not_final c q e is = subst IsFinal e is

module _ (a : ℕ) (node : ℕ → Node) (g : AreBranched a node) where
  pub above_here : (n : ℕ) → IsAbove node n n
  above_here zero = inl refl
  above_here (suc n) = inr (on_way_here a node g (suc n) (omega arith))

  pub above_up : (m n : ℕ) → 0 < n → IsLive (node n).content → IsAbove node m n → (m ≡ n) ⊎ IsAbove node m (node n).parent
  above_up m n some live above =
      ⊎_elim
      (λ (root : m ≡ 0). inr (inl root))
      (λ (on : IsOnWay node m n). ⊎_elim
      (λ (here : m ≡ n). inl here)
      (λ (up : IsOnWay node m (node n).parent). inr (inr up))
      (on_way_up a node g m n some live on))
      above

  pub above_down : (m n : ℕ) → 0 < n → IsLive (node n).content → IsAbove node m (node n).parent → IsAbove node m n
  above_down m n some live above =
      ⊎_elim
      (λ (root : m ≡ 0). inl root)
      (λ (on : IsOnWay node m (node n).parent). inr (on_way_down a node g m n some live on))
      above

  -- a node above another one is live, and has no greater number
  pub above_live : (m n : ℕ) → IsLive (node n).content → IsAbove node m n → IsLive (node m).content × (m ≤ n)
  above_live m n live above =
      ⊎_elim
      (λ (root : m ≡ 0). (subst (λ (k : ℕ). IsLive (node k).content) (sym root) g.root, omega (arith, root)))
      (λ (on : IsOnWay node m n). let r = on_way_live a node g m n live on in (r.1, r.2))
      above

  above_below : (bound k m n : ℕ) → n < bound → IsLive (node n).content → IsAbove node k m → IsAbove node m n → IsAbove node k n
  above_below zero k m n lt live one two = absurd (omega (arith, lt))
  above_below (suc bound) k m zero lt live one two =
      ⊎_elim
      (λ (root : m ≡ 0). subst (IsAbove node k) root one)
      (λ (on : IsOnWay node m 0). elim on [ ])
      two
  above_below (suc bound) k m (suc n) lt live one two =
      let some : 0 < suc n = omega arith in
      let lower = (g.branches (suc n) some live).lower in
      ⊎_elim
      (λ (here : m ≡ suc n). subst (IsAbove node k) here one)
      (λ (up : IsAbove node m (node (suc n)).parent).
      above_down k (suc n) some live (above_below bound k m (node (suc n)).parent (omega (arith, lower, lt)) (live_parent a node g (suc n) some live) one up))
      (above_up m (suc n) some live two)

  pub above_trans : (k m n : ℕ) → IsLive (node n).content → IsAbove node k m → IsAbove node m n → IsAbove node k n
  above_trans k m n live one two = above_below (suc n) k m n (omega arith) live one two

  -- the parent of a node above another one is above that one
  pub parent_above : (m n : ℕ) → 0 < m → IsLive (node n).content → IsAbove node m n → IsAbove node (node m).parent n
  parent_above m n some live above = above_trans (node m).parent m n live (above_down (node m).parent m some (above_live m n live above).0 (above_here (node m).parent)) above

module _ (a : ℕ) (node : ℕ → Node) (g : AreBranched a node) where
  linear_below : (bound k m n : ℕ) → n < bound → IsLive (node n).content → IsAbove node k n → IsAbove node m n → k ≤ m → IsAbove node k m
  linear_below zero k m n lt live one two le = absurd (omega (arith, lt))
  linear_below (suc bound) k m zero lt live one two le = inl (let low = (above_live a node g m zero live two).1 in omega (arith, low, le))
  linear_below (suc bound) k m (suc n) lt live one two le =
      let some : 0 < suc n = omega arith in
      let lower = (g.branches (suc n) some live).lower in
      ⊎_elim
      (λ (here : m ≡ suc n). subst (IsAbove node k) (sym here) one)
      (λ (up : IsAbove node m (node (suc n)).parent). ⊎_elim
      (λ (also : k ≡ suc n). let low = (above_live a node g m (node (suc n)).parent (live_parent a node g (suc n) some live) up).1 in absurd (omega (arith, low, lower, also, le)))
      (λ (higher : IsAbove node k (node (suc n)).parent). linear_below bound k m (node (suc n)).parent (omega (arith, lower, lt)) (live_parent a node g (suc n) some live) higher up le)
      (above_up a node g k (suc n) some live one))
      (above_up a node g m (suc n) some live two)

  -- of two nodes above a third, that with the lower number is above the other
  pub above_linear : (k m n : ℕ) → IsLive (node n).content → IsAbove node k n → IsAbove node m n → k ≤ m → IsAbove node k m
  above_linear k m n live one two le = linear_below (suc n) k m n (omega arith) live one two le

  final_below : (bound m n : ℕ) → n < bound → IsLive (node n).content → IsFinal (node n).content → IsAbove node m n → IsFinal (node m).content
  final_below zero m n lt live is above = absurd (omega (arith, lt))
  final_below (suc bound) m zero lt live is above =
      ⊎_elim
      (λ (root : m ≡ 0). subst (λ (k : ℕ). IsFinal (node k).content) (sym root) is)
      (λ (on : IsOnWay node m 0). elim on [ ])
      above
  final_below (suc bound) m (suc n) lt live is above =
      let some : 0 < suc n = omega arith in
      let branch = g.branches (suc n) some live in
      let lower = branch.lower in
      ⊎_elim
      (λ (here : m ≡ suc n). subst (λ (k : ℕ). IsFinal (node k).content) (sym here) is)
      (λ (up : IsAbove node m (node (suc n)).parent). final_below bound m (node (suc n)).parent (omega (arith, lower, lt)) (live_parent a node g (suc n) some live) (branch.final is) up)
      (above_up a node g m (suc n) some live above)

  -- what stands above a final node is final
  pub final_above : (m n : ℕ) → IsLive (node n).content → IsFinal (node n).content → IsAbove node m n → IsFinal (node m).content
  final_above m n live is above = final_below (suc n) m n (omega arith) live is above

  state_below : (bound q m n : ℕ) → n < bound → (node m).content ≡ State q → IsLive (node n).content → IsAbove node m n → m ≡ n
  state_below zero q m n lt leaf live above = absurd (omega (arith, lt))
  state_below (suc bound) q m zero lt leaf live above =
      ⊎_elim
      (λ (root : m ≡ 0). root)
      (λ (on : IsOnWay node m 0). elim on [ ])
      above
  state_below (suc bound) q m (suc n) lt leaf live above =
      let some : 0 < suc n = omega arith in
      let branch = g.branches (suc n) some live in
      let lower = branch.lower in
      ⊎_elim
      (λ (here : m ≡ suc n). here)
      (λ (up : IsAbove node m (node (suc n)).parent).
      let same = state_below bound q m (node (suc n)).parent (omega (arith, lower, lt)) leaf (live_parent a node g (suc n) some live) up in
      absurd (subst IsInner leaf (subst (λ (k : ℕ). IsInner (node k).content) (sym same) branch.inner)))
      (above_up a node g m (suc n) some live above)

  -- a leaf is above itself alone
  pub above_state : (q m n : ℕ) → (node m).content ≡ State q → IsLive (node n).content → IsAbove node m n → m ≡ n
  above_state q m n leaf live above = state_below (suc n) q m n (omega arith) leaf live above

  root_not_above : (r s n : ℕ) → r < s → IsLive (node n).content → IsClassRoot node r n → IsClassRoot node s n → ⊥
  root_not_above r s n lt live one two =
      let some : 0 < s = omega (arith, lt) in
      let over : IsAbove node r s = above_linear r s n live one.above two.above (omega (arith, lt)) in
      ⊎_elim
      (λ (same : r ≡ s). omega (arith, same, lt))
      (λ (up : IsAbove node r (node s).parent). one.lower (final_above r (node s).parent (live_parent a node g s some two.live) (two.highest some) up))
      (above_up a node g r s some two.live over)

  -- a node is of one class
  pub root_once : (r s n : ℕ) → IsLive (node n).content → IsClassRoot node r n → IsClassRoot node s n → r ≡ s
  root_once r s n live one two =
      ⊎_elim
      (λ (lt : r < s). absurd (root_not_above r s n lt live one two))
      (λ (ge : s ≤ r). ⊎_elim
      (λ (lt : s < r). absurd (root_not_above s r n lt live two one))
      (λ (le : r ≤ s). omega (arith, ge, le))
      (cases_lt s r))
      (cases_lt r s)

  -- what stands below a node that isn't final is of its class
  pub root_below : (r m n : ℕ) → IsLive (node n).content → IsAbove node m n → IsClassRoot node r m → IsClassRoot node r n
  root_below r m n live above root = record { above = above_trans a node g r m n live root.above above; live = root.live; lower = root.lower; highest = root.highest }

-- a node on the way up to the root of a class
pub record IsClimbing (node : ℕ → Node) (root n : ℕ) : Type 0 where
  pub above : IsAbove node root n
  pub live : IsLive (node root).content
  pub lower : IsFinal (node root).content → ⊥

module _ (a : ℕ) (node : ℕ → Node) (g : AreBranched a node) where
  pub climb_start : (n q : ℕ) → (node n).content ≡ State q → IsClimbing node n n
  climb_start n q is = record { above = above_here a node g n; live = subst IsLive (sym is) tt; lower = state_not_final (node n).content q is }

  pub climb_on : (root n : ℕ) → 0 < root → IsLive (node n).content → IsClimbing node root n → is_temporary (node (node root).parent).content ≡ true → IsClimbing node (node root).parent n
  climb_on root n some live climbing temporary = record {
    above = parent_above a node g root n some live climbing.above;
    live = live_parent a node g root some climbing.live;
    lower = temporary_not_final (node (node root).parent).content temporary;
  }

  pub climb_ends : (root n : ℕ) → 0 < root → IsClimbing node root n → is_temporary (node (node root).parent).content ≡ false → IsClassRoot node root n
  climb_ends root n some climbing e = record {
    above = climbing.above;
    live = climbing.live;
    lower = climbing.lower;
    highest = λ _. final_of_inner (node (node root).parent).content (g.branches root some climbing.live).inner e;
  }

  pub climb_at_root : (root n : ℕ) → root ≡ 0 → IsClimbing node root n → IsClassRoot node root n
  climb_at_root root n at climbing = record {
    above = climbing.above;
    live = climbing.live;
    lower = climbing.lower;
    highest = λ some. absurd (omega (arith, some, at));
  }

  root_from : (bound root n : ℕ) → root < bound → IsLive (node n).content → IsClimbing node root n → (r : ℕ) × IsClassRoot node r n
  root_from zero root n lt live climbing = absurd (omega (arith, lt))
  root_from (suc bound) zero n lt live climbing = (zero, climb_at_root zero n refl climbing)
  root_from (suc bound) (suc root) n lt live climbing =
      let some : 0 < suc root = omega arith in
      let lower = (g.branches (suc root) some climbing.live).lower in
      of (is_temporary (node (node (suc root)).parent).content) refl (λ e. root_from bound (node (suc root)).parent n (omega (arith, lower, lt)) live (climb_on (suc root) n some live climbing e))
    where
      of : (b : Bool) → is_temporary (node (node (suc root)).parent).content ≡ b → (is_temporary (node (node (suc root)).parent).content ≡ true → (r : ℕ) × IsClassRoot node r n) → (r : ℕ) × IsClassRoot node r n
      of true e up = up e
      of false e up = (suc root, climb_ends (suc root) n (omega arith) climbing e)

  -- a node that isn't final is of some class
  pub some_root : (n : ℕ) → IsLive (node n).content → (IsFinal (node n).content → ⊥) → (r : ℕ) × IsClassRoot node r n
  some_root n live lower = root_from (suc n) n n (omega arith) live (record { above = above_here a node g n; live = live; lower = lower })

-- two nodes on the way up to the fork of two others
pub record IsForking (node : ℕ → Node) (one other here there : ℕ) : Type 0 where
  pub one_live : IsLive (node here).content
  pub other_live : IsLive (node there).content
  pub one_above : IsAbove node here one
  pub other_above : IsAbove node there other
  pub lowest : (m : ℕ) → IsAbove node m one → IsAbove node m other → IsAbove node m here × IsAbove node m there

module _ (a : ℕ) (node : ℕ → Node) (g : AreBranched a node) (one other : ℕ) (live : IsLive (node one).content) (other_live : IsLive (node other).content) where
  pub fork_start : IsForking node one other one other
  fork_start = record { one_live = live; other_live = other_live; one_above = above_here a node g one; other_above = above_here a node g other; lowest = λ m x y. (x, y) }

  pub fork_other : (here there : ℕ) → here < there → IsForking node one other here there → IsForking node one other here (node there).parent
  fork_other here there lt f =
      let some : 0 < there = omega (arith, lt) in
      record {
        one_live = f.one_live;
        other_live = live_parent a node g there some f.other_live;
        one_above = f.one_above;
        other_above = parent_above a node g there other some other_live f.other_above;
        lowest = λ m x y.
            let r = f.lowest m x y in (
              r.0,
              ⊎_elim
                  (λ (same : m ≡ there). let le = (above_live a node g m here f.one_live r.0).1 in absurd (omega (arith, le, same, lt)))
                  (λ (up : IsAbove node m (node there).parent). up)
                  (above_up a node g m there some f.other_live r.1),
            );
      }

  pub fork_one : (here there : ℕ) → there < here → IsForking node one other here there → IsForking node one other (node here).parent there
  fork_one here there lt f =
      let some : 0 < here = omega (arith, lt) in
      record {
        one_live = live_parent a node g here some f.one_live;
        other_live = f.other_live;
        one_above = parent_above a node g here one some live f.one_above;
        other_above = f.other_above;
        lowest = λ m x y.
            let r = f.lowest m x y in (
              ⊎_elim
                  (λ (same : m ≡ here). let le = (above_live a node g m there f.other_live r.1).1 in absurd (omega (arith, le, same, lt)))
                  (λ (up : IsAbove node m (node here).parent). up)
                  (above_up a node g m here some f.one_live r.0),
              r.1,
            );
      }

  pub fork_ends : (here there : ℕ) → here ≡ there → IsForking node one other here there → IsFork node one other here
  fork_ends here there same f = record {
    above_one = f.one_above;
    above_other = subst (λ (k : ℕ). IsAbove node k other) (sym same) f.other_above;
    lowest = λ m x y. (f.lowest m x y).0;
  }
