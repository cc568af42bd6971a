-- The lists of the nodes below one node.
use Rattle.std.proofs.Common.{◌≡◌, ◌≢◌, ◌⊎◌, inl, inr, ⊎_elim, ℕ, zero, suc, ◌+◌, ◌<◌, ◌≤◌, true, false, ◌==◌, if◌then◌else◌, List, [], ◌∷◌, ◌++◌, length, set, Option, Some, None, refl, ap, sym, ◌∙◌, subst, arith}
use Rattle.std.proofs.lemmas.Bool.{cases_eq, eq-eqb, ne_eqb, both_ways, cond-true, cond-false}
use Rattle.std.proofs.lemmas.List.{length-append, length-set}
use Rattle.lw_links.specs.Owners.{ListsByOwner, HasEachOnce, Spells, has, list_of, owner_of, first_of, next_of}
use Rattle.lw_links.specs.Chains.{walk}
use Rattle.lw_links.specs.declared.links.Place.{Place}
use Rattle.lw_links.proofs.CellLemmas.{has_here, has_behind, has_cases, length_once, once_from_pairs}
use Rattle.lw_links.proofs.ChainLemmas.{walk_spelled}
use Rattle.lw_links.proofs.KeepLemmas.{owner_of-has}
use Rattle.lw_links.proofs.OwnerLemmas.{has_from_owner}
use Rattle.lw_links.proofs.WayLemmas.{next_spells, IsStep, step_on}
use Rattle.lw_tree.specs.Tree.{no_node, node_at, IsLive}
use Rattle.lw_tree.specs.bodies.Nodes.{IsChild, AreLinked}
use Rattle.lw_tree.specs.bodies.Steps.{leaf_below, inner_node}
use Rattle.lw_tree.specs.declared.nodes.Node.{Node}
use Rattle.lw_tree.proofs.NodeLemmas.{Updates, everywhere, pushed, written, live_within}

-- a new leaf
module _ (nodes : List Node) (v w : ListsByOwner) (parent : ℕ) (branch : List ℕ) (q : ℕ) (linked : AreLinked nodes v) (inside : parent < length nodes) (room : length nodes + 1 ≤ v.cells)
    (sizes : (length w.lists ≡ length v.lists) × (w.cells ≡ v.cells)) (owner : (k : ℕ) → owner_of w k ≡ (if k == length nodes then Some parent else owner_of v k)) where
  abbrev new : ℕ
  new = length nodes

  abbrev node : ℕ → Node
  node = node_at nodes

  abbrev now : ℕ → Node
  now = node_at (nodes ++ leaf_below parent branch q ∷ [])

  node_now : Updates node now new (leaf_below parent branch q)
  node_now = pushed nodes (leaf_below parent branch q) no_node

  -- the new node is below its parent alone
  child_is : (p n : ℕ) → IsChild now p n → ((n ≡ new) × (p ≡ parent)) ⊎ IsChild node p n
  child_is p n child =
      ⊎_elim
      (λ (same : n ≡ new). inl (same, sym child.2 ∙ ap (λ (m : Node). m.parent) (ap now same ∙ node_now.here)))
      (λ (other : n ≢ new). inr (subst (λ (m : Node). (0 < n) × IsLive m.content × (m.parent ≡ p)) (node_now.others n other) child))
      (cases_eq n new)

  child_stays : (p n : ℕ) → IsChild node p n → IsChild now p n
  child_stays p n child =
      subst (λ (m : Node). (0 < n) × IsLive m.content × (m.parent ≡ p)) (sym (node_now.others n (λ same. let lt = live_within nodes n child.1 in omega (arith, same, lt)))) child

  child_new : IsChild now parent new
  child_new = subst (λ (m : Node). (0 < new) × IsLive m.content × (m.parent ≡ parent)) (sym node_now.here) (omega (arith, inside), tt, refl)

  pub leaf_linked : AreLinked (nodes ++ leaf_below parent branch q ∷ []) w
  leaf_linked =
      let long = length-append nodes (leaf_below parent branch q ∷ []) in
      record {
        owners = sizes.0 ∙ (linked.owners ∙ sym sizes.1);
        each = (let cells = sizes.1 in omega (arith, long, room, cells));
        linked = λ p n child. ⊎_elim
            (λ (e : (n ≡ new) × (p ≡ parent)). owner n ∙ (cond-true _ _ _ (eq-eqb n new e.0) ∙ ap Some (sym e.1)))
            (λ (old : IsChild node p n). owner n ∙ (cond-false _ _ _ (ne_eqb n new (λ same. let lt = live_within nodes n old.1 in omega (arith, same, lt))) ∙ linked.linked p n old))
            (child_is p n child);
        child = λ p n is. ⊎_elim
            (λ (same : n ≡ new).
            let both : Some parent ≡ Some p = sym (owner n ∙ cond-true _ _ _ (eq-eqb n new same)) ∙ is in
            let up : parent ≡ p = cc in
            subst (λ (m : ℕ). IsChild now p m) (sym same) (subst (λ (r : ℕ). IsChild now r new) up child_new))
            (λ (other : n ≢ new). child_stays p n (linked.child p n (sym (owner n ∙ cond-false _ _ _ (ne_eqb n new other)) ∙ is)))
            (cases_eq n new);
      }

-- no node past the end stands in a list
pub free_past : (nodes : List Node) (v : ListsByOwner) → AreLinked nodes v → (n : ℕ) → length nodes ≤ n → owner_of v n ≡ None
free_past nodes v linked n past = by (owner_of v n) refl
  where
    by : (s : Option ℕ) → owner_of v n ≡ s → owner_of v n ≡ None
    by None e = e
    by (Some p) e = let lt = live_within nodes n (linked.child p n e).1 in absurd (omega (arith, lt, past))

-- a leaf that became an inner node
module _ (nodes : List Node) (v : ListsByOwner) (leaf : ℕ) (word : List ℕ) (linked : AreLinked nodes v) (is_live : IsLive (node_at nodes leaf).content) where
  abbrev was : ℕ → Node
  was = node_at nodes

  abbrev lower : ℕ → Node
  lower = node_at (set nodes leaf (inner_node (node_at nodes leaf) word))

  lowering : Updates was lower leaf (inner_node (was leaf) word)
  lowering = written nodes leaf (inner_node (was leaf) word) no_node (live_within nodes leaf is_live)

  parent_same : (n : ℕ) → (lower n).parent ≡ (was n).parent
  parent_same = everywhere was lower leaf (inner_node (was leaf) word) (λ n m. m.parent ≡ (was n).parent) lowering refl (λ n other. refl)

  live_was : (n : ℕ) → IsLive (lower n).content → IsLive (was n).content
  live_was = everywhere was lower leaf (inner_node (was leaf) word) (λ n m. IsLive m.content → IsLive (was n).content) lowering (λ live. is_live) (λ n other live. live)

  live_still : (n : ℕ) → IsLive (was n).content → IsLive (lower n).content
  live_still = everywhere was lower leaf (inner_node (was leaf) word) (λ n m. IsLive (was n).content → IsLive m.content) lowering (λ live. tt) (λ n other live. live)

  pub lowered_linked : AreLinked (set nodes leaf (inner_node (node_at nodes leaf) word)) v
  lowered_linked =
      let same_length = length-set nodes leaf (inner_node (node_at nodes leaf) word) in
      let each = linked.each in
      record {
        owners = linked.owners;
        each = omega (arith, each, same_length);
        linked = λ p n child. linked.linked p n (child.0, live_was n child.1, sym (parent_same n) ∙ child.2);
        child = λ p n is. let child = linked.child p n is in (child.0, live_still n child.1, parent_same n ∙ child.2);
      }

-- the same lists, with room for more
pub grown_linked : (nodes : List Node) (v w : ListsByOwner) → AreLinked nodes v → length w.lists ≡ w.cells → v.cells ≤ w.cells → ((k : ℕ) → owner_of w k ≡ owner_of v k) → AreLinked nodes w
grown_linked nodes v w linked owners more same =
    let each = linked.each in
    record {
      owners = owners;
      each = omega (arith, each, more);
      linked = λ p n child. same n ∙ linked.linked p n child;
      child = λ p n is. linked.child p n (sym (same n) ∙ is);
    }

-- the root alone
pub root_linked : (nodes : List Node) (v : ListsByOwner) (root : Node) → nodes ≡ root ∷ [] → length v.lists ≡ 1 → v.cells ≡ 1 → ((k : ℕ) → owner_of v k ≡ None) → AreLinked nodes v
root_linked nodes v root is owners cells none =
    let long : length nodes ≡ 1 = ap (λ (l : List Node). length l) is in
    record {
      owners = owners ∙ sym cells;
      each = omega (arith, long, cells);
      linked = λ p n child. let lt = live_within nodes n child.1 in let some = child.0 in absurd (omega (arith, lt, long, some));
      child = λ p n e. let both : None ≡ Some p = sym (none n) ∙ e in absurd cc;
    }

-- from one node below another to the next: what is left of the list
abbrev next_place : ListsByOwner → ℕ → Place
next_place v c = record { owner = None; previous = None; next = next_of v c }

abbrev pub left_of : ListsByOwner → Option ℕ → List ℕ
left_of v cursor = walk (next_place v) v.cells cursor

-- each node below the parent is among those that are left, or has other outputs
pub record IsPassing (nodes : List Node) (v : ListsByOwner) (p : ℕ) (outputs : List ℕ) (cursor : Option ℕ) : Type 0 where
  pub way : Spells (next_of v) cursor (left_of v cursor)
  pub owned : (n : ℕ) → has n (left_of v cursor) ≡ true → owner_of v n ≡ Some p
  pub passed : (n : ℕ) → IsChild (node_at nodes) p n → (has n (left_of v cursor) ≡ true) ⊎ ((node_at nodes n).branch ≢ outputs)

module _ (nodes : List Node) (v : ListsByOwner) (p : ℕ) (outputs : List ℕ) (linked : AreLinked nodes v) (once : HasEachOnce v) where
  whole : left_of v (first_of v p) ≡ list_of v p
  whole = walk_spelled (next_place v) v.cells (first_of v p) (list_of v p) (next_spells v once p)
      (length_once (list_of v p) v.cells (once_from_pairs (list_of v p) (once.once p)) (λ n h. below n h))
    where
      below : (n : ℕ) → has n (list_of v p) ≡ true → n < v.cells
      below n h = let is = linked.child p n (owner_of-has v once p n h) in let lt = live_within nodes n is.1 in let each = linked.each in omega (arith, lt, each)

  pub passing_first : IsPassing nodes v p outputs (first_of v p)
  passing_first =
      record {
        way = subst (Spells (next_of v) (first_of v p)) (sym whole) (next_spells v once p);
        owned = λ n h. owner_of-has v once p n (subst (λ (xs : List ℕ). has n xs ≡ true) whole h);
        passed = λ n child. inl (subst (λ (xs : List ℕ). has n xs ≡ true) (sym whole) (has_from_owner v p n (linked.linked p n child)));
      }

  module _ (c : ℕ) (cursor : Option ℕ) (is : cursor ≡ Some c) (l : IsPassing nodes v p outputs cursor) where
    on : IsStep (next_place v) v.cells c
    on = step_on (next_place v) v.cells c (subst (λ (s : Option ℕ). Spells (next_of v) s (left_of v s)) is l.way)

    left_is : left_of v cursor ≡ c ∷ left_of v (next_of v c)
    left_is = ap (left_of v) is ∙ on.whole

    pub passing_child : IsChild (node_at nodes) p c
    passing_child = linked.child p c (l.owned c (subst (λ (xs : List ℕ). has c xs ≡ true) (sym left_is) (has_here c (left_of v (next_of v c)))))

    pub passing_next : (node_at nodes c).branch ≢ outputs → IsPassing nodes v p outputs (next_of v c)
    passing_next differ =
        record {
          way = on.rest;
          owned = λ n h. l.owned n (subst (λ (xs : List ℕ). has n xs ≡ true) (sym left_is) (has_behind n c (left_of v (next_of v c)) h));
          passed = λ n child. ⊎_elim
              (λ (h : has n (left_of v cursor) ≡ true). ⊎_elim
              (λ (same : n ≡ c). inr (λ e. differ (ap (λ (m : ℕ). (node_at nodes m).branch) (sym same) ∙ e)))
              (λ (rest : has n (left_of v (next_of v c)) ≡ true). inl rest)
              (has_cases n c (left_of v (next_of v c)) (subst (λ (xs : List ℕ). has n xs ≡ true) left_is h)))
              (λ (other : (node_at nodes n).branch ≢ outputs). inr other)
              (l.passed n child);
        }

    pub passing_shorter : length (left_of v (next_of v c)) < length (left_of v cursor)
    passing_shorter = let same : length (left_of v cursor) ≡ length (c ∷ left_of v (next_of v c)) = ap (λ (xs : List ℕ). length xs) left_is in omega (arith, same)

  pub passing_none : IsPassing nodes v p outputs None → (n : ℕ) → IsChild (node_at nodes) p n → (node_at nodes n).branch ≢ outputs
  passing_none l n child =
      ⊎_elim
      (λ (h : has n (left_of v None) ≡ true). absurd (none_left v.cells n h))
      (λ (other : (node_at nodes n).branch ≢ outputs). other)
      (l.passed n child)
    where
      none_left : (m n : ℕ) → has n (walk (next_place v) m None) ≡ true → ⊥
      none_left zero n h = both_ways false refl h
      none_left (suc m) n h = both_ways false refl h
