-- The least claims, from a node up.
use Rattle.std.proofs.Common.{◌≡◌, ◌≢◌, ℕ, ◌<◌, ◌≤◌, ◌⊎◌, inl, inr, ⊎_elim, min, set, refl, ap, sym, ◌∙◌, subst, arith}
use Rattle.std.proofs.lemmas.Bool.{cases_eq, cases_lt, cases_order}
use Rattle.lw_cache.specs.bodies.Trie.{IsChildOf, IsNewest, IsTrie, IsLeast, AreLeast}
use Rattle.lw_cache.specs.bodies.Filling.{with_claim, SameButClaims}
use Rattle.lw_cache.specs.declared.node.Node.{Node}

-- the least so far, of a node's own claim and of those children that the walk has passed
pub record IsLeastTo (at : ℕ → Node) (n p cursor least : ℕ) : Type 0 where
  pub is : (cursor ≡ 0) ⊎ IsChildOf at p n cursor
  pub own : least ≤ (at p).ends
  pub passed : (j : ℕ) → IsChildOf at p n j → cursor < j → least ≤ (at j).claim
  pub some : (least ≡ (at p).ends) ⊎ ((j : ℕ) × IsChildOf at p n j × (least ≡ (at j).claim))

pub least_begin : (at : ℕ → Node) (n p : ℕ) → IsTrie at n → p < n → IsLeastTo at n p (at p).first (at p).ends
least_begin at n p t lt =
    record {
      is = (t.first p lt).is;
      own = omega arith;
      passed = λ j child later. absurd (none j child later);
      some = inl refl;
    }
  where
    none : (j : ℕ) → IsChildOf at p n j → (at p).first < j → ⊥
    none j child later = let le : j ≤ (at p).first = (t.first p lt).newest j child in omega arith

pub least_more : (at : ℕ → Node) (n p c least now : ℕ) → IsTrie at n → IsLeastTo at n p c least → c ≢ 0 → now ≡ min least (at c).claim → IsLeastTo at n p (at c).next now × ((at c).next < c)
least_more at n p c least now t was other is =
    let child : IsChildOf at p n c = ⊎_elim (λ (e : c ≡ 0). absurd (other e)) (λ (k : IsChildOf at p n c). k) was.is in
    let older = t.next c child.0 child.1 in (
      record {
        is = ⊎_elim (λ (e : (at c).next ≡ 0). inl e) (λ (k : IsChildOf at (at c).parent c (at c).next). inr (k.0, omega (arith, k.1, child.1), k.2 ∙ child.2)) older.is;
        own = omega (arith, was.own, is);
        passed = λ j k later. ⊎_elim
            (λ (same : j ≡ c). omega (arith, ap (λ (i : ℕ). (at i).claim) same, is))
            (λ (o : (j < c) ⊎ (c < j)). ⊎_elim
            (λ (before : j < c). let le : j ≤ (at c).next = older.newest j (k.0, before, k.2 ∙ sym child.2) in absurd (omega (arith, le, later)))
            (λ (after : c < j). omega (arith, was.passed j k after, is))
            o)
            (cases_order j c);
        some = ⊎_elim
            (λ (le : least ≤ (at c).claim). let e : now ≡ least = omega (arith, is, le) in ⊎_elim (λ (own : least ≡ (at p).ends). inl (e ∙ own)) (λ (r : (j : ℕ) × IsChildOf at p n j × (least ≡ (at j).claim)). inr (r.0, r.1, e ∙ r.2)) was.some)
            (λ (less : (at c).claim < least). inr (c, child, omega (arith, is, less)))
            (order least (at c).claim);
      },
      ⊎_elim (λ (e : (at c).next ≡ 0). omega (arith, e, child.0)) (λ (k : IsChildOf at (at c).parent c (at c).next). k.1) older.is,
    )
  where
    order : (a b : ℕ) → (a ≤ b) ⊎ (b < a)
    order a b = ⊎_elim (λ (l : b < a). inr l) (λ (m : a ≤ b). inl m) (cases_lt b a)

pub least_end : (at : ℕ → Node) (n p c least : ℕ) → IsLeastTo at n p c least → c ≡ 0 → IsLeast at n p least
least_end at n p c least was e =
    record {
      own = was.own;
      below = λ j k. was.passed j k (omega (arith, e, k.0));
      some = was.some;
    }

pub least_within : (at : ℕ → Node) (n p c least : ℕ) → IsLeastTo at n p c least → c ≢ 0 → c < n
least_within at n p c least was some = ⊎_elim (λ (e : c ≡ 0). absurd (some e)) (λ (k : IsChildOf at p n c). k.1) was.is

-- nothing but claims is changed, and the claims are right at all nodes but this
pub record IsReckoned (was at : ℕ → Node) (n node : ℕ) : Type 0 where
  pub within : node < n
  pub same : SameButClaims was at
  pub least : (i : ℕ) → 0 < i → i < n → i ≢ node → IsLeast at n i (at i).claim

module _ (was at : ℕ → Node) (same : SameButClaims was at) where
  pub parent_same : (i : ℕ) → (at i).parent ≡ (was i).parent
  parent_same i = ap (λ (b : Node). b.parent) (same i)

  pub claims_trie : (n : ℕ) → IsTrie was n → IsTrie at n
  claims_trie n t =
      record {
        up = λ i pos lt. omega (arith, parent_same i, t.up i pos lt);
        first = λ i lt. subst (IsNewest at i n) (ap (λ (b : Node). b.first) (sym (same i))) (newest i n (was i).first (t.first i lt));
        next = λ c pos lt. subst (λ (p : ℕ). IsNewest at p c (at c).next) (sym (parent_same c)) (subst (IsNewest at (was c).parent c) (ap (λ (b : Node). b.next) (sym (same c))) (newest (was c).parent c (was c).next (t.next c pos lt)));
        differ = λ i j pos before lt parents letters. t.differ i j pos before lt (sym (parent_same i) ∙ (parents ∙ parent_same j)) (ap (λ (b : Node). b.letter) (sym (same i)) ∙ (letters ∙ ap (λ (b : Node). b.letter) (same j)));
      }
    where
      newest : (p bound c : ℕ) → IsNewest was p bound c → IsNewest at p bound c
      newest p bound c x =
          record {
            is = ⊎_elim (λ (e : c ≡ 0). inl e) (λ (k : IsChildOf was p bound c). inr (k.0, k.1, parent_same c ∙ k.2)) x.is;
            newest = λ j k. x.newest j (k.0, k.1, sym (parent_same j) ∙ k.2);
          }

pub reckon_begin : (at : ℕ → Node) (n node : ℕ) → node < n → ((i : ℕ) → 0 < i → i < n → i ≢ node → IsLeast at n i (at i).claim) → IsReckoned at at n node
reckon_begin at n node lt others = record { within = lt; same = λ i. refl; least = others }

-- the claim of the node is right too: nothing is left to do
pub reckon_right : (was at : ℕ → Node) (n node claim : ℕ) → IsReckoned was at n node → IsLeast at n node claim → claim ≡ (at node).claim → AreLeast at n
reckon_right was at n node claim r here is i pos lt =
    ⊎_elim
    (λ (same : i ≡ node). subst (λ (k : ℕ). IsLeast at n k (at k).claim) (sym same) (subst (IsLeast at n node) is here))
    (λ (other : i ≡ node → ⊥). r.least i pos lt other)
    (cases_eq i node)

pub reckon_end : (was at : ℕ → Node) (n node : ℕ) → IsReckoned was at n node → node ≡ 0 → AreLeast at n
reckon_end was at n node r e i pos lt = r.least i pos lt (λ same. let no : i ≡ 0 = same ∙ e in omega arith)

-- the claim of the node is set right: its parent's may be wrong now
pub reckon_more : (was at now : ℕ → Node) (n node claim : ℕ) → IsTrie was n → IsReckoned was at n node → node ≢ 0 → IsLeast at n node claim
    → now node ≡ with_claim (at node) claim → ((i : ℕ) → i ≢ node → now i ≡ at i) → IsReckoned was now n (at node).parent × ((at node).parent < node)
reckon_more was at now n node claim t r some here set others = (
  record {
    within = omega (arith, up, r.within);
    same = λ i. ⊎_elim
        (λ (is : i ≡ node). subst (λ (k : ℕ). now k ≡ with_claim (was k) (now k).claim) (sym is)
        (set ∙ (ap (λ (b : Node). with_claim b claim) (r.same node) ∙ ap (with_claim (was node)) (ap (λ (b : Node). b.claim) (sym set)))))
        (λ (other : i ≡ node → ⊥). others i other ∙ (r.same i ∙ ap (λ (b : Node). with_claim (was i) b.claim) (sym (others i other))))
        (cases_eq i node);
    least = λ i pos lt apart. ⊎_elim
        (λ (is : i ≡ node). subst (λ (k : ℕ). IsLeast now n k (now k).claim) (sym is) (subst (IsLeast now n node) (ap (λ (b : Node). b.claim) (sym set)) own))
        (λ (other : i ≡ node → ⊥). subst (IsLeast now n i) (ap (λ (b : Node). b.claim) (sym (others i other))) (elsewhere i other apart (r.least i pos lt other)))
        (cases_eq i node);
  },
  up,
)
  where
    up : (at node).parent < node
    up = omega (arith, parent_same was at r.same node, t.up node (omega (arith, some)) r.within)

    parents : (i : ℕ) → (now i).parent ≡ (at i).parent
    parents i = ⊎_elim (λ (is : i ≡ node). subst (λ (k : ℕ). (now k).parent ≡ (at k).parent) (sym is) (ap (λ (b : Node). b.parent) set)) (λ (other : i ≡ node → ⊥). ap (λ (b : Node). b.parent) (others i other)) (cases_eq i node)

    ends : (i : ℕ) → (now i).ends ≡ (at i).ends
    ends i = ⊎_elim (λ (is : i ≡ node). subst (λ (k : ℕ). (now k).ends ≡ (at k).ends) (sym is) (ap (λ (b : Node). b.ends) set)) (λ (other : i ≡ node → ⊥). ap (λ (b : Node). b.ends) (others i other)) (cases_eq i node)

    claims : (i : ℕ) → i ≢ node → (now i).claim ≡ (at i).claim
    claims i other = ap (λ (b : Node). b.claim) (others i other)

    -- a node of which the changed one is no child
    kept : (i c : ℕ) → ((j : ℕ) → IsChildOf at i n j → j ≢ node) → IsLeast at n i c → IsLeast now n i c
    kept i c apart l =
        record {
          own = omega (arith, l.own, ends i);
          below = λ j k. let was_child : IsChildOf at i n j = (k.0, k.1, sym (parents j) ∙ k.2) in omega (arith, l.below j was_child, claims j (apart j was_child));
          some = ⊎_elim
              (λ (e : c ≡ (at i).ends). inl (e ∙ sym (ends i)))
              (λ (q : (j : ℕ) × IsChildOf at i n j × (c ≡ (at j).claim)). inr (q.0, (q.1.0, q.1.1, parents q.0 ∙ q.1.2), q.2 ∙ sym (claims q.0 (apart q.0 q.1))))
              l.some;
        }

    own : IsLeast now n node claim
    own = kept node claim (λ j k is. let e : (at node).parent ≡ node = ap (λ (x : ℕ). (at x).parent) (sym is) ∙ k.2 in omega (arith, e, up)) here

    elsewhere : (i : ℕ) → i ≢ node → i ≢ (at node).parent → IsLeast at n i (at i).claim → IsLeast now n i (at i).claim
    elsewhere i other apart l = kept i (at i).claim (λ j k is. apart (sym k.2 ∙ ap (λ (x : ℕ). (at x).parent) is)) l
