-- The lowest node above some leaves.
use Rattle.std.proofs.Common.{◌≡◌, ◌≢◌, ◌⊎◌, inl, inr, ⊎_elim, ℕ, zero, suc, ◌+◌, ◌<◌, ◌≤◌, Bool, List, ◌++◌, length, ap, sym, ◌∙◌, subst, arith}
use Rattle.std.proofs.lemmas.Bool.{cases_lt, cases_eq}
use Rattle.lw_words.specs.Word.{Answer, AreAnswers}
use Rattle.lw_cache.specs.Cut.{word_at}
use Rattle.lw_cache.specs.Known.{IsKnown}
use Rattle.lw_cache.proofs.KnownLemmas.{known_is_read}
use Rattle.lw_tree.specs.Blocks.{IsFork}
use Rattle.lw_tree.specs.Tree.{TreeState, node_at, leaf_at, discriminator, IsLive, IsInner, IsTree, IsOnWay, IsAbove, Tells, BranchesAreRead}
use Rattle.lw_tree.specs.bodies.Sprouts.{IsLowest, CanPart}
use Rattle.lw_tree.specs.declared.nodes.Node.{Node}
use Rattle.lw_tree.specs.declared.nodes.Content.{Content}
use Rattle.lw_tree.specs.declared.nodes.Content.TheVariants.{State, Discriminator, Gone}
use Rattle.lw_tree.proofs.AboveLemmas.{HaveBranches, above_trans, above_here, above_le, toward, leaf_above}

-- of the leaves of one state and of those before a number
pub record IsLowestTo (node : ℕ → Node) (leaf stand : ℕ → ℕ) (state upto number n : ℕ) : Type 0 where
  pub first : IsAbove node n (leaf state)
  pub above : (q : ℕ) → q < upto → stand q ≡ number → IsAbove node n (leaf q)
  pub lowest : (m : ℕ) → IsAbove node m (leaf state) → ((q : ℕ) → q < upto → stand q ≡ number → IsAbove node m (leaf q)) → IsAbove node m n
  pub live : IsLive (node n).content

module _ (node : ℕ → Node) (b : HaveBranches node) (leaf stand : ℕ → ℕ) (state number : ℕ) where
  pub lowest_start : IsLive (node (leaf state)).content → IsLowestTo node leaf stand state 0 number (leaf state)
  lowest_start live = record { first = above_here node b (leaf state); above = λ q lt. absurd (omega (arith, lt)); lowest = λ m one all. one; live = live }

  pub lowest_skip : (upto n : ℕ) → stand upto ≢ number → IsLowestTo node leaf stand state upto number n → IsLowestTo node leaf stand state (upto + 1) number n
  lowest_skip upto n other l =
      record {
        first = l.first;
        above = λ q lt there. l.above q (⊎_elim (λ (less : q < upto). less) (λ (ge : upto ≤ q). absurd (other (ap stand (omega (arith, lt, ge)) ∙ there))) (cases_lt q upto)) there;
        lowest = λ m one all. l.lowest m one (λ q lt there. all q (omega (arith, lt)) there);
        live = l.live;
      }

  pub lowest_fork : (upto n fork : ℕ) → ((q : ℕ) → q ≤ upto → IsLive (node (leaf q)).content) → IsLive (node (leaf state)).content → stand upto ≡ number → IsFork node n (leaf upto) fork → IsLive (node fork).content → IsLowestTo node leaf stand state upto number n → IsLowestTo node leaf stand state (upto + 1) number fork
  lowest_fork upto n fork leaves state_live there is live l =
      record {
        first = above_trans node b fork n (leaf state) state_live is.above_one l.first;
        above = λ q lt at. ⊎_elim
            (λ (less : q < upto). above_trans node b fork n (leaf q) (leaves q (omega (arith, less))) is.above_one (l.above q less at))
            (λ (ge : upto ≤ q). subst (λ (k : ℕ). IsAbove node fork (leaf k)) (omega (arith, lt, ge)) is.above_other)
            (cases_lt q upto);
        lowest = λ m one all. is.lowest m (l.lowest m one (λ q lt at. all q (omega (arith, lt)) at)) (all upto (omega arith) there);
        live = live;
      }

  pub lowest_done : (count upto n : ℕ) → state < count → stand state ≡ number → count ≤ upto → upto ≤ count → IsLowestTo node leaf stand state upto number n → IsLowest node leaf stand count number n
  lowest_done count upto n lt there ge le l =
      record {
        above = λ q less at. l.above q (omega (arith, less, ge)) at;
        lowest = λ m all. l.lowest m (all state lt there) (λ q less at. all q (omega (arith, less, le)) at);
        live = l.live;
      }

-- a property of all numbers below one, or another one of one of them
all_or_one : (P Q : ℕ → Type 0) → ((q : ℕ) → P q ⊎ Q q) → (n : ℕ) → ((q : ℕ) → q < n → P q) ⊎ ((q : ℕ) × (q < n) × Q q)
all_or_one P Q each zero = inl (λ q lt. absurd (omega (arith, lt)))
all_or_one P Q each (suc n) =
    ⊎_elim
    (λ (all : (q : ℕ) → q < n → P q). ⊎_elim
    (λ (p : P n). inl (λ q lt. ⊎_elim (λ (less : q < n). all q less) (λ (ge : n ≤ q). subst P (omega (arith, lt, ge)) p) (cases_lt q n)))
    (λ (o : Q n). inr (n, omega arith, o))
    (each n))
    (λ (one : (q : ℕ) × (q < n) × Q q). let lt = one.1 in inr (one.0, omega (arith, lt), one.2))
    (all_or_one P Q each n)

module _ (ks : List Answer) (t : TreeState) (g : IsTree t) (are : AreAnswers t.inputs ks) (read : BranchesAreRead ks t) (stand : List ℕ) (each : length stand ≡ length t.access) (number n state : ℕ) (inside : state < length t.access) (there : leaf_at stand state ≡ number)
    (low : IsLowest (node_at t.nodes) (leaf_at t.leaves) (leaf_at stand) (length t.access) number n) where
  node : ℕ → Node
  node = node_at t.nodes

  leaf_live : (q : ℕ) → q < length t.access → IsLive (node_at t.nodes (leaf_at t.leaves q)).content
  leaf_live q lt = subst IsLive (sym (g.leaves.leaves q lt)) tt

  abbrev state_of : Content → ℕ
  state_of (State q) = q
  state_of (Discriminator word temporary) = 0
  state_of Gone = 0

  -- where the lowest node is a leaf, one state stands there
  pub lowest_leaf : (p : ℕ) → (node_at t.nodes n).content ≡ State p → (q : ℕ) → q < length t.access → leaf_at stand q ≡ number → q ≡ state
  lowest_leaf p is q lt at =
      let one = leaf_above (node_at t.nodes) g.nodes.branches n (leaf_at t.leaves q) p (leaf_live q lt) is (low.above q lt at) in
      let other = leaf_above (node_at t.nodes) g.nodes.branches n (leaf_at t.leaves state) p (leaf_live state inside) is (low.above state inside there) in
      ap state_of (sym (g.leaves.leaves q lt) ∙ (ap (λ (k : ℕ). (node_at t.nodes k).content) (sym one ∙ other) ∙ g.leaves.leaves state inside))

  module _ (word : List ℕ) (temporary : Bool) (is : (node_at t.nodes n).content ≡ Discriminator word temporary) where
    not_leaf : (q : ℕ) → q < length t.access → n ≢ leaf_at t.leaves q
    not_leaf q lt same = elim (subst IsInner (sym is ∙ (ap (λ (k : ℕ). (node_at t.nodes k).content) same ∙ g.leaves.leaves q lt)) tt) [ ]

    record Goes (q : ℕ) : Type 0 where
      child : ℕ
      some : 0 < child
      on : IsOnWay (node_at t.nodes) child (leaf_at t.leaves q)
      parent : (node_at t.nodes child).parent ≡ n
      live : IsLive (node_at t.nodes child).content
      tells : Tells ks (word_at t.access q) word (node_at t.nodes child).branch

    goes : (q : ℕ) → q < length t.access → leaf_at stand q ≡ number → Goes q
    goes q lt at =
        let r = toward (node_at t.nodes) g.nodes.branches n (leaf_at t.leaves q) (leaf_live q lt) (low.above q lt at) (not_leaf q lt) in
        record {
          child = r.0;
          some = r.1;
          on = r.2;
          parent = r.3;
          live = r.4;
          tells = subst (λ (d : List ℕ). Tells ks (word_at t.access q) d (node_at t.nodes r.0).branch) (ap (λ (k : ℕ). discriminator (node_at t.nodes k).content) r.3 ∙ ap discriminator is) (read.access q lt r.0 r.2);
        }

    known : (q : ℕ) → q < length t.access → leaf_at stand q ≡ number → IsKnown ks (word_at t.access q ++ word)
    known q lt at = let w = (goes q lt at).tells in (known_is_read ks (word_at t.access q ++ word)).1 (w.0, w.1)

    first : Goes state
    first = goes state inside there

    record GoesApart (q : ℕ) : Type 0 where
      inside_too : q < length t.access
      at : leaf_at stand q ≡ number
      way : Goes q
      differ : way.child ≢ first.child

    abbrev GoesSo : ℕ → Type 0
    GoesSo q = q < length t.access → leaf_at stand q ≡ number → IsAbove (node_at t.nodes) first.child (leaf_at t.leaves q)

    either : (q : ℕ) → GoesSo q ⊎ GoesApart q
    either q =
        ⊎_elim
        (λ (lt : q < length t.access). ⊎_elim
        (λ (at : leaf_at stand q ≡ number).
        let way : Goes q = goes q lt at in
        ⊎_elim
        (λ (same : way.child ≡ first.child). inl (λ l a. inr (subst (λ (k : ℕ). IsOnWay (node_at t.nodes) k (leaf_at t.leaves q)) same way.on)))
        (λ (other : way.child ≢ first.child). inr (record { inside_too = lt; at = at; way = way; differ = other }))
        (cases_eq way.child first.child))
        (λ (other : leaf_at stand q ≢ number). inl (λ l a. absurd (other a)))
        (cases_eq (leaf_at stand q) number))
        (λ (ge : length t.access ≤ q). inl (λ l a. absurd (omega (arith, ge, l))))
        (cases_lt q (length t.access))

    -- some state goes another way
    other_way : (q : ℕ) × GoesApart q
    other_way =
        ⊎_elim
        (λ (all : (q : ℕ) → q < length t.access → GoesSo q).
        let up : IsAbove (node_at t.nodes) first.child n = low.lowest first.child (λ q lt at. all q lt lt at) in
        let le : first.child ≤ n = above_le (node_at t.nodes) g.nodes.branches first.child n low.live up in
        let lower : (node_at t.nodes first.child).parent < first.child = (g.nodes.branches first.child first.some first.live).lower in
        let parent = first.parent in
        absurd (omega (arith, le, lower, parent)))
        (λ (one : (q : ℕ) × (q < length t.access) × GoesApart q). (one.0, one.2))
        (all_or_one GoesSo GoesApart either (length t.access))

    branches_differ : (x y : ℕ) → 0 < x → 0 < y → IsLive (node_at t.nodes x).content → IsLive (node_at t.nodes y).content → (node_at t.nodes x).parent ≡ (node_at t.nodes y).parent → x ≢ y → (node_at t.nodes x).branch ≢ (node_at t.nodes y).branch
    branches_differ x y some_x some_y live_x live_y up other same =
        ⊎_elim
        (λ (lt : x < y). g.nodes.apart x y some_x lt live_x live_y up same)
        (λ (ge : y ≤ x). g.nodes.apart y x some_y (⊎_elim (λ (lt : y < x). lt) (λ (le : x ≤ y). absurd (other (omega (arith, ge, le)))) (cases_lt y x)) live_y live_x (sym up) (sym same))
        (cases_lt x y)

    pub lowest_parts : CanPart ks t.access stand number word
    lowest_parts =
        let other = other_way in
        let way = other.1.way in
        record {
          each = each;
          known = known;
          one = state;
          other = other.0;
          one_state = inside;
          other_state = other.1.inside_too;
          one_there = there;
          other_there = other.1.at;
          differ = record {
            one = first.tells.0;
            other = way.tells.0;
            one_read = first.tells.1;
            other_read = way.tells.1;
            differ = λ same. branches_differ way.child first.child way.some first.some way.live first.live (way.parent ∙ sym first.parent) other.1.differ (way.tells.2 ∙ (sym same ∙ sym first.tells.2));
          };
        }
