-- From a node down, by letters.
use Rattle.std.proofs.Common.{◌≡◌, ◌≢◌, ℕ, zero, suc, ◌+◌, ◌<◌, ◌≤◌, ◌⊎◌, inl, inr, ⊎_elim, List, [], ◌∷◌, ◌++◌, length, take, get_or, refl, ap, sym, ◌∙◌, subst, arith}
use Rattle.std.proofs.lemmas.Bool.{cases_eq, cases_order}
use Rattle.std.proofs.lemmas.List.{same_from_push, take_all, take_more, length-take-le}
use Rattle.lw_cache.specs.bodies.Trie.{word_of, IsChildOf, IsTrie}
use Rattle.lw_cache.specs.bodies.Filling.{IsChildAt, IsReached, IsFound}
use Rattle.lw_cache.specs.declared.node.Node.{Node}
use Rattle.lw_cache.proofs.KnownLemmas.{prefix_long, prefix_take}
use Rattle.lw_cache.proofs.TrieLemmas.{word_step, one_node, front_node}

-- the walk over the children of p: it stands at one or at the end, and those that it has passed have another letter
pub record IsPassing (at : ℕ → Node) (n p letter cursor : ℕ) : Type 0 where
  pub is : (cursor ≡ 0) ⊎ IsChildOf at p n cursor
  pub passed : (j : ℕ) → IsChildOf at p n j → cursor < j → (at j).letter ≢ letter

pub passing_begin : (at : ℕ → Node) (n p letter : ℕ) → IsTrie at n → p < n → IsPassing at n p letter (at p).first
passing_begin at n p letter t lt =
    record {
      is = (t.first p lt).is;
      passed = λ j child later. absurd (later_none j child later);
    }
  where
    later_none : (j : ℕ) → IsChildOf at p n j → (at p).first < j → ⊥
    later_none j child later = let le : j ≤ (at p).first = (t.first p lt).newest j child in omega arith

pub passing_more : (at : ℕ → Node) (n p letter c : ℕ) → IsTrie at n → IsPassing at n p letter c → c ≢ 0 → (at c).letter ≢ letter → IsPassing at n p letter (at c).next × ((at c).next < c) × (c < n)
passing_more at n p letter c t was some other =
    let child : IsChildOf at p n c = ⊎_elim (λ (e : c ≡ 0). absurd (some e)) (λ (k : IsChildOf at p n c). k) was.is in
    let older = t.next c child.0 child.1 in (
      record {
        is = ⊎_elim (λ (e : (at c).next ≡ 0). inl e) (λ (k : IsChildOf at (at c).parent c (at c).next). inr (k.0, omega (arith, k.1, child.1), k.2 ∙ child.2)) older.is;
        passed = λ j k later. ⊎_elim
            (λ (is : j ≡ c). subst (λ (i : ℕ). (at i).letter ≢ letter) (sym is) other)
            (λ (o : (j < c) ⊎ (c < j)). ⊎_elim
            (λ (before : j < c). let le : j ≤ (at c).next = older.newest j (k.0, before, k.2 ∙ sym child.2) in absurd (omega (arith, le, later)))
            (λ (after : c < j). was.passed j k after)
            o)
            (cases_order j c);
      },
      ⊎_elim (λ (e : (at c).next ≡ 0). omega (arith, e, child.0)) (λ (k : IsChildOf at (at c).parent c (at c).next). k.1) older.is,
      child.1,
    )

pub passing_here : (at : ℕ → Node) (n p letter c : ℕ) → IsPassing at n p letter c → c ≢ 0 → (at c).letter ≡ letter → IsChildAt at n p letter c
passing_here at n p letter c was some same =
    inr (⊎_elim (λ (e : c ≡ 0). absurd (some e)) (λ (k : IsChildOf at p n c). k) was.is, same)

pub passing_end : (at : ℕ → Node) (n p letter c : ℕ) → IsPassing at n p letter c → c ≡ 0 → IsChildAt at n p letter 0
passing_end at n p letter c was e = inl (refl, λ j k. was.passed j k (omega (arith, e, k.0)))

pub passing_within : (at : ℕ → Node) (n p letter c : ℕ) → IsPassing at n p letter c → c ≢ 0 → c < n
passing_within at n p letter c was some = ⊎_elim (λ (e : c ≡ 0). absurd (some e)) (λ (k : IsChildOf at p n c). k.1) was.is

-- the walk down a word
pub record IsDown (at : ℕ → Node) (n : ℕ) (w : List ℕ) (node depth : ℕ) : Type 0 where
  pub node_within : node < n
  pub front : word_of at node ≡ take depth w

pub down_begin : (at : ℕ → Node) (n : ℕ) (w : List ℕ) → 0 < n → IsDown at n w 0 0
down_begin at n w lt = record { node_within = lt; front = refl }

pub down_more : (at : ℕ → Node) (n : ℕ) (w : List ℕ) (node depth c : ℕ) → IsTrie at n → IsDown at n w node depth → depth < length w → IsChildAt at n node (get_or w depth 0) c → c ≢ 0 → IsDown at n w c (depth + 1)
down_more at n w node depth c t was lt child some =
    let k : IsChildOf at node n c × ((at c).letter ≡ get_or w depth 0) =
    ⊎_elim (λ (e : (c ≡ 0) × ((j : ℕ) → IsChildOf at node n j → (at j).letter ≢ get_or w depth 0)). absurd (some e.0)) (λ (r : IsChildOf at node n c × ((at c).letter ≡ get_or w depth 0)). r) child in
    record {
      node_within = k.0.1;
      front = word_step at n t c k.0.0 k.0.1 ∙ (ap (λ (p : ℕ). word_of at p ++ (at c).letter ∷ []) k.0.2 ∙ (ap (λ (u : List ℕ). u ++ (at c).letter ∷ []) was.front ∙ (ap (λ (x : ℕ). take depth w ++ x ∷ []) k.1 ∙ sym (take_more w depth 0 lt))));
    }

pub down_stop : (at : ℕ → Node) (n : ℕ) (w : List ℕ) (node depth c : ℕ) → IsDown at n w node depth → depth < length w → IsChildAt at n node (get_or w depth 0) c → c ≡ 0 → IsReached at n w node depth
down_stop at n w node depth c was lt child none =
    record {
      node_within = was.node_within;
      depth_within = omega arith;
      front = was.front;
      last = inr (⊎_elim
          (λ (e : (c ≡ 0) × ((j : ℕ) → IsChildOf at node n j → (at j).letter ≢ get_or w depth 0)). e.1)
          (λ (r : IsChildOf at node n c × ((at c).letter ≡ get_or w depth 0)). absurd (omega (arith, r.0.0, none)))
          child);
    }

pub down_end : (at : ℕ → Node) (n : ℕ) (w : List ℕ) (node depth : ℕ) → IsDown at n w node depth → depth ≡ length w → IsReached at n w node (length w)
down_end at n w node depth was all =
    record {
      node_within = was.node_within;
      depth_within = omega arith;
      front = was.front ∙ ap (λ (k : ℕ). take k w) all;
      last = inl refl;
    }

-- past the reached depth no node's word goes on as the word does
pub reached_last : (at : ℕ → Node) (n : ℕ) (w : List ℕ) (node depth : ℕ) → IsTrie at n → IsReached at n w node depth → depth < length w → (i : ℕ) → i < n → word_of at i ≡ take (depth + 1) w → ⊥
reached_last at n w node depth t r lt i li e =
    let long : length (word_of at i) ≡ depth + 1 = ap (λ (u : List ℕ). length u) e ∙ length-take-le (depth + 1) w (omega arith) in
    let pos : 0 < i = positive i long in
    let both = same_from_push (word_of at (at i).parent) (take depth w) (at i).letter (get_or w depth 0) (sym (word_step at n t i pos li) ∙ (e ∙ take_more w depth 0 lt)) in
    let up : (at i).parent < i = t.up i pos li in
    let parent : (at i).parent ≡ node = one_node at n t (at i).parent node (omega arith) r.node_within (both.0 ∙ sym r.front) in
    ⊎_elim
    (λ (all : depth ≡ length w). omega arith)
    (λ (none : (j : ℕ) → IsChildOf at node n j → (at j).letter ≢ get_or w depth 0). none i (pos, li, parent) both.1)
    r.last
  where
    positive : (j : ℕ) → length (word_of at j) ≡ depth + 1 → 0 < j
    positive zero long = absurd (omega (arith, long))
    positive (suc j) long = omega arith

pub reached_found : (at : ℕ → Node) (n : ℕ) (w : List ℕ) (node depth : ℕ) → IsTrie at n → IsReached at n w node depth → length w ≤ depth → IsFound at n w node
reached_found at n w node depth t r all =
    let is : word_of at node ≡ w = r.front ∙ take_all depth w all in
    ⊎_elim
    (λ (e : node ≡ 0). inl (e, λ i pos lt p. let empty : w ≡ [] = sym is ∙ ap (word_of at) e in empty))
    (λ (o : node ≡ 0 → ⊥). inr (omega (arith, o), r.node_within, is))
    (cases_eq node 0)

pub reached_none : (at : ℕ → Node) (n : ℕ) (w : List ℕ) (node depth : ℕ) → IsTrie at n → IsReached at n w node depth → depth < length w → IsFound at n w 0
reached_none at n w node depth t r lt =
    inl (
      refl,
      λ i pos li p.
          let f = front_node at n t i (depth + 1) li (omega (arith, prefix_long w (word_of at i) p)) in
          absurd (reached_last at n w node depth t r lt f.0 f.1 (f.2 ∙ prefix_take (depth + 1) w (word_of at i) p (omega arith))),
    )

pub found_none : (at : ℕ → Node) (n : ℕ) (w : List ℕ) → n ≡ 0 → IsFound at n w 0
found_none at n w e = inl (refl, λ i pos lt p. absurd (omega (arith, e, lt)))
