-- From a node up to the root: comparing, and marking.
use Rattle.std.proofs.Common.{◌≡◌, ◌≢◌, ℕ, ◌+◌, ◌-◌, ◌<◌, ◌≤◌, inl, inr, ⊎_elim, List, [], ◌∷◌, ◌++◌, length, take, get_or, set, Option, Some, None, refl, ap, sym, ◌∙◌, subst, arith}
use Rattle.std.proofs.lemmas.Bool.{cases_eq}
use Rattle.std.proofs.lemmas.List.{same_from_push, take_all, take_more, length-take-le, get_or-set_same, get_or-set_other}
use Rattle.lw_words.specs.Word.{IsPrefix}
use Rattle.lw_cache.specs.bodies.Trie.{no_node, node_at, word_of, IsTrie, no_answer, last_out}
use Rattle.lw_cache.specs.bodies.Filling.{AgreesAt, AgreeBetween, ComparedTo, marked, AreMarked}
use Rattle.lw_cache.specs.declared.node.Node.{Node}
use Rattle.lw_cache.proofs.KnownLemmas.{prefix_long}
use Rattle.lw_cache.proofs.PlainLemmas.{take_from_prefix, prefix_from_take}
use Rattle.lw_cache.proofs.TrieLemmas.{word_step, one_node, not_root}

-- the walk up: the node has the first letters of the word
pub record IsUp (at : ℕ → Node) (n : ℕ) (w : List ℕ) (node depth : ℕ) : Type 0 where
  pub within : node < n
  pub short : depth ≤ length w
  pub front : word_of at node ≡ take depth w

pub up_begin : (at : ℕ → Node) (n e depth : ℕ) → e < n → depth ≡ length (word_of at e) → IsUp at n (word_of at e) e depth
up_begin at n e depth lt is = record { within = lt; short = omega arith; front = sym (take_all depth (word_of at e) (omega arith)) }

module _ (at : ℕ → Node) (n : ℕ) (t : IsTrie at n) (w : List ℕ) (node depth : ℕ) (u : IsUp at n w node depth) (some : 0 < depth) where
  front_long : length (word_of at node) ≡ depth
  front_long = ap (λ (v : List ℕ). length v) u.front ∙ length-take-le depth w u.short

  pub up_positive : 0 < node
  up_positive = not_root at n t node u.within (omega (arith, front_long, some))

  pub up_more : IsUp at n w (at node).parent (depth - 1)
  up_more =
      let parent : (at node).parent < node = t.up node up_positive u.within in
      let here : word_of at node ≡ take (depth - 1) w ++ get_or w (depth - 1) 0 ∷ [] =
      u.front ∙ (ap (λ (k : ℕ). take k w) (again depth some) ∙ take_more w (depth - 1) 0 (omega (arith, u.short, some))) in
      record {
        within = omega (arith, parent, u.within);
        short = omega (arith, u.short);
        front = (same_from_push (word_of at (at node).parent) (take (depth - 1) w) (at node).letter (get_or w (depth - 1) 0) (sym (word_step at n t node up_positive u.within) ∙ here)).0;
      }
    where
      again : (k : ℕ) → 0 < k → k ≡ k - 1 + 1
      again k pos = omega arith

  -- the only node on the way at this depth
  pub up_only : (i : ℕ) → i < n → IsPrefix (word_of at i) w → length (word_of at i) ≡ depth → i ≡ node
  up_only i lt p long = one_node at n t i node lt u.within (sym (take_from_prefix (word_of at i) w p) ∙ (ap (λ (k : ℕ). take k w) long ∙ sym u.front))

  pub up_out : (outs : List ℕ) → last_out outs (word_of at node) ≡ get_or outs (depth - 1) 0
  up_out outs = ap (λ (k : ℕ). get_or outs (k - 1) 0) front_long

  agree_more : (outs : List ℕ) (limit : ℕ) → AgreesAt at outs node → AgreeBetween at n w outs depth limit → AgreeBetween at n w outs (depth - 1) limit
  agree_more outs limit here was i pos lt p deep short =
      ⊎_elim
      (λ (same : length (word_of at i) ≡ depth). subst (AgreesAt at outs) (sym (up_only i lt p same)) here)
      (λ (other : length (word_of at i) ≡ depth → ⊥). was i pos lt p (omega (arith, deep, other)) short)
      (cases_eq (length (word_of at i)) depth)

  pub compare_same : (outs : List ℕ) (found : Option (ℕ × ℕ)) → ((at node).answer ≢ no_answer → (at node).output ≡ get_or outs (depth - 1) 0) → ComparedTo at n w outs depth found → ComparedTo at n w outs (depth - 1) found
  compare_same outs None same was = agree_more outs (length w) (λ told. same told ∙ sym (up_out outs)) was
  compare_same outs (Some found) same was = (omega (arith, was.0), was.1, agree_more outs found.1 (λ told. same told ∙ sym (up_out outs)) was.2)

  pub compare_other : (outs : List ℕ) → (at node).answer ≢ no_answer → (at node).output ≢ get_or outs (depth - 1) 0 → ComparedTo at n w outs (depth - 1) (Some ((at node).answer, depth - 1))
  compare_other outs told other = (
    omega arith,
    record {
      node = node;
      not_root = up_positive;
      within = u.within;
      front = u.front ∙ ap (λ (k : ℕ). take k w) again;
      long = omega (arith, u.short, some);
      told = refl;
      some = told;
      other = other;
    },
    λ i pos lt p deep short. absurd (omega (arith, deep, short)),
  )
    where
      again : depth ≡ depth - 1 + 1
      again = omega arith

pub compare_begin : (at : ℕ → Node) (n : ℕ) (w outs : List ℕ) (depth : ℕ) → depth ≡ length w → ComparedTo at n w outs depth None
compare_begin at n w outs depth is i pos lt p deep short = absurd (omega (arith, deep, short, is))

pub node_set_same : (nodes : List Node) (i : ℕ) (b : Node) → i < length nodes → node_at (set nodes i b) i ≡ b
node_set_same nodes i b lt = get_or-set_same nodes i b no_node lt

pub node_set_other : (nodes : List Node) (i j : ℕ) (b : Node) → j ≢ i → node_at (set nodes i b) j ≡ node_at nodes j
node_set_other nodes i j b other = get_or-set_other nodes i j b no_node other

pub mark_begin : (was : ℕ → Node) (n : ℕ) (w outs : List ℕ) (answer depth : ℕ) → depth ≡ length w → AreMarked was was n w outs answer depth
mark_begin was n w outs answer depth is =
    record {
      each = λ i. inl refl;
      way = λ i pos lt p deep none. absurd (omega (arith, deep, is, prefix_long (word_of was i) w p));
    }

module _ (was : ℕ → Node) (n : ℕ) (t : IsTrie was n) (w outs : List ℕ) (answer node depth : ℕ) (u : IsUp was n w node depth) (some : 0 < depth) (few : answer < no_answer) where
  -- the node told an answer, or was marked
  pub mark_told : (at : ℕ → Node) → AreMarked was at n w outs answer depth → (at node).answer ≢ no_answer → AreMarked was at n w outs answer (depth - 1)
  mark_told at m told =
      record {
        each = m.each;
        way = λ i pos lt p deep none. ⊎_elim
            (λ (same : length (word_of was i) ≡ depth).
            let is : i ≡ node = up_only was n t w node depth u some i lt p same in
            ⊎_elim
            (λ (e : at i ≡ was i). absurd (told (ap (λ (k : ℕ). (at k).answer) (sym is) ∙ (ap (λ (b : Node). b.answer) e ∙ none))))
            (λ (r : (0 < i) × (i < n) × IsPrefix (word_of was i) w × ((was i).answer ≡ no_answer) × (at i ≡ marked (was i) answer (last_out outs (word_of was i)))). r.4)
            (m.each i))
            (λ (other : length (word_of was i) ≡ depth → ⊥). m.way i pos lt p (omega (arith, deep, other)) none)
            (cases_eq (length (word_of was i)) depth);
      }

  mark_was : (at : ℕ → Node) → AreMarked was at n w outs answer depth → (at node).answer ≡ no_answer → at node ≡ was node
  mark_was at m none =
      ⊎_elim
      (λ (e : at node ≡ was node). e)
      (λ (r : (0 < node) × (node < n) × IsPrefix (word_of was node) w × ((was node).answer ≡ no_answer) × (at node ≡ marked (was node) answer (last_out outs (word_of was node)))).
      absurd (omega (arith, few, ap (λ (b : Node). b.answer) r.4, none)))
      (m.each node)

  pub mark_here : (at now : ℕ → Node) → AreMarked was at n w outs answer depth → (at node).answer ≡ no_answer → now node ≡ marked (at node) answer (get_or outs (depth - 1) 0) → ((i : ℕ) → i ≢ node → now i ≡ at i) → AreMarked was now n w outs answer (depth - 1)
  mark_here at now m none here others =
      let is : at node ≡ was node = mark_was at m none in
      let told : now node ≡ marked (was node) answer (last_out outs (word_of was node)) =
      here ∙ (ap (λ (b : Node). marked b answer (get_or outs (depth - 1) 0)) is ∙ ap (marked (was node) answer) (sym (up_out was n t w node depth u some outs))) in
      let front : IsPrefix (word_of was node) w = subst (λ (v : List ℕ). IsPrefix v w) (sym u.front) (prefix_from_take (take depth w) w (ap (λ (k : ℕ). take k w) (length-take-le depth w u.short))) in
      record {
        each = λ i. ⊎_elim
            (λ (same : i ≡ node). inr (subst (λ (k : ℕ). (0 < k) × (k < n) × IsPrefix (word_of was k) w × ((was k).answer ≡ no_answer) × (now k ≡ marked (was k) answer (last_out outs (word_of was k)))) (sym same)
            (up_positive was n t w node depth u some, u.within, front, ap (λ (b : Node). b.answer) (sym is) ∙ none, told)))
            (λ (other : i ≡ node → ⊥). ⊎_elim
            (λ (e : at i ≡ was i). inl (others i other ∙ e))
            (λ (r : (0 < i) × (i < n) × IsPrefix (word_of was i) w × ((was i).answer ≡ no_answer) × (at i ≡ marked (was i) answer (last_out outs (word_of was i)))). inr (r.0, r.1, r.2, r.3, others i other ∙ r.4))
            (m.each i))
            (cases_eq i node);
        way = λ i pos lt p deep blank. ⊎_elim
            (λ (same : i ≡ node). subst (λ (k : ℕ). now k ≡ marked (was k) answer (last_out outs (word_of was k))) (sym same) told)
            (λ (other : i ≡ node → ⊥). others i other ∙ m.way i pos lt p (deeper i lt p other deep) blank)
            (cases_eq i node);
      }
    where
      deeper : (i : ℕ) → i < n → IsPrefix (word_of was i) w → i ≢ node → depth - 1 < length (word_of was i) → depth < length (word_of was i)
      deeper i lt p other deep =
          ⊎_elim
          (λ (same : length (word_of was i) ≡ depth). absurd (other (up_only was n t w node depth u some i lt p same)))
          (λ (differ : length (word_of was i) ≡ depth → ⊥). let le : depth ≤ length (word_of was i) = omega arith in omega (arith, le, differ))
          (cases_eq (length (word_of was i)) depth)

  pub mark_up : (at : ℕ → Node) → AreMarked was at n w outs answer depth → IsUp was n w (at node).parent (depth - 1)
  mark_up at m =
      subst (λ (p : ℕ). IsUp was n w p (depth - 1))
      (⊎_elim
      (λ (e : at node ≡ was node). ap (λ (b : Node). b.parent) (sym e))
      (λ (r : (0 < node) × (node < n) × IsPrefix (word_of was node) w × ((was node).answer ≡ no_answer) × (at node ≡ marked (was node) answer (last_out outs (word_of was node)))). ap (λ (b : Node). b.parent) (sym r.4))
      (m.each node))
      (up_more was n t w node depth u some)
