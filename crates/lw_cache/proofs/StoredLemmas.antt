-- What the nodes tell of a word.
use Rattle.std.proofs.Common.{◌≡◌, ◌≢◌, ◌↔◌, ℕ, zero, suc, ◌+◌, ◌<◌, ◌≤◌, ◌⊎◌, inl, inr, ⊎_elim, List, [], ◌∷◌, ◌++◌, length, refl, ap, sym, ◌∙◌, subst, arith, append-nil, append_assoc}
use Rattle.std.proofs.lemmas.Bool.{cases_lt}
use Rattle.std.proofs.lemmas.List.{length_push, take_all, take-append-le, get_or-map, length-map}
use Rattle.lw_words.specs.Word.{Answer, answer_at, answers_of, IsPrefix}
use Rattle.lw_words.specs.declared.kept.KeptAnswer.{KeptAnswer}
use Rattle.lw_cache.specs.Caching.{Claim, claim_at, IsClaimedBy}
use Rattle.lw_cache.specs.Clash.{IsClear}
use Rattle.lw_cache.specs.Known.{IsKnown}
use Rattle.lw_cache.specs.Standing.{Stands}
use Rattle.lw_cache.specs.declared.known.Known.TheVariants.{Yes, Pending, No}
use Rattle.lw_cache.specs.declared.node.Node.{Node}
use Rattle.lw_cache.specs.declared.node.Held.{Held}
use Rattle.lw_cache.specs.bodies.Trie.{node_at, word_of, held_at, claims_of, no_answer, no_claim, IsChildOf, IsTrie, AreAnswered, AreEnds, AreLeast, IsStored}
use Rattle.lw_cache.proofs.KnownLemmas.{prefix_long}
use Rattle.lw_cache.proofs.PlainLemmas.{prefix_from_take, take_from_prefix}
use Rattle.lw_cache.proofs.TrieLemmas.{word_step, one_node, some_word, not_root}

pub prefix_same : (w v : List ℕ) → w ≡ v → IsPrefix w v
prefix_same w v e = ([], sym e ∙ sym (append-nil w))

pub prefix_over : (u v w : List ℕ) → IsPrefix u v → IsPrefix v w → IsPrefix u w
prefix_over u v w p q = (p.0 ++ q.0, q.1 ∙ (ap (λ (x : List ℕ). x ++ q.0) p.1 ∙ append_assoc u p.0 q.0))

-- a prefix of a word with a letter more is that word or a prefix of the word
pub prefix_cases : (u v : List ℕ) (x : ℕ) → IsPrefix u (v ++ x ∷ []) → (u ≡ v ++ x ∷ []) ⊎ IsPrefix u v
prefix_cases u v x p =
    let long : length (v ++ x ∷ []) ≡ length v + 1 = length_push v x in
    ⊎_elim
    (λ (less : length v < length u). inl (sym (take_from_prefix u (v ++ x ∷ []) p) ∙ take_all (length u) (v ++ x ∷ []) (omega (arith, long))))
    (λ (short : length u ≤ length v). inr (prefix_from_take u v (sym (take-append-le (length u) v (x ∷ []) short) ∙ take_from_prefix u (v ++ x ∷ []) p)))
    (cases_lt (length v) (length u))

module _ (at : ℕ → Node) (n : ℕ) (trie : IsTrie at n) where
  pub child_prefix : (i j : ℕ) → IsChildOf at i n j → IsPrefix (word_of at i) (word_of at j)
  child_prefix i j child = ((at j).letter ∷ [], word_step at n trie j child.0 child.1 ∙ ap (λ (p : ℕ). word_of at p ++ (at j).letter ∷ []) child.2)

  -- a node's claim is at most those further down
  pub least_above : AreLeast at n → (most i e : ℕ) → e ≤ most → 0 < i → i < n → e < n → IsPrefix (word_of at i) (word_of at e) → (at i).claim ≤ (at e).claim
  least_above least most i zero le pos li lt p = absurd (omega (arith, some_word at n trie i pos li, prefix_long (word_of at i) [] p))
  least_above least zero i (suc e) le pos li lt p = absurd (omega arith)
  least_above least (suc most) i (suc e) le pos li lt p =
      let parent : ℕ = (at (suc e)).parent in
      let up : parent < suc e = trie.up (suc e) (omega arith) lt in
      let step = word_step at n trie (suc e) (omega arith) lt in
      ⊎_elim
      (λ (same : word_of at i ≡ word_of at parent ++ (at (suc e)).letter ∷ []).
      let is : i ≡ suc e = one_node at n trie i (suc e) li lt (same ∙ sym step) in
      omega (arith, ap (λ (k : ℕ). (at k).claim) is))
      (λ (q : IsPrefix (word_of at i) (word_of at parent)).
      let rooted : 0 < parent = not_root at n trie parent (omega arith) (omega (arith, some_word at n trie i pos li, prefix_long (word_of at i) (word_of at parent) q)) in
      let above : (at i).claim ≤ (at parent).claim = least_above least most i parent (omega arith) pos li (omega arith) q in
      let here : (at parent).claim ≤ (at (suc e)).claim = (least parent rooted (omega arith)).below (suc e) (omega arith, lt, refl) in
      omega arith)
      (prefix_cases (word_of at i) (word_of at parent) (at (suc e)).letter (subst (IsPrefix (word_of at i)) step p))

  -- a node with a claim is on the way to a held one with this number
  pub held_below : (held : List Held) → AreEnds at n held → AreLeast at n → (most i : ℕ) → n ≤ i + most → 0 < i → i < n → (at i).claim ≢ no_claim
      → (k : ℕ) × (k < length held) × ((held_at held k).number ≡ (at i).claim) × IsPrefix (word_of at i) (word_of at (held_at held k).end)
  held_below held ends least zero i far pos lt some = absurd (omega arith)
  held_below held ends least (suc most) i far pos lt some =
      ⊎_elim
      (λ (own : (at i).claim ≡ (at i).ends).
      let h = ends.only i pos lt (λ e. some (own ∙ e)) in
      (h.0, h.1, sym (ends.told h.0 h.1) ∙ (ap (λ (j : ℕ). (at j).ends) h.2 ∙ sym own), prefix_same (word_of at i) (word_of at (held_at held h.0).end) (ap (λ (j : ℕ). word_of at j) (sym h.2))))
      (λ (child : (j : ℕ) × IsChildOf at i n j × ((at i).claim ≡ (at j).claim)).
      let up : (at child.0).parent < child.0 = trie.up child.0 child.1.0 child.1.1 in
      let h = held_below held ends least most child.0 (omega (arith, child.1.2)) child.1.0 child.1.1 (λ e. some (child.2 ∙ e)) in
      (h.0, h.1, h.2 ∙ sym child.2, prefix_over (word_of at i) (word_of at child.0) (word_of at (held_at held h.0).end) (child_prefix i child.0 child.1) h.3))
      (least i pos lt).some

  pub claim_is : (held : List Held) (k : ℕ) → k < length held → claim_at (claims_of at held) k ≡ record { number = (held_at held k).number; word = word_of at (held_at held k).end }
  claim_is held k lt = get_or-map (λ (h : Held). let c : Claim = record { number = h.number; word = word_of at h.end } in c) held k (record { number = 0; end = 0 }) (record { number = 0; word = [] }) lt

  -- who claims a word
  pub claimed_is : (held : List Held) (w : List ℕ) (m : ℕ) → IsClaimedBy (claims_of at held) w m ↔ ((k : ℕ) × (k < length held) × ((held_at held k).number ≡ m) × IsPrefix w (word_of at (held_at held k).end))
  claimed_is held w m = (
    λ c.
        let lt : c.0 < length held = omega (arith, c.1, length-map held (λ (h : Held). let k : Claim = record { number = h.number; word = word_of at h.end } in k)) in
        let is = claim_is held c.0 lt in
        (c.0, lt, ap (λ (k : Claim). k.number) (sym is) ∙ c.2, subst (λ (k : Claim). IsPrefix w k.word) is c.3),
    λ h.
        let is = claim_is held h.0 h.1 in
        (h.0, omega (arith, h.1, length-map held (λ (g : Held). let k : Claim = record { number = g.number; word = word_of at g.end } in k)), ap (λ (k : Claim). k.number) is ∙ h.2, subst (λ (k : Claim). IsPrefix w k.word) (sym is) h.3),
  )

  no_word : (held : List Held) (ks : List Answer) (w : List ℕ) → AreAnswered at n ks → ((i : ℕ) → 0 < i → i < n → IsPrefix w (word_of at i) → w ≡ []) → w ≢ [] → ¬ IsKnown ks w
  no_word held ks w answered none some known =
      ⊎_elim some
      (λ (r : (a : ℕ) × IsClear ks a × IsPrefix w (answer_at ks a).word).
      let e = answered.has r.0 r.1 in
      let p : IsPrefix w (word_of at e.0) = subst (IsPrefix w) (sym e.2) r.2 in
      let pos : 0 < e.0 = not_root at n trie e.0 e.1 (omega (arith, prefix_long w (word_of at e.0) p, filled w some)) in
      some (none e.0 pos e.1 p))
      known
    where
      filled : (v : List ℕ) → v ≢ [] → 0 < length v
      filled [] other = absurd (other refl)
      filled (x ∷ v) other = omega arith

  -- a node's answer is what its word is known by
  pub known_here : (ks : List Answer) (i : ℕ) → AreAnswered at n ks → 0 < i → i < n → (at i).answer ≢ no_answer → IsKnown ks (word_of at i)
  known_here ks i answered pos lt some = let r = answered.clear i pos lt some in inr ((at i).answer, r.0, r.1)

  pub unknown_here : (ks : List Answer) (i : ℕ) → AreAnswered at n ks → length ks ≤ no_answer → 0 < i → i < n → (at i).answer ≡ no_answer → ¬ IsKnown ks (word_of at i)
  unknown_here ks i answered few pos lt none known =
      ⊎_elim
      (λ (e : word_of at i ≡ []). let long : length (word_of at i) ≡ 0 = ap (λ (v : List ℕ). length v) e in omega (arith, long, some_word at n trie i pos lt))
      (λ (r : (a : ℕ) × IsClear ks a × IsPrefix (word_of at i) (answer_at ks a).word). omega (arith, (answered.each r.0 r.1 i pos lt r.2).0, r.1.0, none, few))
      known

module _ (nodes : List Node) (held : List Held) (kept : List KeptAnswer) (cs : List Claim) (claims : claims_of (node_at nodes) held ≡ cs) (s : IsStored (node_at nodes) (length nodes) held kept) where
  pub stands_no : (w : List ℕ) → w ≢ [] → ((i : ℕ) → 0 < i → i < length nodes → IsPrefix w (word_of (node_at nodes) i) → w ≡ []) → Stands (answers_of kept) cs w No
  stands_no w some none = (
    no_word (node_at nodes) (length nodes) s.trie held (answers_of kept) w s.answered none some,
    λ m by.
        let h = (claimed_is (node_at nodes) (length nodes) s.trie held w m).0 (subst (λ (l : List Claim). IsClaimedBy l w m) (sym claims) by) in
        let e = s.ends.within h.0 h.1 in
        some (none (held_at held h.0).end e.0 e.1 h.3),
  )

  pub stands_yes : (w : List ℕ) (i : ℕ) → 0 < i → i < length nodes → word_of (node_at nodes) i ≡ w → (node_at nodes i).answer ≢ no_answer → Stands (answers_of kept) cs w Yes
  stands_yes w i pos lt is some = subst (IsKnown (answers_of kept)) is (known_here (node_at nodes) (length nodes) s.trie (answers_of kept) i s.answered pos lt some)

  pub unknown_at : (w : List ℕ) (i : ℕ) → length (answers_of kept) ≤ no_answer → 0 < i → i < length nodes → word_of (node_at nodes) i ≡ w → (node_at nodes i).answer ≡ no_answer → ¬ IsKnown (answers_of kept) w
  unknown_at w i few pos lt is none known = unknown_here (node_at nodes) (length nodes) s.trie (answers_of kept) i s.answered few pos lt none (subst (IsKnown (answers_of kept)) (sym is) known)

  at_most : (w : List ℕ) (i m : ℕ) → 0 < i → i < length nodes → word_of (node_at nodes) i ≡ w → IsClaimedBy cs w m → ((node_at nodes i).claim ≤ m) × (m < no_claim)
  at_most w i m pos lt is by =
      let h = (claimed_is (node_at nodes) (length nodes) s.trie held w m).0 (subst (λ (l : List Claim). IsClaimedBy l w m) (sym claims) by) in
      let e = s.ends.within h.0 h.1 in
      let up : (node_at nodes i).claim ≤ (node_at nodes (held_at held h.0).end).claim =
      least_above (node_at nodes) (length nodes) s.trie s.least (held_at held h.0).end i (held_at held h.0).end (omega arith) pos lt e.1 (subst (λ (v : List ℕ). IsPrefix v (word_of (node_at nodes) (held_at held h.0).end)) (sym is) h.3) in
      let own : (node_at nodes (held_at held h.0).end).claim ≤ (node_at nodes (held_at held h.0).end).ends = (s.least (held_at held h.0).end e.0 e.1).own in
      (omega (arith, up, own, s.ends.told h.0 h.1, h.2), omega (arith, s.ends.few h.0 h.1, h.2))

  pub stands_pending : (w : List ℕ) (i : ℕ) → length (answers_of kept) ≤ no_answer → 0 < i → i < length nodes → word_of (node_at nodes) i ≡ w → (node_at nodes i).answer ≡ no_answer → (node_at nodes i).claim ≢ no_claim
      → Stands (answers_of kept) cs w (Pending (node_at nodes i).claim) × ((node_at nodes i).claim < no_claim)
  stands_pending w i few pos lt is none some =
      let h = held_below (node_at nodes) (length nodes) s.trie held s.ends s.least (length nodes) i (omega arith) pos lt some in (
        (
          unknown_at w i few pos lt is none,
          subst (λ (l : List Claim). IsClaimedBy l w (node_at nodes i).claim) claims ((claimed_is (node_at nodes) (length nodes) s.trie held w (node_at nodes i).claim).1
              (h.0, h.1, h.2, subst (λ (v : List ℕ). IsPrefix v (word_of (node_at nodes) (held_at held h.0).end)) is h.3)),
          λ m by. (at_most w i m pos lt is by).0,
        ),
        omega (arith, s.ends.few h.0 h.1, h.2),
      )

  pub stands_free : (w : List ℕ) (i : ℕ) → length (answers_of kept) ≤ no_answer → 0 < i → i < length nodes → word_of (node_at nodes) i ≡ w → (node_at nodes i).answer ≡ no_answer → (node_at nodes i).claim ≡ no_claim → Stands (answers_of kept) cs w No
  stands_free w i few pos lt is none free = (unknown_at w i few pos lt is none, λ m by. let both = at_most w i m pos lt is by in omega (arith, both.0, both.1, free))
