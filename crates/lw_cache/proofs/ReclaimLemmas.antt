-- A word that gets a claim, or loses it.
use Rattle.std.proofs.Common.{◌≡◌, ◌≢◌, ℕ, ◌+◌, ◌<◌, ◌≤◌, ◌⊎◌, inl, inr, ⊎_elim, not, ◌==◌, List, [], ◌∷◌, ◌++◌, length, set, refl, ap, sym, ◌∙◌, subst, arith}
use Rattle.std.proofs.lemmas.Bool.{cases_eq, cases_lt, cases_order}
use Rattle.std.proofs.lemmas.List.{length-set, length_push, get_or_append_left, get_or_push, map_push}
use Rattle.lw_words.specs.Word.{Answer, answers_of}
use Rattle.lw_words.specs.declared.kept.KeptAnswer.{KeptAnswer}
use Rattle.lw_cache.specs.Caching.{Claim, claim_of, without_claim}
use Rattle.lw_cache.specs.bodies.Trie.{node_at, word_of, held_at, claims_of, IsChildOf, IsTrie, IsLeast, AreLeast, AreAnswered, IsStored, no_claim}
use Rattle.lw_cache.specs.bodies.Filling.{with_claim, with_ends, IsReclaimed, IsEndOf, without_held}
use Rattle.lw_cache.specs.declared.node.Node.{Node}
use Rattle.lw_cache.specs.declared.node.Held.{Held}
use Rattle.lw_cache.proofs.HeldLemmas.{filter_in, filter_out, filter_once, claims_without, other_number, passes_number}
use Rattle.lw_cache.proofs.ShapeLemmas.{SameShape, shape_word, shape_trie, shape_answered}
use Rattle.lw_cache.proofs.MoreLemmas.{claims_same}
use Rattle.lw_cache.proofs.UpLemmas.{node_set_same, node_set_other}

module _ (nodes : List Node) (end ends : ℕ) (within : end < length nodes) where
  ended_is : (f : Node → ℕ) → ((b : Node) (x : ℕ) → f (with_ends b x) ≡ f b) → (i : ℕ) → f (node_at (set nodes end (with_ends (node_at nodes end) ends)) i) ≡ f (node_at nodes i)
  ended_is f keeps i =
      ⊎_elim
      (λ (e : i ≡ end). subst (λ (k : ℕ). f (node_at (set nodes end (with_ends (node_at nodes end) ends)) k) ≡ f (node_at nodes k)) (sym e) (ap f (node_set_same nodes end (with_ends (node_at nodes end) ends) within) ∙ keeps (node_at nodes end) ends))
      (λ (o : i ≡ end → ⊥). ap f (node_set_other nodes end i (with_ends (node_at nodes end) ends) o))
      (cases_eq i end)

  ended_shape : SameShape (node_at nodes) (node_at (set nodes end (with_ends (node_at nodes end) ends)))
  ended_shape = record {
    letter = ended_is (λ b. b.letter) (λ b x. refl);
    parent = ended_is (λ b. b.parent) (λ b x. refl);
    first = ended_is (λ b. b.first) (λ b x. refl);
    next = ended_is (λ b. b.next) (λ b x. refl);
  }

pub ended_trie : (nodes : List Node) (end ends : ℕ) → IsTrie (node_at nodes) (length nodes) → end < length nodes → IsTrie (node_at (set nodes end (with_ends (node_at nodes end) ends))) (length (set nodes end (with_ends (node_at nodes end) ends)))
ended_trie nodes end ends t within =
    subst (IsTrie (node_at (set nodes end (with_ends (node_at nodes end) ends)))) (sym (length-set nodes end (with_ends (node_at nodes end) ends)))
    (shape_trie (node_at nodes) (node_at (set nodes end (with_ends (node_at nodes end) ends))) (length nodes) t (ended_shape nodes end ends within))

pub ended_least : (nodes : List Node) (end ends : ℕ) → IsTrie (node_at nodes) (length nodes) → end < length nodes → AreLeast (node_at nodes) (length nodes) → (i : ℕ) → 0 < i → i < length nodes → i ≢ end
    → IsLeast (node_at (set nodes end (with_ends (node_at nodes end) ends))) (length (set nodes end (with_ends (node_at nodes end) ends))) i (node_at (set nodes end (with_ends (node_at nodes end) ends)) i).claim
ended_least nodes end ends t within least i pos lt other =
    let at : ℕ → Node = node_at (set nodes end (with_ends (node_at nodes end) ends)) in
    let claim : (j : ℕ) → (at j).claim ≡ (node_at nodes j).claim = ended_is nodes end ends within (λ b. b.claim) (λ b x. refl) in
    let parent : (j : ℕ) → (at j).parent ≡ (node_at nodes j).parent = ended_is nodes end ends within (λ b. b.parent) (λ b x. refl) in
    let own : (at i).ends ≡ (node_at nodes i).ends = ap (λ (b : Node). b.ends) (node_set_other nodes end i (with_ends (node_at nodes end) ends) other) in
    let l = least i pos lt in
    let r : IsLeast at (length nodes) i (at i).claim = record {
      own = omega (arith, l.own, claim i, own);
      below = λ j k. omega (arith, l.below j (k.0, k.1, sym (parent j) ∙ k.2), claim i, claim j);
      some = ⊎_elim
          (λ (e : (node_at nodes i).claim ≡ (node_at nodes i).ends). inl (claim i ∙ (e ∙ sym own)))
          (λ (q : (j : ℕ) × IsChildOf (node_at nodes) i (length nodes) j × ((node_at nodes i).claim ≡ (node_at nodes j).claim)). inr (q.0, (q.1.0, q.1.1, parent q.0 ∙ q.1.2), claim i ∙ (q.2 ∙ sym (claim q.0))))
          l.some;
    } in
    subst (λ (n : ℕ). IsLeast at n i (at i).claim) (sym (length-set nodes end (with_ends (node_at nodes end) ends))) r

module _ (was at : ℕ → Node) (n end ends : ℕ) (r : IsReclaimed was at n end ends) where
  reclaimed_is : (f : Node → ℕ) → ((b : Node) (x y : ℕ) → f (with_claim (with_ends b x) y) ≡ f b) → ((b : Node) (y : ℕ) → f (with_claim b y) ≡ f b) → (i : ℕ) → f (at i) ≡ f (was i)
  reclaimed_is f both one i =
      ⊎_elim
      (λ (e : i ≡ end). subst (λ (k : ℕ). f (at k) ≡ f (was k)) (sym e) (ap f r.here ∙ both (was end) ends (at end).claim))
      (λ (o : i ≡ end → ⊥). ap f (r.others i o) ∙ one (was i) (at i).claim)
      (cases_eq i end)

  pub reclaimed_shape : SameShape was at
  reclaimed_shape = record {
    letter = reclaimed_is (λ b. b.letter) (λ b x y. refl) (λ b y. refl);
    parent = reclaimed_is (λ b. b.parent) (λ b x y. refl) (λ b y. refl);
    first = reclaimed_is (λ b. b.first) (λ b x y. refl) (λ b y. refl);
    next = reclaimed_is (λ b. b.next) (λ b x y. refl) (λ b y. refl);
  }

  other_ends : (i : ℕ) → i ≢ end → (at i).ends ≡ (was i).ends
  other_ends i o = ap (λ (b : Node). b.ends) (r.others i o)

  here_ends : (at end).ends ≡ ends
  here_ends = ap (λ (b : Node). b.ends) r.here

  reclaimed_answered : (ks : List Answer) → IsTrie was n → AreAnswered was n ks → AreAnswered at n ks
  reclaimed_answered ks t a = shape_answered was at n t reclaimed_shape ks (reclaimed_is (λ b. b.answer) (λ b x y. refl) (λ b y. refl)) (reclaimed_is (λ b. b.output) (λ b x y. refl) (λ b y. refl)) a

  -- a claim of a word that had none
  pub claimed_stored : (held : List Held) (kept : List KeptAnswer) → IsStored was n held kept → 0 < end → end < n → (was end).ends ≡ no_claim → ends < no_claim → ((k : ℕ) → k < length held → (held_at held k).number ≢ ends) → IsStored at n (held ++ record { number = ends; end = end } ∷ []) kept
  claimed_stored held kept s pos within free few unused =
      let new : Held = record { number = ends; end = end } in
      let old : (k : ℕ) → k < length held → held_at (held ++ new ∷ []) k ≡ held_at held k = λ k lt. get_or_append_left held (new ∷ []) (record { number = 0; end = 0 }) k lt in
      let last : (k : ℕ) → k ≡ length held → held_at (held ++ new ∷ []) k ≡ new = λ k is. get_or_push held new (record { number = 0; end = 0 }) k (sym is) in
      let cases : (k : ℕ) → k < length (held ++ new ∷ []) → (k < length held) ⊎ (k ≡ length held) = λ k lt. grown k (omega (arith, lt, length_push held new)) in
      record {
        trie = shape_trie was at n s.trie reclaimed_shape;
        answered = reclaimed_answered (answers_of kept) s.trie s.answered;
        ends = record {
          within = λ k lt. ⊎_elim
              (λ (before : k < length held). subst (λ (h : Held). (0 < h.end) × (h.end < n)) (sym (old k before)) (s.ends.within k before))
              (λ (is : k ≡ length held). subst (λ (h : Held). (0 < h.end) × (h.end < n)) (sym (last k is)) (pos, within))
              (cases k lt);
          told = λ k lt. ⊎_elim
              (λ (before : k < length held). subst (λ (h : Held). (at h.end).ends ≡ h.number) (sym (old k before)) (other_ends (held_at held k).end (apart held s k before free) ∙ s.ends.told k before))
              (λ (is : k ≡ length held). subst (λ (h : Held). (at h.end).ends ≡ h.number) (sym (last k is)) here_ends)
              (cases k lt);
          few = λ k lt. ⊎_elim
              (λ (before : k < length held). subst (λ (h : Held). h.number < no_claim) (sym (old k before)) (s.ends.few k before))
              (λ (is : k ≡ length held). subst (λ (h : Held). h.number < no_claim) (sym (last k is)) few)
              (cases k lt);
          only = λ i low high some. ⊎_elim
              (λ (e : i ≡ end). (length held, omega (arith, length_push held new), ap (λ (h : Held). h.end) (last (length held) refl) ∙ sym e))
              (λ (o : i ≡ end → ⊥). let k = s.ends.only i low high (λ e. some (other_ends i o ∙ e)) in (k.0, omega (arith, k.1, length_push held new), ap (λ (h : Held). h.end) (old k.0 k.1) ∙ k.2))
              (cases_eq i end);
          once = λ k l before lt. ⊎_elim
              (λ (less : l < length held).
              let low : k < length held = omega (arith, before, less) in
              λ e. s.ends.once k l before less (ap (λ (h : Held). h.number) (sym (old k low)) ∙ (e ∙ ap (λ (h : Held). h.number) (old l less))))
              (λ (is : l ≡ length held).
              let low : k < length held = omega (arith, before, is) in
              λ e. unused k low (ap (λ (h : Held). h.number) (sym (old k low)) ∙ (e ∙ ap (λ (h : Held). h.number) (last l is))))
              (cases l lt);
        };
        least = r.least;
        whole = s.whole;
      }
    where
      grown : (k : ℕ) → k < length held + 1 → (k < length held) ⊎ (k ≡ length held)
      grown k lt = ⊎_elim (λ (l : k < length held). inl l) (λ (m : length held ≤ k). inr (omega arith)) (cases_lt k (length held))

      apart : (hs : List Held) → IsStored was n hs kept → (k : ℕ) → k < length hs → (was end).ends ≡ no_claim → (held_at hs k).end ≢ end
      apart hs st k lt blank e = omega (arith, st.ends.few k lt, st.ends.told k lt, ap (λ (j : ℕ). (was j).ends) e, blank)

  pub claimed_claims : (held : List Held) (kept : List KeptAnswer) → IsStored was n held kept → end < n → claims_of at (held ++ record { number = ends; end = end } ∷ []) ≡ claims_of was held ++ claim_of ends (word_of was end) ∷ []
  claimed_claims held kept s within =
      let new : Held = record { number = ends; end = end } in
      let word : (i : ℕ) → i < n → word_of at i ≡ word_of was i = shape_word was at n s.trie reclaimed_shape in
      map_push (λ (h : Held). let c : Claim = record { number = h.number; word = word_of at h.end } in c) held new
      ∙ (ap (λ (l : List Claim). l ++ claim_of ends (word_of at end) ∷ []) (claims_same was at held (λ k lt. word (held_at held k).end (s.ends.within k lt).1))
      ∙ ap (λ (w : List ℕ). claims_of was held ++ claim_of ends w ∷ []) (word end within))

  -- a claim that is given up
  module _ (held : List Held) (kept : List KeptAnswer) (s : IsStored was n held kept) (number : ℕ) (is_end : IsEndOf held number end) (none : ends ≡ no_claim) where
    one_number : (k : ℕ) → k < length held → (held_at held k).number ≡ number → k ≡ is_end.0
    one_number k lt e =
        ⊎_elim
        (λ (same : k ≡ is_end.0). same)
        (λ (o : (k < is_end.0) ⊎ (is_end.0 < k)). ⊎_elim
        (λ (before : k < is_end.0). absurd (s.ends.once k is_end.0 before is_end.1 (e ∙ sym is_end.2)))
        (λ (after : is_end.0 < k). absurd (s.ends.once is_end.0 k after lt (is_end.2 ∙ sym e)))
        o)
        (cases_order k is_end.0)

    -- another claim ends elsewhere
    elsewhere : (k : ℕ) → k < length held → (held_at held k).number ≢ number → (held_at held k).end ≢ end
    elsewhere k lt other e = other (sym (s.ends.told k lt) ∙ (ap (λ (j : ℕ). (was j).ends) (e ∙ sym is_end.3) ∙ (s.ends.told is_end.0 is_end.1 ∙ is_end.2)))

    pub released_stored : IsStored at n (without_held number held) kept
    released_stored =
        record {
          trie = shape_trie was at n s.trie reclaimed_shape;
          answered = reclaimed_answered (answers_of kept) s.trie s.answered;
          ends = record {
            within = λ k lt. let f = filter_in (λ (h : Held). not (h.number == number)) held k lt in subst (λ (h : Held). (0 < h.end) × (h.end < n)) f.2 (s.ends.within f.0 f.1);
            told = λ k lt.
                let f = filter_in (λ (h : Held). not (h.number == number)) held k lt in
                subst (λ (h : Held). (at h.end).ends ≡ h.number) f.2 (other_ends (held_at held f.0).end (elsewhere f.0 f.1 (other_number number (held_at held f.0) f.3)) ∙ s.ends.told f.0 f.1);
            few = λ k lt. let f = filter_in (λ (h : Held). not (h.number == number)) held k lt in subst (λ (h : Held). h.number < no_claim) f.2 (s.ends.few f.0 f.1);
            only = λ i low high some.
                let o : i ≢ end = λ e. some (ap (λ (j : ℕ). (at j).ends) e ∙ (here_ends ∙ none)) in
                let k = s.ends.only i low high (λ e. some (other_ends i o ∙ e)) in
                let other : (held_at held k.0).number ≢ number = λ e. o (sym k.2 ∙ (ap (λ (j : ℕ). (held_at held j).end) (one_number k.0 k.1 e) ∙ is_end.3)) in
                let f = filter_out (λ (h : Held). not (h.number == number)) held k.0 k.1 (passes_number number (held_at held k.0) other) in
                (f.0, f.1, ap (λ (h : Held). h.end) f.2 ∙ k.2);
            once = filter_once (λ (h : Held). not (h.number == number)) held s.ends.once;
          };
          least = r.least;
          whole = s.whole;
        }

    pub released_claims : claims_of at (without_held number held) ≡ without_claim number (claims_of was held)
    released_claims =
        claims_without at number held ∙ ap (without_claim number) (claims_same was at held (λ k lt. shape_word was at n s.trie reclaimed_shape (held_at held k).end (s.ends.within k lt).1))
