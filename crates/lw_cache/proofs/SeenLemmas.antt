-- What was seen of the nodes, as contracts see it.
use Rattle.std.proofs.Common.{◌≡◌, ◌≢◌, ℕ, zero, suc, ◌+◌, ◌-◌, ◌<◌, ◌≤◌, ◌⊎◌, inl, inr, ⊎_elim, List, [], ◌∷◌, length, take, get_or, Option, Some, None, refl, ap, sym, ◌∙◌, subst, arith}
use Rattle.std.specs.List.{All}
use Rattle.std.specs.Ordering.{nat_cmp, ordering_then}
use Rattle.std.specs.Cmp.{nat_cmp_is}
use Rattle.std.specs.Cmp.Lexicographic.{slice_cmp}
use Rattle.std.specs.declared.cmp.Ordering.{Ordering}
use Rattle.std.specs.declared.cmp.Ordering.TheVariants.{Less}
use Rattle.std.proofs.lemmas.Bool.{cases_eq, cases_lt}
use Rattle.std.proofs.lemmas.List.{length-take-le, get_or-take, get_or_push, get_or_append_left, take_all, take_more_same}
use Rattle.lw_words.proofs.Orders.{is_order}
use Rattle.lw_words.specs.Word.{answer_at, answers_of, shortlex_cmp, IsPrefix, IsWord}
use Rattle.lw_words.specs.declared.kept.KeptAnswer.{KeptAnswer}
use Rattle.lw_mealy.specs.Machine.{Rows, after, output, out, answer}
use Rattle.lw_mealy.proofs.WordLemmas.{length-out, out-append, out-take}
use Rattle.lw_cache.specs.Against.{Differs, DiffersFirst}
use Rattle.lw_cache.specs.Caching.{IsClaimedBy}
use Rattle.lw_cache.specs.Clash.{IsClear}
use Rattle.lw_cache.specs.Known.{IsKnown}
use Rattle.lw_cache.specs.Standing.{IsNoted, CountsNoted}
use Rattle.lw_cache.specs.bodies.Trie.{word_of, claims_of, held_at, no_answer, no_claim, IsStored}
use Rattle.lw_cache.specs.bodies.Scanning.{IsLiveWord, CountsLive, DiffersAt, IsFirstTo, AreLetters}
use Rattle.lw_cache.specs.declared.node.Node.{Node}
use Rattle.lw_cache.specs.declared.node.Held.{Held}
use Rattle.lw_cache.proofs.AnswerLemmas.{take_prefix, clear_node}
use Rattle.lw_cache.proofs.KnownLemmas.{prefix_long, prefix_take}
use Rattle.lw_cache.proofs.PlainLemmas.{take_from_prefix, kept_count}
use Rattle.lw_cache.proofs.StoredLemmas.{child_prefix, least_above, held_below, claimed_is, known_here, prefix_over}
use Rattle.lw_cache.proofs.TrieLemmas.{word_step, word_long, some_word, not_root, prefix_node}

-- the live nodes' words are those that are noted
module _ (at : ℕ → Node) (n : ℕ) (held : List Held) (kept : List KeptAnswer) (s : IsStored at n held kept) (few : length kept ≤ no_answer) where
  few_answers : length (answers_of kept) ≤ no_answer
  few_answers = omega (arith, few, kept_count kept)

  filled : (w : List ℕ) → w ≢ [] → 0 < length w
  filled [] other = absurd (other refl)
  filled (x ∷ w) other = omega arith

  live_noted : (w : List ℕ) → IsLiveWord at n w → IsNoted (answers_of kept) (claims_of at held) w
  live_noted w l = (
    λ e. omega (arith, some_word at n s.trie l.0 l.1 l.2, ap (λ (v : List ℕ). length v) (l.4 ∙ e)),
    ⊎_elim
        (λ (told : (at l.0).answer ≢ no_answer). inl (subst (IsKnown (answers_of kept)) l.4 (known_here at n s.trie (answers_of kept) l.0 s.answered l.1 l.2 told)))
        (λ (claimed : (at l.0).claim ≢ no_claim).
        let h = held_below at n s.trie held s.ends s.least n l.0 (omega arith) l.1 l.2 claimed in
        inr ((held_at held h.0).number, (claimed_is at n s.trie held w (held_at held h.0).number).1 (h.0, h.1, refl, subst (λ (v : List ℕ). IsPrefix v (word_of at (held_at held h.0).end)) l.4 h.3)))
        l.3,
  )

  noted_live : (w : List ℕ) → IsNoted (answers_of kept) (claims_of at held) w → IsLiveWord at n w
  noted_live w noted =
      ⊎_elim
      (λ (known : IsKnown (answers_of kept) w). ⊎_elim
      (λ (e : w ≡ []). absurd (noted.0 e))
      (λ (r : (a : ℕ) × IsClear (answers_of kept) a × IsPrefix w (answer_at (answers_of kept) a).word).
      let e = s.answered.has r.0 r.1 in
      let j = prefix_node at n s.trie w e.0 e.1 (subst (IsPrefix w) (sym e.2) r.2) in
      let pos : 0 < j.0 = not_root at n s.trie j.0 j.1 (omega (arith, filled w noted.0, ap (λ (v : List ℕ). length v) j.2)) in
      let told = s.answered.each r.0 r.1 j.0 pos j.1 (subst (λ (v : List ℕ). IsPrefix v (answer_at (answers_of kept) r.0).word) (sym j.2) r.2) in
      (j.0, pos, j.1, inl (λ none. omega (arith, told.0, none, r.1.0, few_answers)), j.2))
      known)
      (λ (claimed : (number : ℕ) × IsClaimedBy (claims_of at held) w number).
      let h = (claimed_is at n s.trie held w claimed.0).0 claimed.1 in
      let e = s.ends.within h.0 h.1 in
      let j = prefix_node at n s.trie w (held_at held h.0).end e.1 h.3 in
      let pos : 0 < j.0 = not_root at n s.trie j.0 j.1 (omega (arith, filled w noted.0, ap (λ (v : List ℕ). length v) j.2)) in
      let up : (at j.0).claim ≤ (at (held_at held h.0).end).claim =
      least_above at n s.trie s.least (held_at held h.0).end j.0 (held_at held h.0).end (omega arith) pos j.1 e.1 (subst (λ (v : List ℕ). IsPrefix v (word_of at (held_at held h.0).end)) (sym j.2) h.3) in
      let own : (at (held_at held h.0).end).claim ≤ (at (held_at held h.0).end).ends = (s.least (held_at held h.0).end e.0 e.1).own in
      (j.0, pos, j.1, inr (λ none. omega (arith, none, up, own, s.ends.told h.0 h.1, s.ends.few h.0 h.1)), j.2))
      noted.1

  pub counted : (count : ℕ) → CountsLive at n count → CountsNoted (answers_of kept) (claims_of at held) count
  counted count c =
      record {
        words = c.words;
        counted = c.counted;
        differ = c.differ;
        exactly = λ w. (λ has. live_noted w ((c.exactly w).0 has), λ noted. (c.exactly w).1 (noted_live w noted));
      }

  -- the letters of nodes that tell an answer
  pub letters_of : (a : ℕ) → All (λ k. IsWord a k.word) (answers_of kept) → AreLetters at n a
  letters_of a words j pos lt told =
      let r = s.answered.clear j pos lt told in
      let up : (at j).parent < j = s.trie.up j pos lt in
      let in_word : IsWord a (answer_at (answers_of kept) (at j).answer).word = words (at j).answer (record { word = []; outs = [] }) r.0.0 in
      let step = word_step at n s.trie j pos lt in
      let long : length (word_of at j) ≡ length (word_of at (at j).parent) + 1 = word_long at n s.trie j pos lt in
      let place : length (word_of at (at j).parent) < length (answer_at (answers_of kept) (at j).answer).word = omega (arith, long, prefix_long (word_of at j) (answer_at (answers_of kept) (at j).answer).word r.1) in
      let letter : get_or (answer_at (answers_of kept) (at j).answer).word (length (word_of at (at j).parent)) 0 ≡ (at j).letter =
      ap (λ (v : List ℕ). get_or v (length (word_of at (at j).parent)) 0) r.1.1
      ∙ (get_or_append_left (word_of at j) r.1.0 0 (length (word_of at (at j).parent)) (omega (arith, long))
      ∙ (ap (λ (v : List ℕ). get_or v (length (word_of at (at j).parent)) 0) step ∙ get_or_push (word_of at (at j).parent) (at j).letter 0 (length (word_of at (at j).parent)) refl)) in (
        omega (arith, letter, in_word (length (word_of at (at j).parent)) 0 place),
        ⊎_elim
            (λ (e : (at j).parent ≡ 0). inl e)
            (λ (o : (at j).parent ≡ 0 → ⊥).
            let above = s.answered.each (at j).answer r.0 (at j).parent (omega (arith, o)) (omega (arith, up, lt)) (prefix_over (word_of at (at j).parent) (word_of at j) (answer_at (answers_of kept) (at j).answer).word (child_prefix at n s.trie (at j).parent j (pos, lt, refl)) r.1) in
            inr (λ none. omega (arith, above.0, none, r.0.0, few_answers)))
            (cases_eq (at j).parent 0),
      )

  -- the machine's last output to a node's word
  last_output : (m : Rows) (j : ℕ) → 0 < j → j < n → get_or (answer m (word_of at j)) (length (word_of at j) - 1) 0 ≡ output m (after m 0 (word_of at (at j).parent)) (at j).letter
  last_output m j pos lt =
      let step = word_step at n s.trie j pos lt in
      let long : length (word_of at j) ≡ length (word_of at (at j).parent) + 1 = word_long at n s.trie j pos lt in
      let place : length (word_of at j) - 1 ≡ length (word_of at (at j).parent) = omega (arith, long) in
      ap (λ (k : ℕ). get_or (answer m (word_of at j)) k 0) place
      ∙ (ap (λ (v : List ℕ). get_or (answer m v) (length (word_of at (at j).parent)) 0) step
      ∙ (ap (λ (o : List ℕ). get_or o (length (word_of at (at j).parent)) 0) (out-append m 0 (word_of at (at j).parent) ((at j).letter ∷ []))
      ∙ get_or_push (out m 0 (word_of at (at j).parent)) (output m (after m 0 (word_of at (at j).parent)) (at j).letter) 0 (length (word_of at (at j).parent)) (length-out m 0 (word_of at (at j).parent))))

  -- where the machine differs at a node, it differs on its word
  node_differs : (m : Rows) (j : ℕ) → DiffersAt at n m j → Differs m (answers_of kept) (word_of at j)
  node_differs m j d =
      let r = s.answered.clear j d.positive d.within d.told in
      let out_is = (s.answered.each (at j).answer r.0 j d.positive d.within r.1).1 in
      let some : 0 < length (word_of at j) = some_word at n s.trie j d.positive d.within in (
        take (length (word_of at j)) (answer_at (answers_of kept) (at j).answer).outs,
        inr ((at j).answer, r.0, r.1, refl),
        λ same. d.other (
            out_is
            ∙ (sym (get_or-take (length (word_of at j)) (answer_at (answers_of kept) (at j).answer).outs (length (word_of at j) - 1) 0 (omega (arith, some)))
            ∙ (ap (λ (o : List ℕ). get_or o (length (word_of at j) - 1) 0) (sym same) ∙ last_output m j d.positive d.within))
            ),
      )

  -- and where it differs on a known word, it differs at a node on the way
  module _ (m : Rows) (w : List ℕ) (a : ℕ) (clear : IsClear (answers_of kept) a) (p : IsPrefix w (answer_at (answers_of kept) a).word) where
    search_to : (k : ℕ) → k ≤ length w → ((j : ℕ) × DiffersAt at n m j × IsPrefix (word_of at j) w) ⊎ (take k (answer m w) ≡ take k (answer_at (answers_of kept) a).outs)
    search_to zero le = inr refl
    search_to (suc k) le =
        ⊎_elim
        (λ (r : (j : ℕ) × DiffersAt at n m j × IsPrefix (word_of at j) w). inl r)
        (λ (same : take k (answer m w) ≡ take k (answer_at (answers_of kept) a).outs).
        let inside : k < length (answer_at (answers_of kept) a).word = omega (arith, prefix_long w (answer_at (answers_of kept) a).word p) in
        let i = clear_node at n s.trie (answers_of kept) s.answered few_answers a k clear inside in
        let word : word_of at i.0 ≡ take (k + 1) w = i.3 ∙ prefix_take (k + 1) w (answer_at (answers_of kept) a).word p (omega arith) in
        let long : length (word_of at i.0) ≡ k + 1 = ap (λ (v : List ℕ). length v) word ∙ length-take-le (k + 1) w (omega arith) in
        let whole : length (answer_at (answers_of kept) a).outs ≡ length (answer_at (answers_of kept) a).word = s.whole a (record { word = []; outs = [] }) clear.0 in
        let place : length (word_of at i.0) - 1 ≡ k = omega (arith, long) in
        let machine : output m (after m 0 (word_of at (at i.0).parent)) (at i.0).letter ≡ get_or (answer m w) k 0 =
        sym (last_output m i.0 i.1 i.2) ∙ (ap (λ (q : ℕ). get_or (answer m (word_of at i.0)) q 0) place ∙ (ap (λ (v : List ℕ). get_or (answer m v) k 0) word ∙ (ap (λ (o : List ℕ). get_or o k 0) (out-take m 0 (k + 1) w) ∙ get_or-take (k + 1) (answer m w) k 0 (omega arith)))) in
        ⊎_elim
        (λ (e : (at i.0).output ≡ output m (after m 0 (word_of at (at i.0).parent)) (at i.0).letter).
        let one_more : k + 1 ≡ suc k = omega arith in
        inr (subst (λ (q : ℕ). take q (answer m w) ≡ take q (answer_at (answers_of kept) a).outs) one_more (take_more_same (answer m w) (answer_at (answers_of kept) a).outs k 0 (omega (arith, length-out m 0 w)) (omega (arith, inside, whole)) same (sym machine ∙ (sym e ∙ i.6)))))
        (λ (other : (at i.0).output ≡ output m (after m 0 (word_of at (at i.0).parent)) (at i.0).letter → ⊥).
        let d : DiffersAt at n m i.0 = record { positive = i.1; within = i.2; told = i.5; other = other } in
        inl (i.0, d, subst (λ (v : List ℕ). IsPrefix v w) (sym word) (take_prefix (k + 1) w)))
        (cases_eq (at i.0).output (output m (after m 0 (word_of at (at i.0).parent)) (at i.0).letter)))
        (search_to k (omega arith))

  word_differs : (m : Rows) (w : List ℕ) → Differs m (answers_of kept) w → (j : ℕ) × DiffersAt at n m j × IsPrefix (word_of at j) w
  word_differs m w d =
      ⊎_elim
      (λ (r : (w ≡ []) × (d.0 ≡ [])). absurd (d.2 (ap (answer m) r.0 ∙ sym r.1)))
      (λ (r : (a : ℕ) × IsClear (answers_of kept) a × IsPrefix w (answer_at (answers_of kept) a).word × (d.0 ≡ take (length w) (answer_at (answers_of kept) a).outs)). ⊎_elim
      (λ (found : (j : ℕ) × DiffersAt at n m j × IsPrefix (word_of at j) w). found)
      (λ (same : take (length w) (answer m w) ≡ take (length w) (answer_at (answers_of kept) r.0).outs).
      absurd (d.2 (sym (take_all (length w) (answer m w) (omega (arith, length-out m 0 w))) ∙ (same ∙ sym r.3))))
      (search_to m w r.0 r.1 r.2 (length w) (omega arith)))
      d.1

  -- a prefix doesn't come after the word
  front_first : (u w best : List ℕ) → IsPrefix u w → shortlex_cmp w best ≡ Less → shortlex_cmp u best ≡ Less
  front_first u w best p less =
      ⊎_elim
      (λ (shorter : length u < length w).
      is_order.0.trans u w best (ap (λ (o : Ordering). ordering_then o (slice_cmp nat_cmp u w)) (sym (nat_cmp_is (length u) (length w) Less shorter))) less)
      (λ (long : length w ≤ length u).
      let same : w ≡ u = sym (take_all (length u) w long) ∙ take_from_prefix u w p in
      subst (λ (v : List ℕ). shortlex_cmp v best ≡ Less) same less)
      (cases_lt (length u) (length w))

  pub differs_first : (m : Rows) (best : Option (List ℕ)) → IsFirstTo at n m n best → DiffersFirst m (answers_of kept) best
  differs_first m None none = λ w d. let j = word_differs m w d in none j.0 j.1.within j.1
  differs_first m (Some w) first = (
    subst (Differs m (answers_of kept)) first.0.2 (node_differs m first.0.0 first.0.1),
    λ v d less. let j = word_differs m v d in first.1 j.0 j.1.within j.1 (front_first (word_of at j.0) v w j.2 less),
  )
