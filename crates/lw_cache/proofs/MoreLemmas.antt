-- What is stored once nodes were put at the end, or marked.
use Rattle.std.proofs.Common.{◌≡◌, ◌≢◌, ℕ, suc, ◌+◌, ◌-◌, ◌<◌, ◌≤◌, inl, inr, ⊎_elim, List, [], ◌∷◌, ◌++◌, length, take, get_or, refl, ap, sym, ◌∙◌, subst, arith, append_assoc}
use Rattle.std.proofs.lemmas.Bool.{cases_eq, cases_lt}
use Rattle.std.proofs.lemmas.List.{length_push, same_from_push}
use Rattle.lw_words.specs.Word.{Answer, answer_at, answers_of, IsPrefix}
use Rattle.lw_words.specs.declared.kept.KeptAnswer.{KeptAnswer}
use Rattle.lw_cache.specs.Caching.{Claim}
use Rattle.lw_cache.specs.Clash.{IsClear, IsClearAfter}
use Rattle.lw_cache.specs.bodies.Trie.{word_of, held_at, claims_of, IsChildOf, IsTrie, no_answer, no_claim, last_out, AreAnswered, AreEnds, IsLeast, AreLeast, IsStored}
use Rattle.lw_cache.specs.bodies.Filling.{AgreeBetween, marked, AreMarked, IsExtended}
use Rattle.lw_cache.specs.declared.node.Node.{Node}
use Rattle.lw_cache.specs.declared.node.Held.{Held}
use Rattle.lw_cache.proofs.AnswerLemmas.{clear_push, clear_kept, at_kept, at_last}
use Rattle.lw_cache.proofs.ExtendLemmas.{word_same}
use Rattle.lw_cache.proofs.GrowLemmas.{after_stays}
use Rattle.lw_cache.proofs.KnownLemmas.{prefix_long}
use Rattle.lw_cache.proofs.ShapeLemmas.{SameShape, shape_word}
use Rattle.lw_cache.proofs.StoredLemmas.{prefix_over}
use Rattle.lw_cache.proofs.TrieLemmas.{word_step, one_node, prefix_node, not_root, some_word}

-- no node's own claim is above none
ends_small : (at : ℕ → Node) (n : ℕ) (held : List Held) → AreEnds at n held → (i : ℕ) → 0 < i → i < n → (at i).ends ≤ no_claim
ends_small at n held e i pos lt =
    ⊎_elim
    (λ (none : (at i).ends ≡ no_claim). omega arith)
    (λ (some : (at i).ends ≡ no_claim → ⊥). let k = e.only i pos lt some in omega (arith, e.few k.0 k.1, e.told k.0 k.1, ap (λ (j : ℕ). (at j).ends) k.2))
    (cases_eq (at i).ends no_claim)

module _ (was at : ℕ → Node) (n p : ℕ) (letters : List ℕ) (k last : ℕ) (t : IsTrie was n) (within : p < n) (x : IsExtended was at n p letters k last) (all : k ≡ length letters)
    (free : 0 < length letters → (j : ℕ) → IsChildOf was p n j → (was j).letter ≢ get_or letters 0 0) where
  same_word : (i : ℕ) → i < n → word_of at i ≡ word_of was i
  same_word i lt = word_same was at n t (λ j le. (ap (λ (b : Node). b.parent) (x.old j le), ap (λ (b : Node). b.letter) (x.old j le))) i lt

  pub extended_word : (i : ℕ) → i < n → word_of at i ≡ word_of was i
  extended_word i lt = same_word i lt

  -- a new node's word begins no old one's
  new_word : (i e : ℕ) → n ≤ i → i < n + k → e < n → ¬ IsPrefix (word_of at i) (word_of was e)
  new_word i e le lt old q =
      let some : 0 < length letters = omega (arith, all) in
      let head : IsPrefix (word_of was p ++ get_or letters 0 0 ∷ []) (word_of at i) = subst (IsPrefix (word_of was p ++ get_or letters 0 0 ∷ [])) (sym (x.words i le lt)) (first_letter letters (i - n) some (word_of was p)) in
      let j = prefix_node was n t (word_of was p ++ get_or letters 0 0 ∷ []) e old (prefix_over (word_of was p ++ get_or letters 0 0 ∷ []) (word_of at i) (word_of was e) head q) in
      let pos : 0 < j.0 = not_root was n t j.0 j.1 (omega (arith, ap (λ (w : List ℕ). length w) j.2, length_push (word_of was p) (get_or letters 0 0))) in
      let both = same_from_push (word_of was (was j.0).parent) (word_of was p) (was j.0).letter (get_or letters 0 0) (sym (word_step was n t j.0 pos j.1) ∙ j.2) in
      let up : (was j.0).parent < j.0 = t.up j.0 pos j.1 in
      free some j.0 (pos, j.1, one_node was n t (was j.0).parent p (omega (arith, up, j.1)) within both.0) both.1
    where
      first_letter : (xs : List ℕ) (m : ℕ) → 0 < length xs → (w : List ℕ) → IsPrefix (w ++ get_or xs 0 0 ∷ []) (w ++ take (m + 1) xs)
      first_letter [] m some w = absurd (omega arith)
      first_letter (y ∷ ys) m some w =
          let more : suc m ≡ m + 1 = omega arith in
          (take m ys, subst (λ (j : ℕ). w ++ take j (y ∷ ys) ≡ (w ++ y ∷ []) ++ take m ys) more (sym (append_assoc w (y ∷ []) (take m ys))))

  extended_answered : (ks : List Answer) → AreAnswered was n ks → AreAnswered at (n + k) ks
  extended_answered ks a =
      record {
        clear = λ i pos lt some. ⊎_elim
            (λ (old : i < n).
            let is : (at i).answer ≡ (was i).answer = ap (λ (b : Node). b.answer) (x.old i old) in
            let r = a.clear i pos old (λ e. some (is ∙ e)) in
            (subst (IsClear ks) (sym is) r.0, subst (λ (m : ℕ). IsPrefix (word_of at i) (answer_at ks m).word) (sym is) (subst (λ (w : List ℕ). IsPrefix w (answer_at ks (was i).answer).word) (sym (same_word i old)) r.1)))
            (λ (new : n ≤ i). absurd (some (x.blank i new lt).0))
            (cases_lt i n);
        each = λ m clear i pos lt q. ⊎_elim
            (λ (old : i < n).
            let r = a.each m clear i pos old (subst (λ (w : List ℕ). IsPrefix w (answer_at ks m).word) (same_word i old) q) in
            (omega (arith, r.0, ap (λ (b : Node). b.answer) (x.old i old)), ap (λ (b : Node). b.output) (x.old i old) ∙ (r.1 ∙ ap (λ (w : List ℕ). last_out (answer_at ks m).outs w) (sym (same_word i old)))))
            (λ (new : n ≤ i). let e = a.has m clear in absurd (new_word i e.0 new lt e.1 (subst (IsPrefix (word_of at i)) (sym e.2) q)))
            (cases_lt i n);
        has = λ m clear. let e = a.has m clear in (e.0, omega (arith, e.1), same_word e.0 e.1 ∙ e.2);
      }

  extended_ends : (held : List Held) → AreEnds was n held → AreEnds at (n + k) held
  extended_ends held e =
      record {
        within = λ m lt. let r = e.within m lt in (r.0, omega (arith, r.1));
        told = λ m lt. ap (λ (b : Node). b.ends) (x.old (held_at held m).end (e.within m lt).1) ∙ e.told m lt;
        few = e.few;
        only = λ i pos lt some. ⊎_elim
            (λ (old : i < n). e.only i pos old (λ none. some (ap (λ (b : Node). b.ends) (x.old i old) ∙ none)))
            (λ (new : n ≤ i). absurd (some (x.blank i new lt).2))
            (cases_lt i n);
        once = e.once;
      }

  extended_least : (held : List Held) → AreEnds was n held → AreLeast was n → AreLeast at (n + k)
  extended_least held e least i pos lt =
      ⊎_elim
      (λ (old : i < n).
      let l = least i pos old in
      let same = x.old i old in
      let small : (was i).claim ≤ no_claim = omega (arith, l.own, ends_small was n held e i pos old) in
      let r : IsLeast at (n + k) i (at i).claim = record {
        own = omega (arith, l.own, ap (λ (b : Node). b.claim) same, ap (λ (b : Node). b.ends) same);
        below = λ j c. ⊎_elim
            (λ (older : j < n). omega (arith, l.below j (c.0, older, ap (λ (b : Node). b.parent) (sym (x.old j older)) ∙ c.2), ap (λ (b : Node). b.claim) same, ap (λ (b : Node). b.claim) (x.old j older)))
            (λ (newer : n ≤ j). omega (arith, small, ap (λ (b : Node). b.claim) same, (x.blank j newer c.1).1))
            (cases_lt j n);
        some = ⊎_elim
            (λ (own : (was i).claim ≡ (was i).ends). inl (ap (λ (b : Node). b.claim) same ∙ (own ∙ ap (λ (b : Node). b.ends) (sym same))))
            (λ (q : (j : ℕ) × IsChildOf was i n j × ((was i).claim ≡ (was j).claim)). inr (q.0, (q.1.0, omega (arith, q.1.1), ap (λ (b : Node). b.parent) (x.old q.0 q.1.1) ∙ q.1.2), ap (λ (b : Node). b.claim) same ∙ (q.2 ∙ ap (λ (b : Node). b.claim) (sym (x.old q.0 q.1.1)))))
            l.some;
      } in r)
      (λ (new : n ≤ i).
      let blank = x.blank i new lt in
      let r : IsLeast at (n + k) i (at i).claim = record {
        own = omega (arith, blank.1, blank.2);
        below = λ j c. let up : (at j).parent < j = x.trie.up j c.0 c.1 in omega (arith, blank.1, (x.blank j (omega (arith, up, c.2, new)) c.1).1);
        some = inl (blank.1 ∙ sym blank.2);
      } in r)
      (cases_lt i n)

  pub extended_stored : (held : List Held) (kept : List KeptAnswer) → IsStored was n held kept → IsStored at (n + k) held kept
  extended_stored held kept s =
      record {
        trie = x.trie;
        answered = extended_answered (answers_of kept) s.answered;
        ends = extended_ends held s.ends;
        least = extended_least held s.ends s.least;
        whole = s.whole;
      }

  pub extended_agree : (w outs : List ℕ) → AgreeBetween was n w outs 0 (length w) → AgreeBetween at (n + k) w outs 0 (length w)
  extended_agree w outs agree i pos lt q deep short told =
      ⊎_elim
      (λ (old : i < n).
      let same = x.old i old in
      let word = same_word i old in
      ap (λ (b : Node). b.output) same ∙ (agree i pos old (subst (λ (v : List ℕ). IsPrefix v w) word q) (omega (arith, deep, ap (λ (v : List ℕ). length v) word)) (omega (arith, short, ap (λ (v : List ℕ). length v) word)) (λ e. told (ap (λ (b : Node). b.answer) same ∙ e)) ∙ ap (last_out outs) (sym word)))
      (λ (new : n ≤ i). absurd (told (x.blank i new lt).0))
      (cases_lt i n)

-- claims whose nodes keep their words are the same
pub claims_same : (was at : ℕ → Node) (held : List Held) → ((k : ℕ) → k < length held → word_of at (held_at held k).end ≡ word_of was (held_at held k).end) → claims_of at held ≡ claims_of was held
claims_same was at [] same = refl
claims_same was at (h ∷ held) same =
    ap (λ (w : List ℕ). let c : Claim = record { number = h.number; word = w } in c ∷ claims_of at held) (same 0 (omega arith))
    ∙ ap (λ (l : List Claim). let c : Claim = record { number = h.number; word = word_of was h.end } in c ∷ l) (claims_same was at held (λ k lt. same (suc k) (omega arith)))

module _ (was at : ℕ → Node) (n : ℕ) (w outs : List ℕ) (answer : ℕ) (m : AreMarked was at n w outs answer 0) where
  field : (f : Node → ℕ) → ((b : Node) (a o : ℕ) → f (marked b a o) ≡ f b) → (i : ℕ) → f (at i) ≡ f (was i)
  field f keeps i = ⊎_elim (λ (e : at i ≡ was i). ap f e) (λ (r : (0 < i) × (i < n) × IsPrefix (word_of was i) w × ((was i).answer ≡ no_answer) × (at i ≡ marked (was i) answer (last_out outs (word_of was i)))). ap f r.4 ∙ keeps (was i) answer (last_out outs (word_of was i))) (m.each i)

  pub marked_shape : SameShape was at
  marked_shape = record {
    letter = field (λ b. b.letter) (λ b a o. refl);
    parent = field (λ b. b.parent) (λ b a o. refl);
    first = field (λ b. b.first) (λ b a o. refl);
    next = field (λ b. b.next) (λ b a o. refl);
  }

  pub marked_claim : (i : ℕ) → (at i).claim ≡ (was i).claim
  marked_claim = field (λ b. b.claim) (λ b a o. refl)

  pub marked_ends : (i : ℕ) → (at i).ends ≡ (was i).ends
  marked_ends = field (λ b. b.ends) (λ b a o. refl)

  module _ (t : IsTrie was n) (ks : List Answer) (a : AreAnswered was n ks) (few : length ks ≤ no_answer) (number : answer ≡ length ks) (e : ℕ) (in_range : e < n) (word : word_of was e ≡ w) (agree : AgreeBetween was n w outs 0 (length w)) (clear : IsClearAfter ks (length ks) (record { word = w; outs = outs })) where
    last_clear : IsClear (ks ++ record { word = w; outs = outs } ∷ []) (length ks)
    last_clear =
        let new : Answer = record { word = w; outs = outs } in
        (omega (arith, length_push ks new), kept_after new (length ks) (omega arith) clear)
      where
        kept_after : (new : Answer) (i : ℕ) → i ≤ length ks → IsClearAfter ks i new → IsClearAfter (ks ++ new ∷ []) i (answer_at (ks ++ new ∷ []) (length ks))
        kept_after new i le c = subst (IsClearAfter (ks ++ new ∷ []) i) (sym (at_last ks new)) ((after_stays ks (new ∷ []) i new le).1 c)

    pub marked_answered : AreAnswered at n (ks ++ record { word = w; outs = outs } ∷ [])
    marked_answered =
        let new : Answer = record { word = w; outs = outs } in
        record {
          clear = λ i pos lt some. ⊎_elim
              (λ (same : at i ≡ was i).
              let is : (at i).answer ≡ (was i).answer = ap (λ (b : Node). b.answer) same in
              let r = a.clear i pos lt (λ z. some (is ∙ z)) in
              let own : IsPrefix (word_of at i) (answer_at (ks ++ new ∷ []) (was i).answer).word =
              subst (λ (l : Answer). IsPrefix (word_of at i) l.word) (sym (at_kept ks new (was i).answer r.0.0)) (subst (λ (v : List ℕ). IsPrefix v (answer_at ks (was i).answer).word) (sym (shape_word was at n t marked_shape i lt)) r.1) in
              (subst (IsClear (ks ++ new ∷ [])) (sym is) (clear_kept ks new (was i).answer r.0), subst (λ (q : ℕ). IsPrefix (word_of at i) (answer_at (ks ++ new ∷ []) q).word) (sym is) own))
              (λ (r : (0 < i) × (i < n) × IsPrefix (word_of was i) w × ((was i).answer ≡ no_answer) × (at i ≡ marked (was i) answer (last_out outs (word_of was i)))).
              let is : (at i).answer ≡ length ks = ap (λ (b : Node). b.answer) r.4 ∙ number in
              let own : IsPrefix (word_of at i) (answer_at (ks ++ new ∷ []) (length ks)).word =
              subst (λ (l : Answer). IsPrefix (word_of at i) l.word) (sym (at_last ks new)) (subst (λ (v : List ℕ). IsPrefix v w) (sym (shape_word was at n t marked_shape i lt)) r.2) in
              (subst (IsClear (ks ++ new ∷ [])) (sym is) last_clear, subst (λ (q : ℕ). IsPrefix (word_of at i) (answer_at (ks ++ new ∷ []) q).word) (sym is) own))
              (m.each i);
          each = λ q clear_q i pos lt p. ⊎_elim
              (λ (old : IsClear ks q).
              let before : IsPrefix (word_of was i) (answer_at ks q).word =
              subst (λ (v : List ℕ). IsPrefix v (answer_at ks q).word) (shape_word was at n t marked_shape i lt) (subst (λ (l : Answer). IsPrefix (word_of at i) l.word) (at_kept ks new q old.0) p) in
              let r = a.each q old i pos lt before in
              let same : at i ≡ was i = unmarked i (λ none. omega (arith, r.0, none, old.0, few)) in (
                omega (arith, r.0, ap (λ (b : Node). b.answer) same),
                ap (λ (b : Node). b.output) same ∙ (r.1 ∙ (ap (λ (v : List ℕ). last_out (answer_at ks q).outs v) (sym (shape_word was at n t marked_shape i lt)) ∙ ap (λ (l : Answer). last_out l.outs (word_of at i)) (sym (at_kept ks new q old.0)))),
              ))
              (λ (own : (q ≡ length ks) × IsClearAfter ks (length ks) new).
              let is : answer_at (ks ++ new ∷ []) q ≡ new = ap (answer_at (ks ++ new ∷ [])) own.0 ∙ at_last ks new in
              let front : IsPrefix (word_of was i) w = subst (λ (v : List ℕ). IsPrefix v w) (shape_word was at n t marked_shape i lt) (subst (λ (l : Answer). IsPrefix (word_of at i) l.word) is p) in
              let deep : 0 < length (word_of was i) = some_word was n t i pos lt in
              let out : last_out outs (word_of was i) ≡ last_out (answer_at (ks ++ new ∷ []) q).outs (word_of at i) = ap (last_out outs) (sym (shape_word was at n t marked_shape i lt)) ∙ ap (λ (l : Answer). last_out l.outs (word_of at i)) (sym is) in
              ⊎_elim
              (λ (none : (was i).answer ≡ no_answer).
              let here = m.way i pos lt front deep none in
              (omega (arith, ap (λ (b : Node). b.answer) here, number, own.0), ap (λ (b : Node). b.output) here ∙ out))
              (λ (some : (was i).answer ≡ no_answer → ⊥).
              let same : at i ≡ was i = unmarked i some in (
                omega (arith, (a.clear i pos lt some).0.0, ap (λ (b : Node). b.answer) same, own.0),
                ap (λ (b : Node). b.output) same ∙ (agree i pos lt front deep (prefix_long (word_of was i) w front) some ∙ out),
              ))
              (cases_eq (was i).answer no_answer))
              (clear_push ks new q clear_q);
          has = λ q clear_q. ⊎_elim
              (λ (old : IsClear ks q). let r = a.has q old in (r.0, r.1, shape_word was at n t marked_shape r.0 r.1 ∙ (r.2 ∙ ap (λ (l : Answer). l.word) (sym (at_kept ks new q old.0)))))
              (λ (own : (q ≡ length ks) × IsClearAfter ks (length ks) new). (e, in_range, shape_word was at n t marked_shape e in_range ∙ (word ∙ ap (λ (l : Answer). l.word) (sym (ap (answer_at (ks ++ new ∷ [])) own.0 ∙ at_last ks new)))))
              (clear_push ks new q clear_q);
        }
      where
        unmarked : (i : ℕ) → ((was i).answer ≢ no_answer) → at i ≡ was i
        unmarked i some = ⊎_elim (λ (same : at i ≡ was i). same) (λ (r : (0 < i) × (i < n) × IsPrefix (word_of was i) w × ((was i).answer ≡ no_answer) × (at i ≡ marked (was i) answer (last_out outs (word_of was i)))). absurd (some r.3)) (m.each i)
