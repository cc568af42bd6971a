-- Nodes that keep their place in the trie.
use Rattle.std.proofs.Common.{◌≡◌, ℕ, ◌<◌, inl, inr, ⊎_elim, List, ap, sym, ◌∙◌, subst, arith}
use Rattle.lw_words.specs.Word.{Answer, answer_at, IsPrefix}
use Rattle.lw_cache.specs.Clash.{IsClear}
use Rattle.lw_cache.specs.bodies.Trie.{word_of, IsChildOf, IsNewest, IsTrie, AreLeast, AreEnds, AreAnswered, last_out, held_at}
use Rattle.lw_cache.specs.declared.node.Node.{Node}
use Rattle.lw_cache.specs.declared.node.Held.{Held}
use Rattle.lw_cache.proofs.ExtendLemmas.{word_same}

-- the same letters, parents, first and next children
pub record SameShape (was at : ℕ → Node) : Type 0 where
  pub letter : (i : ℕ) → (at i).letter ≡ (was i).letter
  pub parent : (i : ℕ) → (at i).parent ≡ (was i).parent
  pub first : (i : ℕ) → (at i).first ≡ (was i).first
  pub next : (i : ℕ) → (at i).next ≡ (was i).next

module _ (was at : ℕ → Node) (n : ℕ) (t : IsTrie was n) (s : SameShape was at) where
  pub shape_word : (i : ℕ) → i < n → word_of at i ≡ word_of was i
  shape_word i lt = word_same was at n t (λ j le. (s.parent j, s.letter j)) i lt

  shape_newest : (p bound c : ℕ) → IsNewest was p bound c → IsNewest at p bound c
  shape_newest p bound c x =
      record {
        is = ⊎_elim (λ (e : c ≡ 0). inl e) (λ (k : IsChildOf was p bound c). inr (k.0, k.1, s.parent c ∙ k.2)) x.is;
        newest = λ j k. x.newest j (k.0, k.1, sym (s.parent j) ∙ k.2);
      }

  pub shape_trie : IsTrie at n
  shape_trie =
      record {
        up = λ i pos lt. omega (arith, s.parent i, t.up i pos lt);
        first = λ i lt. subst (IsNewest at i n) (sym (s.first i)) (shape_newest i n (was i).first (t.first i lt));
        next = λ c pos lt. subst (λ (p : ℕ). IsNewest at p c (at c).next) (sym (s.parent c)) (subst (IsNewest at (was c).parent c) (sym (s.next c)) (shape_newest (was c).parent c (was c).next (t.next c pos lt)));
        differ = λ i j pos before lt parents letters. t.differ i j pos before lt (sym (s.parent i) ∙ (parents ∙ s.parent j)) (sym (s.letter i) ∙ (letters ∙ s.letter j));
      }

  -- claims of nodes that keep them
  pub shape_least : ((i : ℕ) → (at i).claim ≡ (was i).claim) → ((i : ℕ) → (at i).ends ≡ (was i).ends) → AreLeast was n → AreLeast at n
  shape_least claim ends least i pos lt =
      let l = least i pos lt in
      record {
        own = omega (arith, l.own, claim i, ends i);
        below = λ j k. omega (arith, l.below j (k.0, k.1, sym (s.parent j) ∙ k.2), claim i, claim j);
        some = ⊎_elim
            (λ (e : (was i).claim ≡ (was i).ends). inl (claim i ∙ (e ∙ sym (ends i))))
            (λ (q : (j : ℕ) × IsChildOf was i n j × ((was i).claim ≡ (was j).claim)). inr (q.0, (q.1.0, q.1.1, s.parent q.0 ∙ q.1.2), claim i ∙ (q.2 ∙ sym (claim q.0))))
            l.some;
      }

  pub shape_answered : (ks : List Answer) → ((i : ℕ) → (at i).answer ≡ (was i).answer) → ((i : ℕ) → (at i).output ≡ (was i).output) → AreAnswered was n ks → AreAnswered at n ks
  shape_answered ks answer output a =
      record {
        clear = λ i pos lt some.
            let r = a.clear i pos lt (λ e. some (answer i ∙ e)) in (
              subst (IsClear ks) (sym (answer i)) r.0,
              subst (λ (k : ℕ). IsPrefix (word_of at i) (answer_at ks k).word) (sym (answer i)) (subst (λ (w : List ℕ). IsPrefix w (answer_at ks (was i).answer).word) (sym (shape_word i lt)) r.1),
            );
        each = λ k clear i pos lt p.
            let r = a.each k clear i pos lt (subst (λ (w : List ℕ). IsPrefix w (answer_at ks k).word) (shape_word i lt) p) in
            (omega (arith, r.0, answer i), output i ∙ (r.1 ∙ ap (λ (w : List ℕ). last_out (answer_at ks k).outs w) (sym (shape_word i lt))));
        has = λ k clear. let r = a.has k clear in (r.0, r.1, shape_word r.0 r.1 ∙ r.2);
      }

pub shape_ends : (was at : ℕ → Node) (n : ℕ) (held : List Held) → ((i : ℕ) → (at i).ends ≡ (was i).ends) → AreEnds was n held → AreEnds at n held
shape_ends was at n held ends e =
    record {
      within = e.within;
      told = λ k lt. ends (held_at held k).end ∙ e.told k lt;
      few = e.few;
      only = λ i pos lt some. e.only i pos lt (λ none. some (ends i ∙ none));
      once = e.once;
    }
