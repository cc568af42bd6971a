-- What a finished search has found: the least word to each state that is reached.
use Rattle.std.proofs.Common.{◌≡◌, ℕ, ◌<◌, inl, ⊎_elim, List, [], ◌∷◌, ◌++◌, length, get_or, Option, Some, None, refl, ap, sym, ◌∙◌, arith, subst, append-nil, append_assoc}
use Rattle.std.proofs.lemmas.List.Elements.{All-tail, All-head}
use Rattle.std.proofs.lemmas.List.{get_or_append_left}
use Rattle.lw_words.specs.Word.{IsWord}
use Rattle.lw_mealy.specs.Machine.{Rows, after, Reached}
use Rattle.lw_separate.specs.bodies.Search.{AtMost, IsSearch}
use Rattle.lw_separate.specs.Canonical.{IsLeastAccess}
use Rattle.lw_separate.proofs.Before.{at_most_trans, at_most_push, at_most_not_behind}
use Rattle.lw_separate.proofs.SearchLemmas.{last_or_before, length-push, at_end}

module _ (a : ℕ) (m : Rows) (ws : List (List ℕ)) (ss : List ℕ) (ps : List (Option ℕ)) (s : IsSearch a m ws ss ps (length ws) 0) where
  follow : (u v : List ℕ) (k : ℕ) → k < length ws → AtMost (get_or ws k []) u → IsWord a v → (j : ℕ) × (j < length ws) × (get_or ss j 0 ≡ after m (get_or ss k 0) v) × AtMost (get_or ws j []) (u ++ v)
  follow u [] k kw most letters = (k, kw, refl, rw append-nil most)
  follow u (y ∷ v) k kw most letters =
      let c = s.closed k y kw kw (All-head (λ x. x < a) y v letters) in
      let step : AtMost (get_or ws c.0 []) (u ++ y ∷ []) = at_most_trans (get_or ws c.0 []) (get_or ws k [] ++ y ∷ []) (u ++ y ∷ []) c.3 (at_most_push (get_or ws k []) u y most) in
      let r = follow (u ++ y ∷ []) v c.0 c.1 step (All-tail (λ x. x < a) y v letters) in
      (r.0, r.1, r.2 ∙ ap (λ (q : ℕ). after m q v) c.2, subst (λ (t : List ℕ). AtMost (get_or ws r.0 []) t) (append_assoc u (y ∷ []) v) r.3)

  -- each word ends where one that was found, and that is at most the word, ends
  pub found : (v : List ℕ) → IsWord a v → (k : ℕ) × (k < length ws) × (get_or ss k 0 ≡ after m 0 v) × AtMost (get_or ws k []) v
  found v letters =
      let r = follow [] v 0 s.some (inl s.first) letters in
      let zero : get_or ss 0 0 ≡ 0 = sym (s.leads 0 s.some) ∙ ap (after m 0) s.first in
      (r.0, r.1, r.2 ∙ ap (λ (q : ℕ). after m q v) zero, r.3)

  pub one_word : (j k : ℕ) → j < length ws → k < length ws → get_or ss j 0 ≡ get_or ss k 0 → j ≡ k
  one_word j k jw kw same = let e : Some j ≡ Some k = sym (s.there j jw) ∙ (ap (λ (q : ℕ). get_or ps q None) same ∙ s.there k kw) in cc

  pub least_word : (k : ℕ) → k < length ws → IsLeastAccess a m (get_or ss k 0) (get_or ws k [])
  least_word k kw = record {
    does = (s.letters k kw, s.leads k kw);
    least = λ v leads.
        let f = found v leads.0 in
        let same : f.0 ≡ k = one_word f.0 k f.1 kw (f.2 ∙ leads.1) in
        at_most_not_behind (get_or ws k []) v (subst (λ (n : ℕ). AtMost (get_or ws n []) v) same f.3);
  }

  pub word_of_place : (q k : ℕ) → get_or ps q None ≡ Some k → IsLeastAccess a m q (get_or ws k [])
  word_of_place q k at = let h = s.back q k at in subst (λ (p : ℕ). IsLeastAccess a m p (get_or ws k [])) h.1 (least_word k h.0)

  pub unreached : (q : ℕ) → get_or ps q None ≡ None → ¬ Reached a m q
  unreached q none r =
      let f = found r.0 r.1 in
      let e : Some f.0 ≡ None = sym (s.there f.0 f.1) ∙ (ap (λ (p : ℕ). get_or ps p None) (f.2 ∙ r.2) ∙ none) in
      absurd (cc)

-- what holds of each element of a list, and of one more
pub pushed : {X : Type 0} (P : ℕ → X → Type 0) (xs : List X) (x d : X) → ((k : ℕ) → k < length xs → P k (get_or xs k d)) → P (length xs) x → (k : ℕ) → k < length (xs ++ x ∷ []) → P k (get_or (xs ++ x ∷ []) k d)
pushed {X} P xs x d old new k lt =
    ⊎_elim
    (λ (h : k < length xs). subst (λ (t : X). P k t) (sym (get_or_append_left xs (x ∷ []) d k h)) (old k h))
    (λ (h : k ≡ length xs). subst (λ (t : X). P k t) (sym (at_end xs x d k h)) (subst (λ (n : ℕ). P n x) (sym h) new))
    (last_or_before k (length xs) (omega (arith, length-push xs x)))
