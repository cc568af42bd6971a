-- What a walk that found no difference says of all words, and one that found one of the words before it.
use Rattle.std.proofs.Common.{◌≡◌, ℕ, ◌+◌, ◌<◌, ◌≤◌, ◌⊎◌, inl, inr, ⊎_elim, List, [], ◌∷◌, ◌++◌, length, get_or, refl, ap, sym, ◌∙◌, subst, arith, append-nil, append_assoc, length-append}
use Rattle.std.proofs.lemmas.List.Elements.{All-head, All-tail, All-push}
use Rattle.std.proofs.lemmas.Bool.{cases_lt, cases_order}
use Rattle.std.specs.List.{All}
use Rattle.lw_words.specs.Word.{IsWord}
use Rattle.lw_mealy.specs.Machine.{IsMachine, after}
use Rattle.lw_mealy.proofs.WordLemmas.{after-append}
use Rattle.lw_json.specs.declared.files.Machine.{Machine}
use Rattle.lw_separate.specs.bodies.Search.{AtMost, Before, Closed}
use Rattle.lw_separate.proofs.Before.{at_most_push, at_most_trans, before_apart, before_last, before_next, before_trans, of_cases}
use Rattle.lw_compare.specs.Comparing.{Agree, ModelsAgreeOn, IsLeastDifference}
use Rattle.lw_compare.specs.declared.walk.Walk.{Walk}
use Rattle.lw_compare.specs.bodies.Joint.{AgreeAt, joint, letter_in}
use Rattle.lw_compare.specs.bodies.Walk.{Parts, Walked, words_of}
use Rattle.lw_compare.proofs.JointLemmas.{agree_at_last, agree_on_push}

-- a word is not behind one that begins with it
prefix_before : (u v t : List ℕ) → Before (u ++ v) t → Before u t
prefix_before u [] t h = rw append-nil at h
prefix_before u (x ∷ v) t h = before_trans u (u ++ x ∷ v) t (of_cases u (u ++ x ∷ v) (inl (omega (arith, length-append u (x ∷ v))))) h

at_most_before : (u v t : List ℕ) → AtMost u v → Before v t → Before u t
at_most_before u v t h k = ⊎_elim (λ (e : u ≡ v). subst (λ (w : List ℕ). Before w t) (sym e) k) (λ (b : Before u v). before_trans u v t b k) h

module _ (m n : Machine) (one : IsMachine m.mealy.inputs m.mealy.rows) (two : IsMachine n.mealy.inputs n.mealy.rows)
    (letters : (x : ℕ) → x < m.mealy.inputs → letter_in m n x < n.mealy.inputs) (w : Walk) (i x : ℕ) (walked : Walked m n w i x) where
  abbrev a : ℕ
  a = m.mealy.inputs

  abbrev words : List (List ℕ)
  words = words_of w.steps.items

  abbrev nodes : List ℕ
  nodes = w.nodes.items

  abbrev word_is : ℕ → List ℕ
  word_is k = get_or words k []

  -- the walk has gone by the letter from the pair at this place
  abbrev IsDone : ℕ → ℕ → Type 0
  IsDone k y = Closed (joint m n) words nodes k y × AgreeAt m n (get_or nodes k 0) y

  -- where the walk has gone by each letter of the words of a kind, from the pairs that it found on their way, the models agree on them
  follow : (Of : List ℕ → Type 0) → ((u v : List ℕ) → Of (u ++ v) → Of u)
      → ((u : List ℕ) (y k : ℕ) → Of (u ++ y ∷ []) → k < length words → AtMost (word_is k) u → y < a → IsDone k y)
      → (u v : List ℕ) (k : ℕ) → k < length words → AtMost (word_is k) u → get_or nodes k 0 ≡ after (joint m n) 0 u → IsWord a u → IsWord a v → Of (u ++ v) → ModelsAgreeOn m n u → ModelsAgreeOn m n (u ++ v)
  follow Of front done u [] k kw most at lu lv of on = rw append-nil on
  follow Of front done u (y ∷ v) k kw most at lu lv of on =
      let ly = All-head (λ z. z < a) y v lv in
      let whole : u ++ y ∷ v ≡ (u ++ y ∷ []) ++ v = sym (append_assoc u (y ∷ []) v) in
      let of' : Of ((u ++ y ∷ []) ++ v) = subst Of whole of in
      let d = done u y k (front (u ++ y ∷ []) v of') kw most ly in
      let c = d.0 in
      let here : AgreeAt m n (after (joint m n) 0 u) y = subst (λ (q : ℕ). AgreeAt m n q y) at d.1 in
      let there : get_or nodes c.0 0 ≡ after (joint m n) 0 (u ++ y ∷ []) = c.2 ∙ (ap (λ (q : ℕ). after (joint m n) q (y ∷ [])) at ∙ sym (after-append (joint m n) 0 u (y ∷ []))) in
      let step : AtMost (word_is c.0) (u ++ y ∷ []) = at_most_trans (word_is c.0) (word_is k ++ y ∷ []) (u ++ y ∷ []) c.3 (at_most_push (word_is k) u y most) in
      subst (ModelsAgreeOn m n) (sym whole)
      (follow Of front done (u ++ y ∷ []) v c.0 c.1 step there (All-push (λ z. z < a) u y lu ly) (All-tail (λ z. z < a) y v lv) of' (agree_on_push m n one two letters u y lu on here))

  from_start : (Of : List ℕ → Type 0) → ((u v : List ℕ) → Of (u ++ v) → Of u)
      → ((u : List ℕ) (y k : ℕ) → Of (u ++ y ∷ []) → k < length words → AtMost (word_is k) u → y < a → IsDone k y)
      → (v : List ℕ) → IsWord a v → Of v → ModelsAgreeOn m n v
  from_start Of front done v lv of =
      let s = walked.search in
      let at : get_or nodes 0 0 ≡ 0 = sym (s.leads 0 s.some) ∙ ap (after (joint m n) 0) s.first in
      follow Of front done [] v 0 s.some (inl s.first) at (λ j d lt. absurd (omega arith)) lv of refl

  -- the walk has come to its end
  pub agree_all : i ≡ length words → Agree m n
  agree_all whole v lv =
      from_start (λ _. Unit {0}) (λ _ _ _. tt)
      (λ u y k _ kw _ ly. (walked.search.closed k y (omega (arith, whole)) kw ly, walked.before k y (omega (arith, whole)) (omega (arith, walked.search.paired, kw)) ly))
      v lv tt

  -- the walk has come to a letter that parts a pair
  pub least_difference : i < length words → x < a → ¬ AgreeAt m n (get_or nodes i 0) x → IsLeastDifference m n (word_is i ++ x ∷ [])
  least_difference iw lx apart = record {
    word = All-push (λ z. z < a) (word_is i) x (walked.search.letters i iw) lx;
    differs = λ on. apart (subst (λ (q : ℕ). AgreeAt m n q x) (walked.search.leads i iw) (agree_at_last m n one two letters (word_is i) x (walked.search.letters i iw) on));
    least = λ v lv before. from_start (λ u. Before u (word_is i ++ x ∷ [])) (λ u t. prefix_before u t (word_is i ++ x ∷ [])) done_before v lv before;
  } where
    done_before : (u : List ℕ) (y k : ℕ) → Before (u ++ y ∷ []) (word_is i ++ x ∷ []) → k < length words → AtMost (word_is k) u → y < a → IsDone k y
    done_before u y k before kw most ly =
        let b : Before (word_is k ++ y ∷ []) (word_is i ++ x ∷ []) = at_most_before (word_is k ++ y ∷ []) (u ++ y ∷ []) (word_is i ++ x ∷ []) (at_most_push (word_is k) u y most) before in
        let no_way_back : Before (word_is i ++ x ∷ []) (word_is k ++ y ∷ []) → ⊥ = λ r. before_apart (word_is i ++ x ∷ []) (before_trans (word_is i ++ x ∷ []) (word_is k ++ y ∷ []) (word_is i ++ x ∷ []) r b) in
        ⊎_elim
        (λ (same : k ≡ i). subst (λ (j : ℕ). IsDone j y) (sym same) (⊎_elim
        (λ (e : y ≡ x). absurd (before_apart (word_is i ++ x ∷ []) (subst (λ (z : ℕ). Before (word_is i ++ z ∷ []) (word_is i ++ x ∷ [])) e (subst (λ (j : ℕ). Before (word_is j ++ y ∷ []) (word_is i ++ x ∷ [])) same b))))
        (λ (d : (y < x) ⊎ (x < y)). ⊎_elim
        (λ (l : y < x). (walked.search.here y l ly iw, walked.here y l ly))
        (λ (g : x < y). absurd (no_way_back (subst (λ (j : ℕ). Before (word_is i ++ x ∷ []) (word_is j ++ y ∷ [])) (sym same) (before_last (word_is i) x y g)))) d)
        (cases_order y x)))
        (λ (d : (k < i) ⊎ (i < k)). ⊎_elim
        (λ (l : k < i). (walked.search.closed k y l kw ly, walked.before k y l (omega (arith, walked.search.paired, kw)) ly))
        (λ (g : i < k). absurd (no_way_back (before_next (word_is i) (word_is k) (word_is i ++ x ∷ []) (x + 1) y (walked.search.rising i k g kw) (before_last (word_is i) x (x + 1) (omega arith))))) d)
        (cases_order k i)
