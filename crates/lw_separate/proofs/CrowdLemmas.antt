-- A list in which each word separates a pair that no earlier word does has fewer words than the machine has states.
use Rattle.std.proofs.Common.{◌≡◌, ◌≢◌, ℕ, zero, suc, ◌<◌, ◌≤◌, ◌⊎◌, inl, inr, ⊎_elim, true, false, List, [], ◌∷◌, ◌++◌, length, get_or, refl, ap, sym, ◌∙◌, arith, subst}
use Rattle.std.specs.List.{All, AllPairs}
use Rattle.std.specs.Str.{bytes_eq}
use Rattle.std.proofs.lemmas.Slice.Eq.{bytes_eq-Decides}
use Rattle.std.proofs.lemmas.List.{get_or_append_left, get_or_default}
use Rattle.std.proofs.lemmas.List.Elements.{All-from_get_or}
use Rattle.std.proofs.lemmas.Bool.{cases_order}
use Rattle.lw_words.proofs.Pigeonhole.{no_more_than}
use Rattle.lw_mealy.specs.Machine.{Rows, out}
use Rattle.lw_separate.specs.bodies.Walk.{SeparatesUpTo}
use Rattle.lw_separate.proofs.SearchLemmas.{last_or_before, length-push, at_end}
use Rattle.lw_separate.proofs.AccessLemmas.{pushed}

pub same_or_not : (u v : List ℕ) → (u ≡ v) ⊎ (u ≢ v)
same_or_not u v =
    elim (bytes_eq u v) as (λ b. bytes_eq u v ≡ b → (u ≡ v) ⊎ (u ≢ v)) [
      | true ↦ λ is. inl ((bytes_eq-Decides u v).0 is)
      | false ↦ λ is. inr (λ same. let no : true ≡ false = sym ((bytes_eq-Decides u v).1 same) ∙ is in cc)
    ] refl

module _ (m : Rows) (list : List (List ℕ)) where
  -- one of the first k words separates the states, or none does
  abbrev pub Apart : ℕ → ℕ → ℕ → Type 0
  Apart k s t = (h : ℕ) × (h < k) × (out m s (get_or list h []) ≢ out m t (get_or list h []))

  abbrev pub Alike : ℕ → ℕ → ℕ → Type 0
  Alike k s t = (h : ℕ) → h < k → out m s (get_or list h []) ≡ out m t (get_or list h [])

  pub apart_or_alike : (k s t : ℕ) → Apart k s t ⊎ Alike k s t
  apart_or_alike zero s t = inr (λ h lt. absurd (omega arith))
  apart_or_alike (suc k) s t =
      ⊎_elim
      (λ (r : Apart k s t). inl (r.0, omega (arith, r.1), r.2))
      (λ (r : Alike k s t). ⊎_elim
      (λ (e : out m s (get_or list k []) ≡ out m t (get_or list k [])). inr (λ h lt. ⊎_elim (λ (l : h < k). r h l) (λ (l : h ≡ k). subst (λ (i : ℕ). out m s (get_or list i []) ≡ out m t (get_or list i [])) (sym l) e) (last_or_before h k (omega arith))))
      (λ (e : out m s (get_or list k []) ≢ out m t (get_or list k [])). inl (k, omega arith, e))
      (same_or_not (out m s (get_or list k [])) (out m t (get_or list k []))))
      (apart_or_alike k s t)

  apart_back : (k s t : ℕ) → Apart k s t → Apart k t s
  apart_back k s t r = (r.0, r.1, λ e. r.2 (sym e))

  apart_more : (k s t : ℕ) → Apart k s t → Apart (suc k) s t
  apart_more k s t r = (r.0, omega (arith, r.1), r.2)

  apart_alike : (k s t r : ℕ) → Apart k s t → Alike k t r → Apart k s r
  apart_alike k s t r h e = (h.0, h.1, λ same. h.2 (same ∙ sym (e h.0 h.1)))

  -- states below n that the first k words separate from one another
  record Crowd (n k : ℕ) (crowd : List ℕ) : Type 0 where
    pub size : length crowd ≡ suc k
    pub states : (i : ℕ) → i < length crowd → get_or crowd i 0 < n
    pub apart : (i j : ℕ) → i < j → j < length crowd → Apart k (get_or crowd i 0) (get_or crowd j 0)

  -- a state of the crowd that is alike to one, or none
  find_alike : (n k t : ℕ) (crowd : List ℕ) (b : ℕ) → b ≤ length crowd → ((i : ℕ) × (i < length crowd) × Alike k (get_or crowd i 0) t) ⊎ ((i : ℕ) → i < b → Apart k (get_or crowd i 0) t)
  find_alike n k t crowd zero le = inr (λ i lt. absurd (omega arith))
  find_alike n k t crowd (suc b) le =
      ⊎_elim
      (λ (f : (i : ℕ) × (i < length crowd) × Alike k (get_or crowd i 0) t). inl f)
      (λ (f : (i : ℕ) → i < b → Apart k (get_or crowd i 0) t). ⊎_elim
      (λ (r : Apart k (get_or crowd b 0) t). inr (λ i lt. ⊎_elim (λ (l : i < b). f i l) (λ (l : i ≡ b). subst (λ (v : ℕ). Apart k (get_or crowd v 0) t) (sym l) r) (last_or_before i b (omega arith))))
      (λ (r : Alike k (get_or crowd b 0) t). inl (b, omega arith, r))
      (apart_or_alike k (get_or crowd b 0) t))
      (find_alike n k t crowd b (omega arith))

  -- one state more, from which the first k + 1 words separate each of the crowd
  crowd_more : (n k t : ℕ) (crowd : List ℕ) → Crowd n k crowd → t < n → ((i : ℕ) → i < length crowd → Apart (suc k) (get_or crowd i 0) t) → Crowd n (suc k) (crowd ++ t ∷ [])
  crowd_more n k t crowd c lt all = record {
    size = omega (arith, length-push crowd t, c.size);
    states = pushed (λ i v. v < n) crowd t 0 c.states lt;
    apart = λ i j ij lj.
        let li : i < length crowd = omega (arith, length-push crowd t) in
        subst (λ (v : ℕ). Apart (suc k) v (get_or (crowd ++ t ∷ []) j 0)) (sym (get_or_append_left crowd (t ∷ []) 0 i li))
        (⊎_elim
        (λ (l : j < length crowd). subst (λ (v : ℕ). Apart (suc k) (get_or crowd i 0) v) (sym (get_or_append_left crowd (t ∷ []) 0 j l)) (apart_more k (get_or crowd i 0) (get_or crowd j 0) (c.apart i j ij l)))
        (λ (l : j ≡ length crowd). subst (λ (v : ℕ). Apart (suc k) (get_or crowd i 0) v) (sym (at_end crowd t 0 j l)) (all i li))
        (last_or_before j (length crowd) (omega (arith, length-push crowd t))));
  }

  -- a word that separates two states which are alike so far makes room for one
  crowd_step : (n k p q : ℕ) (crowd : List ℕ) → Crowd n k crowd → p < n → q < n → Alike k p q → out m p (get_or list k []) ≢ out m q (get_or list k []) → (more : List ℕ) × Crowd n (suc k) more
  crowd_step n k p q crowd c lp lq like differ =
      ⊎_elim
      (λ (f : (i : ℕ) × (i < length crowd) × Alike k (get_or crowd i 0) p).
      ⊎_elim
      (λ (e : out m (get_or crowd f.0 0) (get_or list k []) ≡ out m p (get_or list k [])).
      (crowd ++ q ∷ [], crowd_more n k q crowd c lq (others f.0 f.1 q (λ h lt. f.2 h lt ∙ like h lt) (λ same. differ (sym e ∙ same)))))
      (λ (e : out m (get_or crowd f.0 0) (get_or list k []) ≢ out m p (get_or list k [])).
      (crowd ++ p ∷ [], crowd_more n k p crowd c lp (others f.0 f.1 p f.2 e)))
      (same_or_not (out m (get_or crowd f.0 0) (get_or list k [])) (out m p (get_or list k []))))
      (λ (f : (i : ℕ) → i < length crowd → Apart k (get_or crowd i 0) p). (crowd ++ p ∷ [], crowd_more n k p crowd c lp (λ i lt. apart_more k (get_or crowd i 0) p (f i lt))))
      (find_alike n k p crowd (length crowd) (omega arith))
    where
      others : (i : ℕ) → i < length crowd → (t : ℕ) → Alike k (get_or crowd i 0) t → out m (get_or crowd i 0) (get_or list k []) ≢ out m t (get_or list k []) → (j : ℕ) → j < length crowd → Apart (suc k) (get_or crowd j 0) t
      others i li t e d j lj =
          ⊎_elim
          (λ (s : j ≡ i). (k, omega arith, subst (λ (v : ℕ). out m (get_or crowd v 0) (get_or list k []) ≢ out m t (get_or list k [])) (sym s) d))
          (λ (o : (j < i) ⊎ (i < j)). apart_more k (get_or crowd j 0) t (apart_alike k (get_or crowd j 0) (get_or crowd i 0) t
          (⊎_elim (λ (l : j < i). c.apart j i l li) (λ (l : i < j). apart_back k (get_or crowd i 0) (get_or crowd j 0) (c.apart i j l lj)) o) e))
          (cases_order j i)

module _ (a : ℕ) (m : Rows) (end : ℕ × ℕ) (list : List (List ℕ)) (s : SeparatesUpTo a m end list) (some : 0 < length m) where
  crowd_of : (k : ℕ) → k ≤ length list → (crowd : List ℕ) × Crowd m list (length m) k crowd
  crowd_of zero le = (0 ∷ [], record { size = refl; states = λ i lt. let z : 0 ≡ i = omega arith in subst (λ (v : ℕ). get_or (0 ∷ []) v 0 < length m) z some; apart = λ i j ij lj. absurd (omega arith) })
  crowd_of (suc k) le =
      let c = crowd_of k (omega arith) in
      let lk : k < length list = omega arith in
      let st = s.states k lk in
      crowd_step m list (length m) k (get_or s.pairs k (0, 0)).0 (get_or s.pairs k (0, 0)).1 c.0 c.1 (omega (arith, st.0, st.1)) st.1 (λ h lt. s.needed h k lt lk) (s.least k lk).does.1

  pub fewer_words : length list < length m
  fewer_words =
      let c = crowd_of (length list) (omega arith) in
      let states : All (λ x. x < length m) c.0 = All-from_get_or (λ x. x < length m) c.0 0 c.1.states in
      let differ : AllPairs (λ x y. x ≢ y) c.0 = λ i j d ij lj same.
      let r = c.1.apart i j ij lj in
      let e : get_or c.0 i 0 ≡ get_or c.0 j 0 = sym (get_or_default c.0 i d 0 (omega arith)) ∙ (same ∙ get_or_default c.0 j d 0 lj) in
      r.2 (ap (λ (q : ℕ). out m q (get_or list r.0 [])) e) in
      omega (arith, no_more_than (length m) c.0 states differ, c.1.size)
