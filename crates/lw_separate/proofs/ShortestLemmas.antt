-- The word that is read off the levels is the least that separates.
use Rattle.std.proofs.Common.{◌≡◌, ◌≢◌, ℕ, zero, suc, ◌-◌, ◌<◌, ◌≤◌, ◌⊎◌, inl, inr, ⊎_elim, List, [], ◌∷◌, ◌++◌, length, get_or, refl, ap, sym, ◌∙◌, arith, subst, append_assoc}
use Rattle.std.proofs.lemmas.Bool.{cases_lt, cases_order}
use Rattle.std.proofs.lemmas.List.Elements.{All-cons, All-tail, All-head}
use Rattle.lw_words.specs.Word.{IsWord}
use Rattle.lw_mealy.specs.Machine.{Rows, IsMachine, next, output, out}
use Rattle.lw_mealy.proofs.RowLemmas.{target_below}
use Rattle.lw_separate.specs.Canonical.{SeparatesStates, IsLeastSeparating}
use Rattle.lw_separate.specs.bodies.Levels.{AgreeUpTo, AreApartBy, AreClassesOf, MeetsAt, IsFirstLetter}
use Rattle.lw_separate.specs.bodies.Search.{AtMost}
use Rattle.lw_separate.proofs.Before.{of_cases, at_most_cons, at_most_not_behind, not_behind_at_most}
use Rattle.lw_separate.proofs.LevelLemmas.{heads, tails, tails_back, both, one_letter, one_class_agrees, two_classes_differ, no_letter_agrees}

module _ (a : ℕ) (m : Rows) where
  -- a word is what is left to read of a least separating word with so many letters
  abbrev pub Finishes : ℕ → ℕ → ℕ → List ℕ → Type 0
  Finishes zero p q v = v ≡ []
  Finishes (suc fewer) p q v = IsLeastSeparating a m p q v × (length v ≡ suc fewer)

  pub finished : (l p q : ℕ) (v : List ℕ) → 0 < l → Finishes l p q v → IsLeastSeparating a m p q v
  finished zero p q v pos f = absurd (omega arith)
  finished (suc l) p q v pos f = f.0

  -- a word whose first letter is the least that begins one, and whose rest is the least that goes on
  least_cons : (d p q x : ℕ) (v : List ℕ) → AgreeUpTo a m d p q
      → ((y : ℕ) → y < x → y < a → (output m p y ≡ output m q y) × AgreeUpTo a m d (next m p y) (next m q y))
      → length v ≡ d → SeparatesStates a m p q (x ∷ v)
      → ((u : List ℕ) → length u ≡ d → SeparatesStates a m p q (x ∷ u) → AtMost v u)
      → IsLeastSeparating a m p q (x ∷ v)
  least_cons d p q x v agree below long does rest = record { does = does; least = λ u s. at_most_not_behind (x ∷ v) u (least u s) }
    where
      least : (u : List ℕ) → SeparatesStates a m p q u → AtMost (x ∷ v) u
      least [] s = absurd (s.1 refl)
      least (y ∷ u) s =
          let ya : y < a = All-head (λ z. z < a) y u s.0 in
          let tail : IsWord a u = All-tail (λ z. z < a) y u s.0 in
          ⊎_elim
          (λ (lt : d < length u). inr (of_cases (x ∷ v) (y ∷ u) (inl (omega (arith, long, lt)))))
          (λ (le : length u ≤ d).
          ⊎_elim
          (λ (lt : length u < d). absurd (s.1 (agree (y ∷ u) s.0 (omega (arith, lt)))))
          (λ (ge : d ≤ length u).
          let same : length u ≡ d = omega (arith, le, ge) in
          ⊎_elim
          (λ (e : x ≡ y).
          let t : SeparatesStates a m p q (x ∷ u) = subst (λ (z : ℕ). SeparatesStates a m p q (z ∷ u)) (sym e) s in
          subst (λ (z : ℕ). AtMost (x ∷ v) (z ∷ u)) e (at_most_cons x v u (long ∙ sym same) (rest u same t)))
          (λ (o : (x < y) ⊎ (y < x)). ⊎_elim
          (λ (lt : x < y). inr (of_cases (x ∷ v) (y ∷ u) (inr (omega (arith, long, same), inl lt))))
          (λ (lt : y < x).
          let b = below y lt ya in
          absurd (s.1 (both (output m p y) (output m q y) (out m (next m p y) u) (out m (next m q y) u) b.0 (b.1 u tail (omega (arith, same))))))
          o)
          (cases_order x y))
          (cases_lt (length u) d))
          (cases_lt d (length u))

  module _ (machine : IsMachine a m) (d : ℕ) (cs : List ℕ) (c : AreClassesOf a m d cs) (p q : ℕ) (lp : p < length m) (lq : q < length m) (apart : AreApartBy a m (suc d) p q) where
    -- some letter begins a word of the letters that are left
    pub some_letter : ¬ ((x : ℕ) → x < a → MeetsAt m cs p q x)
    some_letter none =
        let w = apart.1 in
        w.3 (no_letter_agrees a m d cs c machine p q lp lq none w.0 w.1 (omega (arith, w.2)))

    module _ (x : ℕ) (f : IsFirstLetter a m cs p q x) where
      to_p : next m p x < length m
      to_p = target_below a m p x machine lp f.letter

      to_q : next m q x < length m
      to_q = target_below a m q x machine lq f.letter

      below : (y : ℕ) → y < x → y < a → (output m p y ≡ output m q y) × AgreeUpTo a m d (next m p y) (next m q y)
      below y lt ya =
          let h : MeetsAt m cs p q y = f.before y lt in
          (h.0, one_class_agrees a m d cs c (next m p y) (next m q y) (target_below a m p y machine lp ya) (target_below a m q y machine lq ya) h.1)

-- the pair to which the letter leads, and how a word goes on from there
module _ (a : ℕ) (m : Rows) (machine : IsMachine a m) (cs : List ℕ) (p q : ℕ) (lp : p < length m) (lq : q < length m) (x : ℕ) where
  pub step : (d : ℕ) → AreClassesOf a m d cs → AreApartBy a m (suc d) p q → IsFirstLetter a m cs p q x
      → AreApartBy a m d (next m p x) (next m q x) × ((v : List ℕ) → Finishes a m d (next m p x) (next m q x) v → Finishes a m (suc d) p q (x ∷ v))
  step zero c apart f =
      let to_p : next m p x < length m = target_below a m p x machine lp f.letter in
      let to_q : next m q x < length m = target_below a m q x machine lq f.letter in
      let differ : output m p x ≢ output m q x = ⊎_elim
      (λ (o : output m p x ≢ output m q x). o)
      (λ (o : get_or cs (next m p x) 0 ≢ get_or cs (next m q x) 0). let w = two_classes_differ a m 0 cs c (next m p x) (next m q x) to_p to_q o in absurd (w.3 (nothing (next m p x) (next m q x) w.0 (omega (arith, w.2)))))
      f.parts in (
        tt,
        λ v none. subst (λ (u : List ℕ). Finishes a m 1 p q (x ∷ u)) (sym none) (
          least_cons a m 0 p q x [] apart.0 (below a m machine 0 cs c p q lp lq apart x f) refl (one_letter a x f.letter, heads (output m p x) (output m q x) [] [] differ) (λ u long s. inl (sym (empty u long))),
          refl,
        ),
      )
    where
      empty : (u : List ℕ) → length u ≡ 0 → u ≡ []
      empty [] h = refl
      empty (y ∷ u) h = absurd (omega (arith, h))

      nothing : (r s : ℕ) (u : List ℕ) → length u ≡ 0 → out m r u ≡ out m s u
      nothing r s u h = ap (λ (w : List ℕ). out m r w) (empty u h) ∙ sym (ap (λ (w : List ℕ). out m s w) (empty u h))
  step (suc d) c apart f =
      let to_p : next m p x < length m = target_below a m p x machine lp f.letter in
      let to_q : next m q x < length m = target_below a m q x machine lq f.letter in
      let letter : out m p (x ∷ []) ≡ out m q (x ∷ []) = apart.0 (x ∷ []) (one_letter a x f.letter) (omega arith) in
      let same : output m p x ≡ output m q x = ap (λ (l : List ℕ). get_or l 0 0) letter in
      let other : get_or cs (next m p x) 0 ≢ get_or cs (next m q x) 0 = ⊎_elim
      (λ (o : output m p x ≢ output m q x). absurd (o same))
      (λ (o : get_or cs (next m p x) 0 ≢ get_or cs (next m q x) 0). o)
      f.parts in (
        (
          λ w letters le. let e = apart.0 (x ∷ w) (All-cons (λ y. y < a) x w f.letter letters) (omega (arith, le)) in cc,
          two_classes_differ a m (suc d) cs c (next m p x) (next m q x) to_p to_q other,
        ),
        λ v g. (
          least_cons a m (suc d) p q x v apart.0 (below a m machine (suc d) cs c p q lp lq apart x f) g.1
              (All-cons (λ y. y < a) x v f.letter g.0.does.0, tails_back (output m p x) (output m q x) (out m (next m p x) v) (out m (next m q x) v) g.0.does.1)
              (λ u long s. not_behind_at_most u v (g.0.least u (All-tail (λ y. y < a) x u s.0, tails (output m p x) (output m q x) (out m (next m p x) u) (out m (next m q x) u) same s.1))),
          omega (arith, g.1),
        ),
      )

-- the first level on which two states are of two classes
pub first_level : (a : ℕ) (m : Rows) (l p q : ℕ) (cs : List ℕ) → p < length m → q < length m → AreClassesOf a m l cs → get_or cs p 0 ≢ get_or cs q 0
    → ((j : ℕ) → j < l → AgreeUpTo a m j p q) → (0 < l) × AreApartBy a m l p q
first_level a m zero p q cs lp lq c other before =
    let d = two_classes_differ a m 0 cs c p q lp lq other in
    absurd (nothing d.0 (omega (arith, d.2)) d.3)
  where
    nothing : (u : List ℕ) → length u ≡ 0 → out m p u ≢ out m q u → ⊥
    nothing [] h differ = differ refl
    nothing (y ∷ u) h differ = omega (arith, h)
first_level a m (suc l) p q cs lp lq c other before = (omega arith, (before l (omega arith), two_classes_differ a m (suc l) cs c p q lp lq other))

-- a letter is read, of a word that finishes what was read before it
pub read_on : (a : ℕ) (m : Rows) → IsMachine a m → (cs : List ℕ) (p q l x p' q' : ℕ) → p < length m → q < length m → 0 < l
    → AreClassesOf a m (l - 1) cs → AreApartBy a m l p q → IsFirstLetter a m cs p q x → p' ≡ next m p x → q' ≡ next m q x
    → (letters s t : ℕ) (word word' : List ℕ) → word' ≡ word ++ x ∷ [] → ((v : List ℕ) → Finishes a m l p q v → Finishes a m letters s t (word ++ v))
    → AreApartBy a m (l - 1) p' q' × ((v : List ℕ) → Finishes a m (l - 1) p' q' v → Finishes a m letters s t (word' ++ v))
read_on a m machine cs p q l x p' q' lp lq pos c apart f to_p to_q letters s t word word' longer way =
    let one : l ≡ suc (l - 1) = omega (arith, pos) in
    let r = step a m machine cs p q lp lq x (l - 1) c (subst (λ (k : ℕ). AreApartBy a m k p q) one apart) f in (
      subst (λ (n : ℕ). AreApartBy a m (l - 1) n q') (sym to_p) (subst (λ (n : ℕ). AreApartBy a m (l - 1) (next m p x) n) (sym to_q) r.0),
      λ v g.
          let g' : Finishes a m (l - 1) (next m p x) (next m q x) v = subst (λ (n : ℕ). Finishes a m (l - 1) n (next m q x) v) to_p (subst (λ (n : ℕ). Finishes a m (l - 1) p' n v) to_q g) in
          let whole = way (x ∷ v) (subst (λ (k : ℕ). Finishes a m k p q (x ∷ v)) (sym one) (r.1 v g')) in
          subst (λ (u : List ℕ). Finishes a m letters s t u) (sym (ap (λ (u : List ℕ). u ++ v) longer ∙ append_assoc word (x ∷ []) v)) whole,
    )
