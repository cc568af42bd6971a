-- What the calls answer is one.
use Rattle.std.proofs.Common.{◌≡◌, ℕ, zero, suc, ◌<◌, ◌≤◌, ◌⊎◌, inl, inr, ⊎_elim, List, [], length, get_or, sym, ◌∙◌, arith, subst}
use Rattle.std.proofs.lemmas.List.{ext_get_or, get_or_past}
use Rattle.std.proofs.lemmas.Bool.{cases_lt, cases_order}
use Rattle.lw_mealy.specs.Machine.{Rows}
use Rattle.lw_separate.specs.Canonical.{LeastWord, IsLeastSeparating, OneAccessWord, OneSeparatingWord, OneLeastAccess}
use Rattle.lw_separate.specs.Separators.{Earlier, AgreeOn, IsSeparators, OneSeparators}
use Rattle.lw_separate.proofs.Before.{neither_before}

one_least : (Does : List ℕ → Type 0) (u v : List ℕ) → LeastWord Does u → LeastWord Does v → u ≡ v
one_least Does u v k l = neither_before u v (l.least u k.does) (k.least v l.does)

pub one_access_word : OneAccessWord
one_access_word a m q u v k l = one_least _ u v k l

pub one_separating_word : OneSeparatingWord
one_separating_word a m p q u v k l = one_least _ u v k l

pub one_least_access : OneLeastAccess
one_least_access a m u v k l =
    ext_get_or [] u v (k.each ∙ sym l.each) (λ q lt. let lq : q < length m = omega (arith, k.each) in one_access_word a m q (get_or u q []) (get_or v q []) (k.words q lq) (l.words q lq))

-- of two pairs neither of which is earlier than the other
neither_earlier : (e f : ℕ × ℕ) → ¬ Earlier e f → ¬ Earlier f e → (e.0 ≡ f.0) × (e.1 ≡ f.1)
neither_earlier e f h k =
    ⊎_elim
    (λ (s : e.0 ≡ f.0). ⊎_elim (λ (t : e.1 ≡ f.1). (s, t)) (λ (o : (e.1 < f.1) ⊎ (f.1 < e.1)). absurd (⊎_elim (λ (l : e.1 < f.1). h (inr (s, l))) (λ (l : f.1 < e.1). k (inr (sym s, l))) o)) (cases_order e.1 f.1))
    (λ (o : (e.0 < f.0) ⊎ (f.0 < e.0)). absurd (⊎_elim (λ (l : e.0 < f.0). h (inl l)) (λ (l : f.0 < e.0). k (inl l)) o))
    (cases_order e.0 f.0)

earlier_then : (e f g : ℕ × ℕ) → Earlier e f → Earlier f g → Earlier e g
earlier_then e f g h k =
    ⊎_elim
    (λ (l : e.0 < f.0). ⊎_elim (λ (r : f.0 < g.0). inl (omega arith)) (λ (r : (f.0 ≡ g.0) × (f.1 < g.1)). inl (omega (arith, r.0))) k)
    (λ (l : (e.0 ≡ f.0) × (e.1 < f.1)). ⊎_elim (λ (r : f.0 < g.0). inl (omega (arith, l.0))) (λ (r : (f.0 ≡ g.0) × (f.1 < g.1)). inr (l.0 ∙ r.0, omega (arith, l.1, r.1))) k)
    h

-- one list goes on where the other does, by a pair that isn't later
module _ (a : ℕ) (m : Rows) (u v : List (List ℕ)) (k : IsSeparators a m u) (l : IsSeparators a m v) where
  abbrev pub goes_on : ℕ → Type 0
  goes_on i = (i < length v) × ¬ Earlier (get_or k.pairs i (0, 0)) (get_or l.pairs i (0, 0))

  pub reaches : (i : ℕ) → i < length u → ((j : ℕ) → j < i → get_or u j [] ≡ get_or v j []) → goes_on i
  reaches i lt same =
      let st = k.states i lt in
      let o = l.whole (get_or k.pairs i (0, 0)).0 (get_or k.pairs i (0, 0)).1 st.0 st.1 in
      ⊎_elim
      (λ (b : o.0 < i). absurd (o.1.1 (subst (λ (w : List ℕ). AgreeOn m (get_or k.pairs i (0, 0)) w) (same o.0 b) (k.needed o.0 i b lt))))
      (λ (b : i ≤ o.0). (
        omega (arith, o.1.0),
        λ e. o.2 (⊎_elim
            (λ (s : i ≡ o.0). subst (λ (n : ℕ). Earlier (get_or k.pairs i (0, 0)) (get_or l.pairs n (0, 0))) s e)
            (λ (d : (i < o.0) ⊎ (o.0 < i)). ⊎_elim (λ (lt' : i < o.0). earlier_then (get_or k.pairs i (0, 0)) (get_or l.pairs i (0, 0)) (get_or l.pairs o.0 (0, 0)) e (l.rising i o.0 lt' o.1.0)) (λ (no : o.0 < i). absurd (omega arith)) d)
            (cases_order i o.0)),
      ))
      (cases_lt o.0 i)

module _ (a : ℕ) (m : Rows) (u v : List (List ℕ)) (k : IsSeparators a m u) (l : IsSeparators a m v) where
  back : (n : ℕ) → ((j : ℕ) → j < n → get_or u j [] ≡ get_or v j []) → (j : ℕ) → j < n → get_or v j [] ≡ get_or u j []
  back n same j lt = sym (same j lt)

  word_same : (i : ℕ) → ((j : ℕ) → j < i → get_or u j [] ≡ get_or v j []) → get_or u i [] ≡ get_or v i []
  word_same i same =
      ⊎_elim
      (λ (lt : i < length u).
      let on = reaches a m u v k l i lt same in
      let off = reaches a m v u l k i on.0 (back i same) in
      let e = neither_earlier (get_or k.pairs i (0, 0)) (get_or l.pairs i (0, 0)) on.1 off.1 in
      let w : IsLeastSeparating a m (get_or k.pairs i (0, 0)).0 (get_or k.pairs i (0, 0)).1 (get_or v i []) = subst (λ (q : ℕ). IsLeastSeparating a m (get_or k.pairs i (0, 0)).0 q (get_or v i [])) (sym e.1) (subst (λ (p : ℕ). IsLeastSeparating a m p (get_or l.pairs i (0, 0)).1 (get_or v i [])) (sym e.0) (l.least i on.0)) in
      one_separating_word a m (get_or k.pairs i (0, 0)).0 (get_or k.pairs i (0, 0)).1 (get_or u i []) (get_or v i []) (k.least i lt) w)
      (λ (end : length u ≤ i).
      ⊎_elim
      (λ (lt : i < length v). let off = reaches a m v u l k i lt (back i same) in absurd (omega (arith, off.0)))
      (λ (end' : length v ≤ i). get_or_past u i [] end ∙ sym (get_or_past v i [] end'))
      (cases_lt i (length v)))
      (cases_lt i (length u))

  words_same : (n j : ℕ) → j < n → get_or u j [] ≡ get_or v j []
  words_same zero j lt = absurd (omega arith)
  words_same (suc n) j lt = word_same j (λ i il. words_same n i (omega arith))

  pub not_longer : length u ≤ length v
  not_longer = ⊎_elim
      (λ (lt : length v < length u). let on = reaches a m u v k l (length v) lt (words_same (length v)) in absurd (omega (arith, on.0)))
      (λ (le : length u ≤ length v). le)
      (cases_lt (length v) (length u))

  pub words_equal : (j : ℕ) → get_or u j [] ≡ get_or v j []
  words_equal j = words_same (suc j) j (omega arith)

pub one_separators : OneSeparators
one_separators a m u v k l = ext_get_or [] u v (omega (arith, not_longer a m u v k l, not_longer a m v u l k)) (λ j lt. words_equal a m u v k l j)
