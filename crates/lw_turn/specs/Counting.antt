-- A history has as many entries as its actors made.
use Rattle.std.specs.Prelude.{◌≡◌, ◌≢◌, ℕ, zero, suc, ◌+◌, ◌*◌, ◌<◌, ◌≤◌, List, [], ◌∷◌, length, Bool, true, false, refl}
use Rattle.std.proofs.Common.{sym, ap, ◌∙◌, cond, eqb, eq-eqb, ne_eqb, arith}
use Rattle.std.specs.Cmp.{unsigned_Decides}
use Rattle.std.proofs.Math.Nat.{lt_of_not-le}
use Rattle.lw_turn.specs.declared.shared.Entry.{Entry}
use Rattle.lw_turn.specs.History.{entries_of}

-- the sum of f over the numbers below m
abbrev pub sum_below : ℕ → (ℕ → ℕ) → ℕ
sum_below zero f = 0
sum_below (suc m) f = sum_below m f + f m

pub sum_below-same : (m : ℕ) (f g : ℕ → ℕ) → ((n : ℕ) → f n ≡ g n) → sum_below m f ≡ sum_below m g
sum_below-same zero f g same = refl
sum_below-same (suc m) f g same = let a = sum_below-same m f g same in let b = same m in omega (arith, a, b)

pub sum_below-add : (m : ℕ) (f g : ℕ → ℕ) → sum_below m (λ n. f n + g n) ≡ sum_below m f + sum_below m g
sum_below-add zero f g = omega arith
sum_below-add (suc m) f g = let a = sum_below-add m f g in omega (arith, a)

-- this many numbers, each at most k
pub sum_below-le : (m k : ℕ) (f : ℕ → ℕ) → ((n : ℕ) → n < m → f n ≤ k) → sum_below m f ≤ m * k
sum_below-le zero k f le = omega arith
sum_below-le (suc m) k f le = let a = sum_below-le m k f (λ n lt. le n (omega arith)) in let b = le m (omega arith) in omega (arith, a, b)

abbrev one_at : ℕ → ℕ → ℕ
one_at a n = cond (eqb a n) 1 0

one_at_same : (a n : ℕ) → a ≡ n → one_at a n ≡ 1
one_at_same a n e = ap (λ b. cond b 1 0) (eq-eqb a n e)

one_at_other : (a n : ℕ) → a ≢ n → one_at a n ≡ 0
one_at_other a n ne = ap (λ b. cond b 1 0) (ne_eqb a n ne)

none_below : (m a : ℕ) → m ≤ a → sum_below m (one_at a) ≡ 0
none_below zero a le = refl
none_below (suc m) a le = let h = none_below m a (omega arith) in let z = one_at_other a m (λ e. omega (arith, e)) in omega (arith, h, z)

one_below : (m a : ℕ) → a < m → sum_below m (one_at a) ≡ 1
one_below zero a lt = absurd (omega arith)
one_below (suc m) a lt = by (λ (h : a < m). one_below m a h) (eqb a m) refl
  where
    by : (a < m → sum_below m (one_at a) ≡ 1) → (b : Bool) → eqb a m ≡ b → sum_below m (one_at a) + one_at a m ≡ 1
    by less true e = let same : a ≡ m = (unsigned_Decides a m).0 e in let h = none_below m a (omega (arith, same)) in let z = one_at_same a m same in omega (arith, h, z)
    by less false e =
        let other : a ≢ m = λ q. let t = eq-eqb a m q in let z : true ≡ false = sym t ∙ e in absurd (cc) in
        let h = less (omega (arith, other, lt)) in let z = one_at_other a m other in omega (arith, h, z)

module _ {A B : Type 0} where
  one_more : (n : ℕ) (e : Entry A B) (es : List (Entry A B)) → length (entries_of n (e ∷ es)) ≡ one_at e.actor n + length (entries_of n es)
  one_more n e es = by (eqb e.actor n)
    where
      by : (b : Bool) → length (cond b (e ∷ entries_of n es) (entries_of n es)) ≡ cond b 1 0 + length (entries_of n es)
      by true = omega arith
      by false = omega arith

  -- where the actors are below m, the entries are those of the actors below m
  pub length-by_actor : (m : ℕ) (es : List (Entry A B)) → ((n : ℕ) → m ≤ n → entries_of n es ≡ []) → length es ≡ sum_below m (λ n. length (entries_of n es))
  length-by_actor m [] none = sym (zeros m)
    where
      zeros : (k : ℕ) → sum_below k (λ n. 0) ≡ 0
      zeros zero = refl
      zeros (suc k) = omega (arith, zeros k)
  length-by_actor m (e ∷ es) none =
      let below : e.actor < m = lt_of_not-le (λ le. let z = short e.actor le in let o = one_at_same e.actor e.actor refl in omega (arith, z, o)) in
      let h = length-by_actor m es rest in
      let s = sum_below-same m (λ n. length (entries_of n (e ∷ es))) (λ n. one_at e.actor n + length (entries_of n es)) (λ n. one_more n e es) in
      let a = sum_below-add m (one_at e.actor) (λ n. length (entries_of n es)) in
      let o = one_below m e.actor below in
      omega (arith, h, s, a, o)
    where
      short : (n : ℕ) → m ≤ n → one_at e.actor n + length (entries_of n es) ≡ 0
      short n le = sym (one_more n e es) ∙ ap length (none n le)

      empty : (l : List (Entry A B)) → length l ≡ 0 → l ≡ []
      empty [] z = refl
      empty (x ∷ l) z = absurd (omega arith)

      rest : (n : ℕ) → m ≤ n → entries_of n es ≡ []
      rest n le = empty (entries_of n es) (let z = short n le in omega (arith, z))
