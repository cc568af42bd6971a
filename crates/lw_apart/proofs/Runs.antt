-- Words joined end to end, on a machine.
use Rattle.std.proofs.Common.{◌≡◌, ℕ, zero, suc, ◌<◌, List, [], ◌∷◌, ◌++◌, length, take, drop, sym, ap, ◌∙◌, arith}
use Rattle.lw_mealy.specs.Machine.{Rows, IsMachine, after, out, next}
use Rattle.lw_mealy.proofs.RowLemmas.{target_below}
use Rattle.lw_mealy.proofs.WordLemmas.{out-append, length-out}
use Rattle.lw_chunks.proofs.NumberLemmas.{Over}

pub after_below : (a : ℕ) (m : Rows) (q : ℕ) (w : List ℕ) → IsMachine a m → q < length m → Over a w → after m q w < length m
after_below a m q [] k lt o = lt
after_below a m q (x ∷ w) k lt o = after_below a m (next m q x) w k (target_below a m q x k lt o.0) o.1

pub over_append : (a : ℕ) (u v : List ℕ) → Over a u → Over a v → Over a (u ++ v)
over_append a [] v p q = q
over_append a (x ∷ u) v p q = (p.0, over_append a u v p.1 q)

pub over_take : (a n : ℕ) (w : List ℕ) → Over a w → Over a (take n w)
over_take a zero w o = tt
over_take a (suc n) [] o = tt
over_take a (suc n) (x ∷ w) o = (o.0, over_take a n w o.1)

pub over_drop : (a n : ℕ) (w : List ℕ) → Over a w → Over a (drop n w)
over_drop a zero w o = o
over_drop a (suc n) [] o = tt
over_drop a (suc n) (x ∷ w) o = over_drop a n w o.1

-- lists that begin with as many elements and are equal go on alike
pub rest_same : {A : Type 0} (u v s t : List A) → length u ≡ length v → u ++ s ≡ v ++ t → s ≡ t
rest_same [] [] s t l e = e
rest_same [] (y ∷ v) s t l e = absurd (omega (arith, l))
rest_same (x ∷ u) [] s t l e = absurd (omega (arith, l))
rest_same (x ∷ u) (y ∷ v) s t l e = rest_same u v s t (omega (arith, l)) (ap (drop 1) e)

-- two machines that agree on a joined word agree on its end, from the states after its beginning
pub tail_same : (m h : Rows) (u v : List ℕ) → out m 0 (u ++ v) ≡ out h 0 (u ++ v) → out m (after m 0 u) v ≡ out h (after h 0 u) v
tail_same m h u v e =
    rest_same (out m 0 u) (out h 0 u) (out m (after m 0 u) v) (out h (after h 0 u) v)
    (length-out m 0 u ∙ sym (length-out h 0 u))
    (sym (out-append m 0 u v) ∙ (e ∙ out-append h 0 u v))
