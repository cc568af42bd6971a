-- The separators of a machine exist where any two states differ: the walk over the pairs, as a construction.
use Rattle.std.proofs.Common.{◌≡◌, ◌≢◌, ℕ, zero, suc, ◌+◌, ◌<◌, ⊎_elim, List, [], ◌∷◌, ◌++◌, length, subst, arith}
use Rattle.lw_mealy.specs.Machine.{Rows, out, Differ}
use Rattle.lw_separate.specs.Canonical.{IsLeastSeparating}
use Rattle.lw_separate.specs.bodies.Walk.{SeparatesUpTo}
use Rattle.lw_separate.proofs.CrowdLemmas.{same_or_not, Apart, Alike, apart_or_alike}
use Rattle.lw_separate.proofs.Decided.{decides_not}
use Rattle.lw_separate.proofs.ExistenceWords.{least_word}
use Rattle.lw_separate.proofs.WalkLemmas.{walk_start, row_done, pair_split, pair_added}

module _ (a : ℕ) (m : Rows) (differ : (p q : ℕ) → p < q → q < length m → Differ a m p q) where
  -- a walk that has come to this end
  abbrev pub Walked : ℕ × ℕ → Type 0
  Walked end = (list : List (List ℕ)) × SeparatesUpTo a m end list

  least_separating : (p q : ℕ) → p < q → q < length m → (w : List ℕ) × IsLeastSeparating a m p q w
  least_separating p q pq lq =
      let d = differ p q pq lq in
      least_word a (λ w. out m p w ≢ out m q w) (λ w. decides_not (same_or_not (out m p w) (out m q w))) d.0 d.1 d.2

  pair_walked : (p q : ℕ) → p < q → q < length m → Walked (p, q) → Walked (p, q + 1)
  pair_walked p q pq lq (list, s) =
      ⊎_elim
      (λ (r : Apart m list (length list) p q). (list, pair_split a m p q list s (r.0, (r.1, r.2))))
      (λ (r : Alike m list (length list) p q). let w = least_separating p q pq lq in (list ++ w.0 ∷ [], pair_added a m p q list s pq lq r w.0 w.1))
      (apart_or_alike m list (length list) p q)

  row_walked : (left p q : ℕ) → q + left ≡ length m → p < q → Walked (p, q) → Walked (p + 1, p + 1 + 1)
  row_walked zero p q end pq w = (w.0, row_done a m p q w.0 (omega (arith, end)) w.1)
  row_walked (suc left) p q end pq w = row_walked left p (q + 1) (omega arith) (omega arith) (pair_walked p q pq (omega (arith, end)) w)

  walked_from : (left p : ℕ) → p + left ≡ length m → Walked (p, p + 1) → Walked (length m, length m + 1)
  walked_from zero p end w = subst (λ (n : ℕ). Walked (n, n + 1)) (omega (arith, end)) w
  walked_from (suc left) p end w = walked_from left (p + 1) (omega arith) (row_walked left p (p + 1) (omega arith) (omega arith) w)

  -- the whole walk
  pub walked : Walked (length m, length m + 1)
  walked = walked_from (length m) 0 (omega arith) ([], walk_start a m)
