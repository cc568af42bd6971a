-- The classes of a machine's states by all words exist: the levels, as a construction.
use Rattle.std.proofs.Common.{◌≡◌, ◌≢◌, ℕ, zero, suc, ◌+◌, ◌*◌, ◌<◌, ◌≤◌, ◌⊎◌, inl, inr, ⊎_elim, List, [], ◌∷◌, ◌++◌, length, get_or, replicate, refl, sym, subst, arith}
use Rattle.std.proofs.lemmas.Bool.{cases_order}
use Rattle.lw_mealy.specs.Machine.{Rows, IsMachine, next, output}
use Rattle.lw_separate.specs.bodies.Levels.{AreClassesOf, MeetsAt, PartsAt, StayTogether, GoApart, IsLeastTogether, AreRefined}
use Rattle.lw_separate.specs.bodies.Renaming.{NamesStates}
use Rattle.lw_separate.proofs.SearchLemmas.{length-push}
use Rattle.lw_separate.proofs.AccessLemmas.{pushed}
use Rattle.lw_separate.proofs.CrowdLemmas.{same_or_not}
use Rattle.lw_separate.proofs.Decided.{first_below}
use Rattle.lw_separate.proofs.LevelLemmas.{refined_classes, refined_rises, settled, total, total_below, total_less, one_class}

-- a list of what there is for each number below n
pub collected : {X : Type 0} (P : ℕ → X → Type 0) (d : X) (n : ℕ) → ((k : ℕ) → k < n → (x : X) × P k x) → (xs : List X) × (length xs ≡ n) × ((k : ℕ) → k < length xs → P k (get_or xs k d))
collected P d zero each = ([], refl, λ k lt. absurd (omega arith))
collected {X} P d (suc n) each =
    let r = collected P d n (λ k lt. each k (omega arith)) in
    let x = each n (omega arith) in
    (r.0 ++ x.0 ∷ [], omega (arith, length-push r.0 x.0, r.1), pushed P r.0 x.0 d r.2 (subst (λ (k : ℕ). P k x.0) (sym r.1) x.1))

equal_or_not : (j k : ℕ) → (j ≡ k) ⊎ (j ≢ k)
equal_or_not j k = ⊎_elim (λ (s : j ≡ k). inl s) (λ (o : (j < k) ⊎ (k < j)). inr (λ s. ⊎_elim (λ (l : j < k). omega arith) (λ (l : k < j). omega arith) o)) (cases_order j k)

module _ (a : ℕ) (m : Rows) (cs : List ℕ) where
  parts_or_meets : (p q x : ℕ) → PartsAt m cs p q x ⊎ MeetsAt m cs p q x
  parts_or_meets p q x =
      ⊎_elim
      (λ (e : output m p x ≡ output m q x).
      ⊎_elim
      (λ (f : get_or cs (next m p x) 0 ≡ get_or cs (next m q x) 0). inr (e, f))
      (λ (f : get_or cs (next m p x) 0 ≢ get_or cs (next m q x) 0). inl (inr f))
      (equal_or_not (get_or cs (next m p x) 0) (get_or cs (next m q x) 0)))
      (λ (e : output m p x ≢ output m q x). inl (inl e))
      (equal_or_not (output m p x) (output m q x))

  together_or_apart : (p q : ℕ) → StayTogether a m cs p q ⊎ GoApart a m cs p q
  together_or_apart p q =
      ⊎_elim
      (λ (e : get_or cs p 0 ≡ get_or cs q 0).
      ⊎_elim
      (λ (f : (x : ℕ) × (x < a) × PartsAt m cs p q x × ((y : ℕ) → y < x → MeetsAt m cs p q y)). inr (inr (f.0, f.1, f.2)))
      (λ (none : (y : ℕ) → y < a → MeetsAt m cs p q y). inl (e, none))
      (first_below (λ x. PartsAt m cs p q x) (λ x. MeetsAt m cs p q x) a (λ x lt. parts_or_meets p q x)))
      (λ (e : get_or cs p 0 ≢ get_or cs q 0). inr (inl e))
      (equal_or_not (get_or cs p 0) (get_or cs q 0))

  least_together : (q : ℕ) → (p : ℕ) × IsLeastTogether a m cs q p
  least_together q =
      ⊎_elim
      (λ (f : (p : ℕ) × (p < q) × StayTogether a m cs p q × ((r : ℕ) → r < p → GoApart a m cs r q)). (f.0, record { within = omega (arith, f.1); together = f.2; least = λ r le lt. f.3 r lt }))
      (λ (none : (r : ℕ) → r < q → GoApart a m cs r q). (q, record { within = omega arith; together = (refl, λ x xa. (refl, refl)); least = λ r le lt. none r lt }))
      (first_below (λ p. StayTogether a m cs p q) (λ p. GoApart a m cs p q) q (λ p lt. together_or_apart p q))

  refined : (ns : List ℕ) × AreRefined a m cs ns
  refined =
      let r = collected (λ q p. IsLeastTogether a m cs q p) 0 (length m) (λ q lt. least_together q) in
      (r.0, record { long = r.1; each = r.2 })

module _ (a : ℕ) (m : Rows) (machine : IsMachine a m) where
  names_from : (fuel l : ℕ) (cs : List ℕ) → AreClassesOf a m l cs → length m * length m < total cs + fuel → (names : List ℕ) × NamesStates a m names
  names_from zero l cs c few =
      let low : total cs ≤ length cs * length m = total_below cs (length m) (λ q lt. let lq : q < length m = omega (arith, c.named.long) in omega (arith, c.named.low q lq)) in
      let e : length cs * length m ≡ length m * length m = rw c.named.long refl in
      absurd (omega (arith, low, e, few))
  names_from (suc fuel) l cs c few =
      let n = refined a m cs in
      ⊎_elim
      (λ (same : cs ≡ n.0). (cs, settled a m l cs c machine (subst (λ (ns : List ℕ). AreRefined a m cs ns) (sym same) n.1)))
      (λ (other : cs ≢ n.0).
      let more : total cs < total n.0 = total_less cs n.0 (omega (arith, c.named.long, n.1.long)) (refined_rises a m l cs c machine n.0 n.1) other in
      names_from fuel (l + 1) n.0 (refined_classes a m l cs c machine n.0 n.1) (omega (arith, more)))
      (same_or_not cs n.0)

  pub names : (names : List ℕ) × NamesStates a m names
  names = names_from (length m * length m + 1) 0 (replicate (length m) 0) (one_class a m) (omega arith)
