-- Any two states of a machine differ, or a first pair of them agrees on all words.
use Rattle.std.proofs.Common.{◌≡◌, ◌≢◌, ℕ, ◌<◌, ◌≤◌, ◌⊎◌, inl, inr, ⊎_elim, length, get_or, sym, ap, ◌∙◌, subst, arith}
use Rattle.std.proofs.lemmas.Bool.{cases_lt, cases_eq}
use Rattle.lw_mealy.specs.Machine.{Rows, IsMachine, out, Differ}
use Rattle.lw_separate.specs.FirstAlike.{AreFirstAlike, AnyTwoDiffer}
use Rattle.lw_separate.specs.bodies.Alike.{IsNextAlike, LaterDiffer}
use Rattle.lw_separate.proofs.Decided.{Decided, first_below}
use Rattle.lw_separate.proofs.ExistenceLevels.{names}
use Rattle.lw_separate.proofs.MergeLemmas.{two_names_differ}

module _ (a : ℕ) (m : Rows) (machine : IsMachine a m) where
  decides_differ : (p q : ℕ) → p < length m → q < length m → Decided (Differ a m p q)
  decides_differ p q lp lq =
      let n = names a m machine in
      ⊎_elim
      (λ (same : get_or n.0 p 0 ≡ get_or n.0 q 0). inr (λ (d : Differ a m p q).
      let at_p = (n.1.each p (omega (arith, n.1.long))).agrees d.0 d.1 in
      let at_q = (n.1.each q (omega (arith, n.1.long))).agrees d.0 d.1 in
      d.2 (sym at_p ∙ (ap (λ (r : ℕ). out m r d.0) same ∙ at_q))))
      (λ (other : get_or n.0 p 0 ≢ get_or n.0 q 0). inl (two_names_differ a m n.0 n.1 p q lp lq other))
      (cases_eq (get_or n.0 p 0) (get_or n.0 q 0))

  later_or_not : (p q : ℕ) → q < length m → ((p < q) × ¬ Differ a m p q) ⊎ (p < q → Differ a m p q)
  later_or_not p q lq =
      ⊎_elim
      (λ (pq : p < q). ⊎_elim (λ (d : Differ a m p q). inr (λ (lt : p < q). d)) (λ (no : ¬ Differ a m p q). inl (pq, no)) (decides_differ p q (omega arith) lq))
      (λ (qp : q ≤ p). inr (λ (lt : p < q). absurd (omega arith)))
      (cases_lt p q)

  next_alike : (p : ℕ) → ((q : ℕ) × IsNextAlike a m p q) ⊎ LaterDiffer a m p
  next_alike p =
      ⊎_elim
      (λ (f : (q : ℕ) × (q < length m) × ((p < q) × ¬ Differ a m p q) × ((r : ℕ) → r < q → p < r → Differ a m p r)). inl (f.0, record { after = f.2.0; state = f.1; alike = f.2.1; least = λ r pr rq. f.3 r rq pr }))
      (λ (none : (q : ℕ) → q < length m → p < q → Differ a m p q). inr (λ q pq lq. none q lq pq))
      (first_below (λ q. (p < q) × ¬ Differ a m p q) (λ q. p < q → Differ a m p q) (length m) (λ q lq. later_or_not p q lq))

  pub first_alike_or_none : ((pair : ℕ × ℕ) × AreFirstAlike a m pair) ⊎ AnyTwoDiffer a m
  first_alike_or_none =
      ⊎_elim
      (λ (f : (p : ℕ) × (p < length m) × ((q : ℕ) × IsNextAlike a m p q) × ((r : ℕ) → r < p → LaterDiffer a m r)).
      let n = f.2.1 in
      inl (
        (f.0, f.2.0),
        record {
          rising = n.after;
          state = n.state;
          alike = n.alike;
          first = λ r s rs ls e. ⊎_elim
              (λ (l : r < f.0). f.3 r l s rs ls)
              (λ (t : (r ≡ f.0) × (s < f.2.0)). subst (λ (v : ℕ). Differ a m v s) (sym t.0) (n.least s (omega (arith, rs, t.0)) t.1))
              e;
        },
      ))
      (λ (none : (p : ℕ) → p < length m → LaterDiffer a m p). inr (λ p q pq lq. none p (omega arith) q pq lq))
      (first_below (λ p. (q : ℕ) × IsNextAlike a m p q) (λ p. LaterDiffer a m p) (length m) (λ p lp. next_alike p))
