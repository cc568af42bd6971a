-- The tickets that are out, where one place changes or one is added.
use Rattle.std.proofs.Common.{◌≡◌, ◌≢◌, ℕ, ◌+◌, List, [], ◌∷◌, ◌++◌, refl, sym, ap, ◌∙◌, subst, ⊎_elim, arith, set}
use Rattle.std.specs.Prelude.{Option, Some, None, is_some, count_by}
use mathlib.Core.Option.{some}
use lib.ListN.{get_elem?}
use Rattle.atomic_table.proofs.Lists.{at_set, at_snoc}
use Rattle.lw_turn.specs.declared.view.Doing.{Doing}
use Rattle.lw_turn.specs.Rule.{ticket_of, has_ticket, AreTickets}
use Rattle.lw_turn.proofs.Places.{bit, count_by-set, count_by-snoc}

module _ {O A B : Type 0} where
  -- the count after a change
  counted_set : (places : List (Doing O A B)) (id : ℕ) (d new : Doing O A B) (s t : Option ℕ) → get_elem? places id ≡ some d → ticket_of d.stage ≡ s → ticket_of new.stage ≡ t
      → count_by has_ticket (set places id new) + bit (is_some s) ≡ count_by has_ticket places + bit (is_some t)
  counted_set places id d new s t at e f =
      let c = count_by-set has_ticket places id d new at in
      subst (λ (x : Option ℕ). count_by has_ticket (set places id new) + bit (is_some x) ≡ count_by has_ticket places + bit (is_some t)) e
      (subst (λ (x : Option ℕ). count_by has_ticket (set places id new) + bit (has_ticket d) ≡ count_by has_ticket places + bit (is_some x)) f c)

  -- each place after the change was there before, with the same ticket
  before_set : (places : List (Doing O A B)) (id : ℕ) (d new : Doing O A B) → get_elem? places id ≡ some d → ticket_of new.stage ≡ ticket_of d.stage
      → (i : ℕ) (x : Doing O A B) → get_elem? (set places id new) i ≡ some x → (y : Doing O A B) × (get_elem? places i ≡ some y) × (ticket_of y.stage ≡ ticket_of x.stage)
  before_set places id d new at e i x is =
      ⊎_elim
      (λ (h : (i ≡ id) × (new ≡ x)). (d, subst (λ (k : ℕ). get_elem? places k ≡ some d) (sym h.0) at, sym e ∙ ap (λ (z : Doing O A B). ticket_of z.stage) h.1))
      (λ (h : (i ≢ id) × (get_elem? places i ≡ some x)). (x, h.1, refl))
      (at_set places id i new x is)

  pub tickets_same : (served next : ℕ) (places : List (Doing O A B)) (id : ℕ) (d new : Doing O A B) → get_elem? places id ≡ some d → ticket_of new.stage ≡ ticket_of d.stage
      → AreTickets served next places → AreTickets served next (set places id new)
  tickets_same served next places id d new at e all = record {
    counted = let c = counted_set places id d new (ticket_of d.stage) (ticket_of d.stage) at refl e in omega (arith, all.counted, c);
    bounds = λ i x t is tk. let b = before_set places id d new at e i x is in all.bounds i b.0 t b.1 (b.2 ∙ tk);
    apart = λ i j x y t isx isy tx ty.
        let b = before_set places id d new at e i x isx in
        let c = before_set places id d new at e j y isy in all.apart i j b.0 c.0 t b.1 c.1 (b.2 ∙ tx) (c.2 ∙ ty);
  }

  pub tickets_drawn : (served next : ℕ) (places : List (Doing O A B)) (id : ℕ) (d new : Doing O A B) → get_elem? places id ≡ some d → ticket_of d.stage ≡ None → ticket_of new.stage ≡ Some next
      → AreTickets served next places → AreTickets served (next + 1) (set places id new)
  tickets_drawn served next places id d new at was is all = record {
    counted = let c = counted_set places id d new None (Some next) at was is in omega (arith, all.counted, c);
    bounds = λ i x t isx tk.
        ⊎_elim
        (λ (h : (i ≡ id) × (new ≡ x)).
        let e : Some t ≡ Some next = sym tk ∙ ap (λ (z : Doing O A B). ticket_of z.stage) (sym h.1) ∙ is in
        let n : t ≡ next = cc in (omega (arith, all.counted, n), omega (arith, n)))
        (λ (h : (i ≢ id) × (get_elem? places i ≡ some x)). let b = all.bounds i x t h.1 tk in (b.0, omega (arith, b.1)))
        (at_set places id i new x isx);
    apart = λ i j x y t isx isy tx ty.
        ⊎_elim
        (λ (h : (i ≡ id) × (new ≡ x)).
        ⊎_elim
        (λ (k : (j ≡ id) × (new ≡ y)). h.0 ∙ sym k.0)
        (λ (k : (j ≢ id) × (get_elem? places j ≡ some y)).
        let e : Some t ≡ Some next = sym tx ∙ ap (λ (z : Doing O A B). ticket_of z.stage) (sym h.1) ∙ is in
        let n : t ≡ next = cc in let b = all.bounds j y t k.1 ty in absurd (omega (arith, n, b.1)))
        (at_set places id j new y isy))
        (λ (h : (i ≢ id) × (get_elem? places i ≡ some x)).
        ⊎_elim
        (λ (k : (j ≡ id) × (new ≡ y)).
        let e : Some t ≡ Some next = sym ty ∙ ap (λ (z : Doing O A B). ticket_of z.stage) (sym k.1) ∙ is in
        let n : t ≡ next = cc in let b = all.bounds i x t h.1 tx in absurd (omega (arith, n, b.1)))
        (λ (k : (j ≢ id) × (get_elem? places j ≡ some y)). all.apart i j x y t h.1 k.1 tx ty)
        (at_set places id j new y isy))
        (at_set places id i new x isx);
  }

  pub tickets_ended : (served next : ℕ) (places : List (Doing O A B)) (id : ℕ) (d new : Doing O A B) → get_elem? places id ≡ some d → ticket_of d.stage ≡ Some served → ticket_of new.stage ≡ None
      → AreTickets served next places → AreTickets (served + 1) next (set places id new)
  tickets_ended served next places id d new at was is all = record {
    counted = let c = counted_set places id d new (Some served) None at was is in omega (arith, all.counted, c);
    bounds = λ i x t isx tk.
        ⊎_elim
        (λ (h : (i ≡ id) × (new ≡ x)). let e : Some t ≡ None = sym tk ∙ ap (λ (z : Doing O A B). ticket_of z.stage) (sym h.1) ∙ is in absurd (none_not_some t e))
        (λ (h : (i ≢ id) × (get_elem? places i ≡ some x)).
        let b = all.bounds i x t h.1 tk in
        let ne : t ≢ served = λ q. h.0 (all.apart i id x d served h.1 at (tk ∙ ap Some q) was) in (omega (arith, b.0, ne), b.1))
        (at_set places id i new x isx);
    apart = λ i j x y t isx isy tx ty.
        ⊎_elim
        (λ (h : (i ≡ id) × (new ≡ x)). let e : Some t ≡ None = sym tx ∙ ap (λ (z : Doing O A B). ticket_of z.stage) (sym h.1) ∙ is in absurd (none_not_some t e))
        (λ (h : (i ≢ id) × (get_elem? places i ≡ some x)).
        ⊎_elim
        (λ (k : (j ≡ id) × (new ≡ y)). let e : Some t ≡ None = sym ty ∙ ap (λ (z : Doing O A B). ticket_of z.stage) (sym k.1) ∙ is in absurd (none_not_some t e))
        (λ (k : (j ≢ id) × (get_elem? places j ≡ some y)). all.apart i j x y t h.1 k.1 tx ty)
        (at_set places id j new y isy))
        (at_set places id i new x isx);
  }
    where
      none_not_some : (t : ℕ) → Some t ≡ None → ⊥
      none_not_some t e = cc

  -- a place without a ticket is added
  pub tickets_more : (served next : ℕ) (places : List (Doing O A B)) (new : Doing O A B) → ticket_of new.stage ≡ None → AreTickets served next places → AreTickets served next (places ++ new ∷ [])
  tickets_more served next places new is all = record {
    counted = let c = count_by-snoc has_ticket places new in let z : bit (has_ticket new) ≡ 0 = ap (λ (x : Option ℕ). bit (is_some x)) is in omega (arith, all.counted, c, z);
    bounds = λ i x t isx tk. all.bounds i x t (old i x t isx tk) tk;
    apart = λ i j x y t isx isy tx ty. all.apart i j x y t (old i x t isx tx) (old j y t isy ty) tx ty;
  }
    where
      old : (i : ℕ) (x : Doing O A B) (t : ℕ) → get_elem? (places ++ new ∷ []) i ≡ some x → ticket_of x.stage ≡ Some t → get_elem? places i ≡ some x
      old i x t isx tk =
          ⊎_elim
          (λ (h : get_elem? places i ≡ some x). h)
          (λ (h : new ≡ x). let e : Some t ≡ None = sym tk ∙ ap (λ (z : Doing O A B). ticket_of z.stage) (sym h) ∙ is in absurd (cc))
          (at_snoc places new x i isx)
