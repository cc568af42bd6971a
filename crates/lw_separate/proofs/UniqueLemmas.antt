-- Two canonical machines that are equal on all words are one machine.
use Rattle.std.proofs.Common.{◌≡◌, ℕ, zero, suc, ◌<◌, ◌≤◌, ◌⊎◌, ⊎_elim, List, [], ◌∷◌, ◌++◌, length, get_or, refl, ap, sym, ◌∙◌, arith, subst}
use Rattle.std.proofs.lemmas.List.{append_cancel_left, ext_get_or}
use Rattle.std.proofs.lemmas.List.Elements.{All-append, All-cons, All-nil}
use Rattle.std.proofs.lemmas.Bool.{cases_order}
use Rattle.lw_words.specs.Word.{IsWord}
use Rattle.lw_mealy.specs.Machine.{Rows, IsMachine, after, out, next, output, cell, IsMinimal, Equal}
use Rattle.lw_mealy.proofs.RowLemmas.{target_below, is_row}
use Rattle.lw_mealy.proofs.WordLemmas.{after-append, after_below, out-append}
use Rattle.lw_separate.specs.bodies.Search.{Before}
use Rattle.lw_separate.specs.Canonical.{IsCanonical, OneCanonical}
use Rattle.lw_separate.proofs.Before.{before_apart, before_trans, neither_before}

cancel : (s r t u : List ℕ) → s ≡ r → s ++ t ≡ r ++ u → t ≡ u
cancel s r t u is e = append_cancel_left s t u (e ∙ ap (λ (l : List ℕ). l ++ u) (sym is))

module _ (a : ℕ) (c d : Rows) (mc : IsMachine a c) (md : IsMachine a d) (same : Equal a c d) where
  ends_same : (u v : List ℕ) → IsWord a u → IsWord a v → out c (after c 0 u) v ≡ out d (after d 0 u) v
  ends_same u v iu iv =
      cancel (out c 0 u) (out d 0 u) (out c (after c 0 u) v) (out d (after d 0 u) v) (same u iu)
      (sym (out-append c 0 u v) ∙ (same (u ++ v) (All-append (λ y. y < a) u v iu iv) ∙ out-append d 0 u v))

  -- words that lead to one state of the first lead to one state of the second
  pub together : IsMinimal a d → (u v : List ℕ) → IsWord a u → IsWord a v → after c 0 u ≡ after c 0 v → after d 0 u ≡ after d 0 v
  together minimal u v iu iv e =
      ⊎_elim
      (λ (s : after d 0 u ≡ after d 0 v). s)
      (λ (o : (after d 0 u < after d 0 v) ⊎ (after d 0 v < after d 0 u)).
      ⊎_elim
      (λ (l : after d 0 u < after d 0 v).
      let w = minimal.apart (after d 0 u) (after d 0 v) l (after_below a d v 0 md md.some_state iv) in
      absurd (w.2 (sym (ends_same u w.0 iu w.1) ∙ (ap (λ (q : ℕ). out c q w.0) e ∙ ends_same v w.0 iv w.1))))
      (λ (l : after d 0 v < after d 0 u).
      let w = minimal.apart (after d 0 v) (after d 0 u) l (after_below a d u 0 md md.some_state iu) in
      absurd (w.2 (sym (ends_same v w.0 iv w.1) ∙ (ap (λ (q : ℕ). out c q w.0) (sym e) ∙ ends_same u w.0 iu w.1))))
      o)
      (cases_order (after d 0 u) (after d 0 v))

  -- the same outputs at a letter
  letter_same : (u : List ℕ) (x : ℕ) → IsWord a u → x < a → output c (after c 0 u) x ≡ output d (after d 0 u) x
  letter_same u x iu xa =
      let e : out c (after c 0 u) (x ∷ []) ≡ out d (after d 0 u) (x ∷ []) = ends_same u (x ∷ []) iu (All-cons (λ y. y < a) x [] xa (All-nil (λ y. y < a))) in
      ap (λ (l : List ℕ). get_or l 0 0) e

module _ (a : ℕ) (m c d : Rows) (k : IsCanonical a m c) (l : IsCanonical a m d) where
  same : Equal a c d
  same w letters = k.equal w letters ∙ sym (l.equal w letters)

  back : Equal a d c
  back w letters = sym (same w letters)

  abbrev u : ℕ → List ℕ
  u p = get_or k.words p []

  -- the state of d to which the least word to p leads
  abbrev to : ℕ → ℕ
  to p = after d 0 (u p)

  letters : (p : ℕ) → p < length c → IsWord a (u p)
  letters p lp = (k.least.words p lp).does.0

  to_below : (p : ℕ) → p < length c → to p < length d
  to_below p lp = after_below a d (u p) 0 l.machine l.machine.some_state (letters p lp)

  -- the least word to a state of c is the least word to the state of d
  pub word_same : (p : ℕ) → p < length c → u p ≡ get_or l.words (to p) []
  word_same p lp =
      let w = k.least.words p lp in
      let v = l.least.words (to p) (to_below p lp) in
      neither_before (u p) (get_or l.words (to p) [])
      (v.least (u p) (w.does.0, refl))
      (w.least (get_or l.words (to p) []) (v.does.0, together a d c l.machine k.machine back k.minimal (get_or l.words (to p) []) (u p) v.does.0 w.does.0 v.does.1 ∙ w.does.1))

  to_rises : (p q : ℕ) → p < q → q < length c → to p < to q
  to_rises p q pq lq =
      let lp : p < length c = omega arith in
      let b : Before (u p) (u q) = k.rising p q pq lq in
      ⊎_elim
      (λ (s : to p ≡ to q). let e : u p ≡ u q = word_same p lp ∙ (ap (λ (r : ℕ). get_or l.words r []) s ∙ sym (word_same q lq)) in absurd (before_apart (u q) (subst (λ (w : List ℕ). Before w (u q)) e b)))
      (λ (o : (to p < to q) ⊎ (to q < to p)).
      ⊎_elim
      (λ (lt : to p < to q). lt)
      (λ (lt : to q < to p).
      let r : Before (get_or l.words (to q) []) (get_or l.words (to p) []) = l.rising (to q) (to p) lt (to_below p lp) in
      let r' : Before (u q) (u p) = subst (λ (w : List ℕ). Before w (u p)) (sym (word_same q lq)) (subst (λ (w : List ℕ). Before (get_or l.words (to q) []) w) (sym (word_same p lp)) r) in
      absurd (before_apart (u p) (before_trans (u p) (u q) (u p) b r')))
      o)
      (cases_order (to p) (to q))

  pub to_at_least : (p : ℕ) → p < length c → p ≤ to p
  to_at_least zero lp = omega arith
  to_at_least (suc p) lp = omega (arith, to_at_least p (omega arith), to_rises p (suc p) (omega arith) lp)

  pub not_longer : length c ≤ length d
  not_longer = last (length c) refl
    where
      last : (n : ℕ) → n ≡ length c → length c ≤ length d
      last zero is = omega (arith, is)
      last (suc n) is = let lt : n < length c = omega (arith, is) in omega (arith, is, to_at_least n lt, to_below n lt)

-- the least word to a state of the one leads to the same number in the other
number_same : (a : ℕ) (m c d : Rows) (k : IsCanonical a m c) (l : IsCanonical a m d) (p : ℕ) → p < length c → after d 0 (get_or k.words p []) ≡ p
number_same a m c d k l p lp =
    let up : List ℕ = get_or k.words p [] in
    let q : after d 0 (get_or k.words p []) < length d = after_below a d (get_or k.words p []) 0 l.machine l.machine.some_state (k.least.words p lp).does.0 in
    let f : p ≤ after d 0 (get_or k.words p []) = to_at_least a m c d k l p lp in
    let g : after d 0 (get_or k.words p []) ≤ after c 0 (get_or l.words (after d 0 (get_or k.words p [])) []) = to_at_least a m d c l k (after d 0 (get_or k.words p [])) q in
    let e : after c 0 (get_or l.words (after d 0 (get_or k.words p [])) []) ≡ p = ap (after c 0) (sym (word_same a m c d k l p lp)) ∙ (k.least.words p lp).does.1 in
    omega (arith, f, g, e)

cell_same : (a : ℕ) (m c d : Rows) (k : IsCanonical a m c) (l : IsCanonical a m d) (p x : ℕ) → p < length c → x < a → cell c p x ≡ cell d p x
cell_same a m c d k l p x lp xa =
    let w = (k.least.words p lp).does in
    let u : List ℕ = get_or k.words p [] in
    let t : next c p x < length c = target_below a c p x k.machine lp xa in
    let v = (k.least.words (next c p x) t).does in
    let at_d : after d 0 (get_or k.words p []) ≡ p = number_same a m c d k l p lp in
    let ix : IsWord a (x ∷ []) = All-cons (λ y. y < a) x [] xa (All-nil (λ y. y < a)) in
    let iux : IsWord a (get_or k.words p [] ++ x ∷ []) = All-append (λ y. y < a) (get_or k.words p []) (x ∷ []) w.0 ix in
    let there : after c 0 (get_or k.words p [] ++ x ∷ []) ≡ after c 0 (get_or k.words (next c p x) []) = after-append c 0 (get_or k.words p []) (x ∷ []) ∙ (ap (λ (q : ℕ). next c q x) w.1 ∙ sym v.1) in
    let met : after d 0 (get_or k.words p [] ++ x ∷ []) ≡ after d 0 (get_or k.words (next c p x) []) = together a c d k.machine l.machine (same a m c d k l) l.minimal (get_or k.words p [] ++ x ∷ []) (get_or k.words (next c p x) []) iux v.0 there in
    let target : next c p x ≡ next d p x = sym (sym (after-append d 0 (get_or k.words p []) (x ∷ []) ∙ ap (λ (q : ℕ). next d q x) at_d) ∙ (met ∙ number_same a m c d k l (next c p x) t)) in
    let letter : output c p x ≡ output d p x = sym (ap (λ (q : ℕ). output c q x) w.1) ∙ (letter_same a c d k.machine l.machine (same a m c d k l) (get_or k.words p []) x w.0 xa ∙ ap (λ (q : ℕ). output d q x) at_d) in
    pairs (cell c p x) (cell d p x) target letter
  where
    pairs : (e f : ℕ × ℕ) → e.0 ≡ f.0 → e.1 ≡ f.1 → e ≡ f
    pairs (e, g) (f, h) s t = ap (λ (n : ℕ). (n, g)) s ∙ ap (λ (n : ℕ). (f, n)) t

pub one_canonical : OneCanonical
one_canonical a m c d k l =
    let long : length c ≡ length d = omega (arith, not_longer a m c d k l, not_longer a m d c l k) in
    ext_get_or [] c d long (λ p lp.
    let rc = is_row a c p k.machine lp in
    let rd = is_row a d p l.machine (omega (arith, long)) in
    ext_get_or (0, 0) (get_or c p []) (get_or d p []) (rc.0 ∙ sym rd.0) (λ x lx. cell_same a m c d k l p x lp (omega (arith, rc.0))))
