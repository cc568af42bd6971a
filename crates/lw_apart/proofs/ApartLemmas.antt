-- Two words that are known apart; of each pair of words it is told whether they are.
use Rattle.std.proofs.Common.{◌≡◌, ◌≢◌, ℕ, suc, ◌<◌, ⊎_elim, List, [], ◌++◌, length, take, drop, refl, sym, ap, ◌∙◌, subst, arith, append_assoc}
use Rattle.std.proofs.lemmas.Bool.{cases_eq}
use Rattle.std.proofs.lemmas.List.{length-append, take_at, drop_at, nil_from_length}
use Rattle.lw_words.specs.Word.{Answer, answer_at, IsPrefix}
use Rattle.lw_mealy.specs.Machine.{Rows, after, out}
use Rattle.lw_cache.specs.Clash.{IsClear}
use Rattle.lw_cache.specs.Known.{IsKnown}
use Rattle.lw_separate.proofs.CrowdLemmas.{same_or_not}
use Rattle.lw_separate.proofs.Decided.{Decided, decides_like, decides_not, decides_both, decides_implies, decides_below}
use Rattle.lw_apart.specs.Covers.{KnownApart}
use Rattle.lw_apart.proofs.Decides.{decides_known}
use Rattle.lw_apart.specs.Pairs.{WordPair, IsKnownApart}

-- a suffix on which the outputs of two states differ isn't empty, so a known word with it is a prefix of a clear answer's
pub told_behind : (h : Rows) (ks : List Answer) (p q : ℕ) (u w : List ℕ) → IsKnown ks (u ++ w) → out h p w ≢ out h q w
    → (i : ℕ) × IsClear ks i × IsPrefix (u ++ w) (answer_at ks i).word
told_behind h ks p q u w known differ =
    ⊎_elim
    (λ (e : u ++ w ≡ []).
    let none : w ≡ [] = nil_from_length w (omega (arith, ap (λ (l : List ℕ). length l) e, length-append u w)) in
    absurd (differ (subst (λ (v : List ℕ). out h p v ≡ out h q v) (sym none) refl)))
    (λ (r : (i : ℕ) × IsClear ks i × IsPrefix (u ++ w) (answer_at ks i).word). r)
    known

module _ (h : Rows) (ks : List Answer) (u v : List ℕ) where
  -- the suffix that stands behind the first word in an answer, with so many letters
  abbrev suffix_at : ℕ → ℕ → List ℕ
  suffix_at i n = take n (drop (length u) (answer_at ks i).word)

  abbrev IsApartBy : List ℕ → Type 0
  IsApartBy w = IsKnown ks (u ++ w) × IsKnown ks (v ++ w) × (out h (after h 0 u) w ≢ out h (after h 0 v) w)

  abbrev IsApartWithin : ℕ → Type 0
  IsApartWithin i = (n : ℕ) × (n < suc (length (answer_at ks i).word)) × IsApartBy (suffix_at i n)

  decides_by : (w : List ℕ) → Decided (IsApartBy w)
  decides_by w =
      decides_like
      (λ (b : IsKnown ks (u ++ w) × (IsKnown ks (v ++ w) × (out h (after h 0 u) w ≢ out h (after h 0 v) w))). (b.0, b.1.0, b.1.1))
      (λ (b : IsApartBy w). (b.0, (b.1, b.2)))
      (decides_both (decides_known ks (u ++ w))
      (decides_both (decides_known ks (v ++ w)) (decides_not (same_or_not (out h (after h 0 u) w) (out h (after h 0 v) w)))))

  decides_within : Decided ((i : ℕ) × (i < length ks) × IsApartWithin i)
  decides_within =
      decides_below IsApartWithin (length ks)
      (λ i lt. decides_below (λ n. IsApartBy (suffix_at i n)) (suc (length (answer_at ks i).word)) (λ n le. decides_by (suffix_at i n)))

  within_of : KnownApart h ks u v → (i : ℕ) × (i < length ks) × IsApartWithin i
  within_of r =
      let t = told_behind h ks (after h 0 u) (after h 0 v) u r.suffix r.one r.differ in
      let i : ℕ = t.0 in
      let word : List ℕ = (answer_at ks i).word in
      let e : word ≡ u ++ (r.suffix ++ t.2.0) = t.2.1 ∙ append_assoc u r.suffix t.2.0 in
      let behind : drop (length u) word ≡ r.suffix ++ t.2.0 = ap (drop (length u)) e ∙ drop_at u (r.suffix ++ t.2.0) (length u) refl in
      let is : suffix_at i (length r.suffix) ≡ r.suffix = ap (take (length r.suffix)) behind ∙ take_at r.suffix t.2.0 (length r.suffix) refl in
      let short : length r.suffix < suc (length word) = omega (arith, ap (λ (l : List ℕ). length l) e, length-append u (r.suffix ++ t.2.0), length-append r.suffix t.2.0) in
      (i, t.1.0, (length r.suffix, short, subst IsApartBy (sym is) (r.one, r.other, r.differ)))

  of_within : (i : ℕ) × (i < length ks) × IsApartWithin i → KnownApart h ks u v
  of_within t = record { suffix = suffix_at t.0 t.2.0; one = t.2.2.0; other = t.2.2.1; differ = t.2.2.2 }

  pub decides_apart : Decided (KnownApart h ks u v)
  decides_apart = decides_like of_within within_of decides_within

pub decides_known_apart : (h : Rows) (ks : List Answer) (pair : WordPair) → Decided (IsKnownApart h ks pair)
decides_known_apart h ks pair = decides_implies (decides_not (cases_eq (after h 0 pair.0) (after h 0 pair.1))) (decides_apart h ks pair.0 pair.1)

-- where it isn't so, the states differ, and the words aren't known apart
pub open_differs : (h : Rows) (ks : List Answer) (pair : WordPair) → ¬ IsKnownApart h ks pair → (after h 0 pair.0 ≢ after h 0 pair.1) × ¬ KnownApart h ks pair.0 pair.1
open_differs h ks pair not_so = (λ same. not_so (λ other. absurd (other same)), λ known. not_so (λ other. known))
