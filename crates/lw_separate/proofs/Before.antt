-- What the search for access words needs of shortlex order: how it goes with a letter more.
use Rattle.std.proofs.Common.{◌≡◌, ◌≢◌, ℕ, suc, ◌<◌, ◌⊎◌, inl, inr, ⊎_elim, List, [], ◌∷◌, ◌++◌, length, refl, ap, sym, ◌∙◌, arith, subst, length-append}
use Rattle.std.specs.Ordering.{nat_cmp, ordering_then, ordering_reverse}
use Rattle.std.specs.Cmp.{nat_cmp_is}
use Rattle.std.specs.Cmp.Lexicographic.{slice_cmp}
use Rattle.std.specs.declared.cmp.Ordering.{Ordering}
use Rattle.std.specs.declared.cmp.Ordering.TheVariants.{Less, Equal, Greater}
use Rattle.std.proofs.lemmas.Cmp.{ranked, by_ranked, tied_itself}
use Rattle.lw_words.specs.Word.{shortlex_cmp}
use Rattle.lw_words.proofs.Orders.{is_order}
use Rattle.lw_separate.specs.bodies.Search.{Before, AtMost}

-- lists of one length by cases: at the first difference the first has the smaller letter
abbrev pub Lex : List ℕ → List ℕ → Type 0
Lex [] v = ⊥
Lex (x ∷ u) [] = ⊥
Lex (x ∷ u) (y ∷ v) = (x < y) ⊎ ((x ≡ y) × Lex u v)

-- shortlex order by cases: the first word is shorter, or as long and smaller at the first difference
abbrev pub ByCases : List ℕ → List ℕ → Type 0
ByCases u v = (length u < length v) ⊎ ((length u ≡ length v) × Lex u v)

lex_push : (u v : List ℕ) (x y : ℕ) → Lex u v → Lex (u ++ x ∷ []) (v ++ y ∷ [])
lex_push [] v x y h = absurd h
lex_push (a ∷ u) [] x y h = absurd h
lex_push (a ∷ u) (b ∷ v) x y h = ⊎_elim (λ (lt : a < b). inl lt) (λ (r : (a ≡ b) × Lex u v). inr (r.0, lex_push u v x y r.1)) h

lex_last : (u : List ℕ) (x y : ℕ) → x < y → Lex (u ++ x ∷ []) (u ++ y ∷ [])
lex_last [] x y lt = inl lt
lex_last (a ∷ u) x y lt = inr (refl, lex_last u x y lt)

lex_next : (u v w : List ℕ) (x y : ℕ) → Lex u v → length w ≡ suc (length u) → Lex w (u ++ x ∷ []) → Lex w (v ++ y ∷ [])
lex_next [] v w x y h e k = absurd h
lex_next (a ∷ u) [] w x y h e k = absurd h
lex_next (a ∷ u) (b ∷ v) [] x y h e k = k
lex_next (a ∷ u) (b ∷ v) (c ∷ w) x y h e k =
    ⊎_elim
    (λ (lt : a < b). ⊎_elim (λ (lt' : c < a). inl (omega arith)) (λ (s : (c ≡ a) × Lex w (u ++ x ∷ [])). inl (omega (arith, s.0))) k)
    (λ (r : (a ≡ b) × Lex u v). ⊎_elim (λ (lt' : c < a). inl (omega (arith, r.0))) (λ (s : (c ≡ a) × Lex w (u ++ x ∷ [])). inr (s.0 ∙ r.0, lex_next u v w x y r.1 (omega arith) s.1)) k)
    h

long : (u : List ℕ) (x : ℕ) → length (u ++ x ∷ []) ≡ suc (length u)
long u x = omega (arith, length-append u (x ∷ []))

-- the order of lists of one length
lex_cmp : (u v : List ℕ) → length u ≡ length v → Lex u v → slice_cmp nat_cmp u v ≡ Less
lex_cmp [] v e h = absurd h
lex_cmp (x ∷ u) [] e h = absurd h
lex_cmp (x ∷ u) (y ∷ v) e h =
    ⊎_elim
    (λ (lt : x < y). ap (λ (o : Ordering). ordering_then o (slice_cmp nat_cmp u v)) (sym (nat_cmp_is x y Less lt)))
    (λ (r : (x ≡ y) × Lex u v). ap (λ (o : Ordering). ordering_then o (slice_cmp nat_cmp u v)) (sym (nat_cmp_is x y Equal r.0)) ∙ lex_cmp u v (omega arith) r.1)
    h

lex_from_cmp : (u v : List ℕ) → length u ≡ length v → slice_cmp nat_cmp u v ≡ Less → Lex u v
lex_from_cmp [] [] e h = absurd (cc)
lex_from_cmp [] (y ∷ v) e h = absurd (omega arith)
lex_from_cmp (x ∷ u) [] e h = absurd (omega arith)
lex_from_cmp (x ∷ u) (y ∷ v) e h =
    by_ranked (x < y) (x ≡ y) (y < x) (nat_cmp x y) (ranked x y (nat_cmp x y) refl)
    (λ is lt. inl lt)
    (λ is same. inr (same, lex_from_cmp u v (omega arith) (sym (ap (λ (o : Ordering). ordering_then o (slice_cmp nat_cmp u v)) is) ∙ h)))
    (λ is gt. let no : Greater ≡ Less = sym (ap (λ (o : Ordering). ordering_then o (slice_cmp nat_cmp u v)) is) ∙ h in absurd (cc))

pub of_cases : (u v : List ℕ) → ByCases u v → Before u v
of_cases u v h =
    ⊎_elim
    (λ (lt : length u < length v). ap (λ (o : Ordering). ordering_then o (slice_cmp nat_cmp u v)) (sym (nat_cmp_is (length u) (length v) Less lt)))
    (λ (r : (length u ≡ length v) × Lex u v). ap (λ (o : Ordering). ordering_then o (slice_cmp nat_cmp u v)) (sym (nat_cmp_is (length u) (length v) Equal r.0)) ∙ lex_cmp u v r.0 r.1)
    h

pub to_cases : (u v : List ℕ) → Before u v → ByCases u v
to_cases u v h =
    by_ranked (length u < length v) (length u ≡ length v) (length v < length u) (nat_cmp (length u) (length v)) (ranked (length u) (length v) (nat_cmp (length u) (length v)) refl)
    (λ is lt. inl lt)
    (λ is same. inr (same, lex_from_cmp u v same (sym (ap (λ (o : Ordering). ordering_then o (slice_cmp nat_cmp u v)) is) ∙ h)))
    (λ is gt. let no : Greater ≡ Less = sym (ap (λ (o : Ordering). ordering_then o (slice_cmp nat_cmp u v)) is) ∙ h in absurd (cc))

pub before_trans : (u v w : List ℕ) → Before u v → Before v w → Before u w
before_trans u v w h k = is_order.0.trans u v w h k

pub before_apart : (u : List ℕ) → Before u u → ⊥
before_apart u h = let no : Equal ≡ Less = sym (tied_itself is_order.0 u) ∙ h in absurd (cc)

-- the same letter behind both, or any letters
before_push : (u v : List ℕ) (x y : ℕ) → Before u v → Before (u ++ x ∷ []) (v ++ y ∷ [])
before_push u v x y h =
    of_cases (u ++ x ∷ []) (v ++ y ∷ []) (⊎_elim
    (λ (lt : length u < length v). inl (omega (arith, long u x, long v y)))
    (λ (r : (length u ≡ length v) × Lex u v). inr (omega (arith, long u x, long v y, r.0), lex_push u v x y r.1))
    (to_cases u v h))

pub before_last : (u : List ℕ) (x y : ℕ) → x < y → Before (u ++ x ∷ []) (u ++ y ∷ [])
before_last u x y lt = of_cases (u ++ x ∷ []) (u ++ y ∷ []) (inr (omega (arith, long u x, long u y), lex_last u x y lt))

-- what comes before a word's candidate comes before each candidate of a later word
pub before_next : (u v w : List ℕ) (x y : ℕ) → Before u v → Before w (u ++ x ∷ []) → Before w (v ++ y ∷ [])
before_next u v w x y h k =
    of_cases w (v ++ y ∷ []) (⊎_elim
    (λ (lt : length w < length (u ++ x ∷ [])). ⊎_elim
    (λ (lt' : length u < length v). inl (omega (arith, long u x, long v y)))
    (λ (r : (length u ≡ length v) × Lex u v). inl (omega (arith, long u x, long v y, r.0))) (to_cases u v h))
    (λ (s : (length w ≡ length (u ++ x ∷ [])) × Lex w (u ++ x ∷ [])). ⊎_elim
    (λ (lt' : length u < length v). inl (omega (arith, long u x, long v y, s.0)))
    (λ (r : (length u ≡ length v) × Lex u v). inr (omega (arith, long u x, long v y, r.0, s.0), lex_next u v w x y r.1 (s.0 ∙ long u x) s.1)) (to_cases u v h))
    (to_cases w (u ++ x ∷ []) k))

pub at_most_trans : (u v w : List ℕ) → AtMost u v → AtMost v w → AtMost u w
at_most_trans u v w h k =
    ⊎_elim
    (λ (e : u ≡ v). subst (λ (t : List ℕ). AtMost t w) (sym e) k)
    (λ (b : Before u v). ⊎_elim (λ (e : v ≡ w). inr (subst (λ (t : List ℕ). Before u t) e b)) (λ (c : Before v w). inr (before_trans u v w b c)) k)
    h

pub at_most_push : (u v : List ℕ) (x : ℕ) → AtMost u v → AtMost (u ++ x ∷ []) (v ++ x ∷ [])
at_most_push u v x h = ⊎_elim (λ (e : u ≡ v). inl (ap (λ (t : List ℕ). t ++ x ∷ []) e)) (λ (b : Before u v). inr (before_push u v x x b)) h

pub at_most_cons : (x : ℕ) (u v : List ℕ) → length u ≡ length v → AtMost u v → AtMost (x ∷ u) (x ∷ v)
at_most_cons x u v long h =
    ⊎_elim
    (λ (e : u ≡ v). inl (ap (λ (t : List ℕ). x ∷ t) e))
    (λ (b : Before u v). inr (of_cases (x ∷ u) (x ∷ v) (⊎_elim
    (λ (lt : length u < length v). absurd (omega (arith, long, lt)))
    (λ (r : (length u ≡ length v) × Lex u v). inr (omega (arith, long), inr (refl, r.1)))
    (to_cases u v b))))
    h

-- a word that is at most another is not behind it
pub at_most_not_behind : (u v : List ℕ) → AtMost u v → shortlex_cmp v u ≢ Less
at_most_not_behind u v h less =
    ⊎_elim
    (λ (e : u ≡ v). before_apart u (subst (λ (t : List ℕ). Before t u) (sym e) less))
    (λ (b : Before u v). before_apart u (before_trans u v u b less))
    h

pub not_behind_at_most : (u v : List ℕ) → shortlex_cmp u v ≢ Less → AtMost v u
not_behind_at_most u v h =
    elim (shortlex_cmp u v) as (λ o. shortlex_cmp u v ≡ o → AtMost v u) [
      | Less ↦ λ is. absurd (h is)
      | Equal ↦ λ is. inl (sym (is_order.1 u v is))
      | Greater ↦ λ is. inr (is_order.0.antisymm v u ∙ ap ordering_reverse is)
    ] refl

-- of two words neither of which comes before the other
pub neither_before : (u v : List ℕ) → shortlex_cmp u v ≢ Less → shortlex_cmp v u ≢ Less → u ≡ v
neither_before u v h k =
    ⊎_elim (λ (e : v ≡ u). sym e) (λ (b : Before v u). absurd (k b)) (not_behind_at_most u v h)
