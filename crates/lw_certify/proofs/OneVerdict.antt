-- A machine and answers have one verdict: two of one kind are equal, and of two kinds the later contradicts the earlier.
use Rattle.std.proofs.Common.{◌≡◌, ℕ, ◌<◌, ◌⊎◌, ⊎_elim, List, [], get_or, take, slice_index, inl, inr, refl, sym, ap, ap₂, ◌∙◌, subst, arith}
use Rattle.std.specs.List.{All}
use Rattle.std.proofs.lemmas.Bool.{cases_order}
use Rattle.std.proofs.lemmas.List.{get_or-take}
use Rattle.std.proofs.lemmas.List.Elements.{All-get_or}
use Rattle.lw_words.specs.Word.{Answer, answer_at}
use Rattle.lw_words.specs.First.{FailsFirst}
use Rattle.lw_mealy.specs.Machine.{Rows, answer, IsMinimal, Gives}
use Rattle.lw_mealy.specs.Difference.{DifferFirst}
use Rattle.lw_separate.specs.FirstAlike.{AreFirstAlike}
use Rattle.lw_separate.specs.Separators.{Earlier}
use Rattle.lw_suite.proofs.SuiteLemmas.{one_suite}
use Rattle.lw_wp.proofs.WpSuiteLemmas.{one_wp_suite}
use Rattle.lw_apart.proofs.OneMissing.{one_missing as one_by_apartness}
use Rattle.lw_apart.proofs.VerdictLemmas.{missing_uncovered}
use Rattle.lw_cache.specs.Known.{IsKnown}
use Rattle.lw_chunks.specs.declared.method.Method.{Method}
use Rattle.lw_chunks.specs.declared.method.Method.TheVariants.{W, Wp, H}
use Rattle.lw_certify.specs.Verdict.{OneVerdict, IsFirstUnreached, AllReached, DiffersAt, IsFirstMissing, SuiteIsKnown, IsMissingBy, AreEnoughBy, IsSuiteBy}
use Rattle.lw_certify.specs.declared.verdict.Verdict.TheVariants.{Unreached, Alike, Differs, TooLarge, Missing, Sure}

-- two first places at which something fails are one
first_one : {X : Type 0} (P : X → Type 0) (xs : List X) (d : X) (i j : ℕ) → FailsFirst P xs i → FailsFirst P xs j → i ≡ j
first_one P xs d i j f g =
    ⊎_elim (λ (e : i ≡ j). e)
    (λ (r : (i < j) ⊎ (j < i)). ⊎_elim
    (λ (lt : i < j). absurd (f.fails d (g.before i d (omega arith) lt)))
    (λ (gt : j < i). absurd (g.fails d (f.before j d (omega arith) gt))) r)
    (cases_order i j)

first_not_all : {X : Type 0} (P : X → Type 0) (xs : List X) (d : X) (i : ℕ) → FailsFirst P xs i → All P xs → ⊥
first_not_all P xs d i f all = f.fails d (All-get_or P xs i d f.within all)

-- what stands below a place to which two lists are equal
below : (u v : List ℕ) (i j : ℕ) → i < j → take j u ≡ take j v → slice_index u i ≡ slice_index v i
below u v i j lt e = sym (get_or-take j u i 0 lt) ∙ (ap (λ (l : List ℕ). get_or l i 0) e ∙ get_or-take j v i 0 lt)

module _ (a : ℕ) (h : Rows) where
  one_unreached : (p q : ℕ) → IsFirstUnreached a h p → IsFirstUnreached a h q → p ≡ q
  one_unreached p q f g =
      ⊎_elim (λ (e : p ≡ q). e)
      (λ (r : (p < q) ⊎ (q < p)). ⊎_elim (λ (lt : p < q). absurd (f.unreached (g.before p lt))) (λ (gt : q < p). absurd (g.unreached (f.before q gt))) r)
      (cases_order p q)

  not_reached : (q : ℕ) → IsFirstUnreached a h q → AllReached a h → ⊥
  not_reached q f all = f.unreached (all q f.state)

  not_minimal : (q : ℕ) → IsFirstUnreached a h q → IsMinimal a h → ⊥
  not_minimal q f m = not_reached q f m.reached

  alike_not_minimal : (p q : ℕ) → AreFirstAlike a h (p, q) → IsMinimal a h → ⊥
  alike_not_minimal p q f m = f.alike (m.apart p q f.rising f.state)

  one_alike : (p q r s : ℕ) → AreFirstAlike a h (p, q) → AreFirstAlike a h (r, s) → (p ≡ r) × (q ≡ s)
  one_alike p q r s f g =
      let not_f : ¬ Earlier (r, s) (p, q) = λ e. g.alike (f.first r s g.rising g.state e) in
      let not_g : ¬ Earlier (p, q) (r, s) = λ e. f.alike (g.first p q f.rising f.state e) in
      let first : p ≡ r = ⊎_elim (λ (e : p ≡ r). e) (λ (o : (p < r) ⊎ (r < p)). ⊎_elim (λ (lt : p < r). absurd (not_g (inl lt))) (λ (gt : r < p). absurd (not_f (inl gt))) o) (cases_order p r) in
      let second : q ≡ s = ⊎_elim (λ (e : q ≡ s). e) (λ (o : (q < s) ⊎ (s < q)). ⊎_elim (λ (lt : q < s). absurd (not_g (inr (first, lt)))) (λ (gt : s < q). absurd (not_f (inr (sym first, gt)))) o) (cases_order q s) in
      (first, second)

  one_place : (u v : List ℕ) (i j : ℕ) → DifferFirst u v i → DifferFirst u v j → i ≡ j
  one_place u v i j f g =
      ⊎_elim (λ (e : i ≡ j). e)
      (λ (r : (i < j) ⊎ (j < i)). ⊎_elim (λ (lt : i < j). absurd (f.here (below u v i j lt g.before))) (λ (gt : j < i). absurd (g.here (below u v j i gt f.before))) r)
      (cases_order i j)

  one_difference : (ks : List Answer) (i p j q : ℕ) → DiffersAt h ks i p → DiffersAt h ks j q → (i ≡ j) × (p ≡ q)
  one_difference ks i p j q f g =
      let e : i ≡ j = first_one (λ k. answer h k.word ≡ k.outs) ks (record { word = []; outs = [] }) i j f.first g.first in
      let f' : DifferFirst (answer h (answer_at ks j).word) (answer_at ks j).outs p = subst (λ (n : ℕ). DifferFirst (answer h (answer_at ks n).word) (answer_at ks n).outs p) e f.here in
      (e, one_place (answer h (answer_at ks j).word) (answer_at ks j).outs p q f' g.here)

  differs_not_given : (ks : List Answer) (i p : ℕ) → DiffersAt h ks i p → Gives h ks → ⊥
  differs_not_given ks i p f given = first_not_all (λ k. answer h k.word ≡ k.outs) ks (record { word = []; outs = [] }) i f.first given

-- of a method whose suite is one
module _ (method : Method) (a : ℕ) (h : Rows) (ks : List Answer) (k : ℕ) (one : (s t : List (List ℕ)) → IsSuiteBy method a h k s → IsSuiteBy method a h k t → s ≡ t) where
  one_missing : (u v : List ℕ) → IsFirstMissing method a h ks k u → IsFirstMissing method a h ks k v → u ≡ v
  one_missing u v f g =
      let s : f.suite ≡ g.suite = one f.suite g.suite f.whole g.whole in
      let f' : FailsFirst (IsKnown ks) g.suite f.number = subst (λ (xs : List (List ℕ)). FailsFirst (IsKnown ks) xs f.number) s f.first in
      let e : f.number ≡ g.number = first_one (IsKnown ks) g.suite [] f.number g.number f' g.first in
      f.here ∙ (ap₂ (λ (xs : List (List ℕ)) (n : ℕ). get_or xs n []) s e ∙ sym g.here)

  missing_not_known : (u : List ℕ) → IsFirstMissing method a h ks k u → SuiteIsKnown method a h ks k → ⊥
  missing_not_known u f g =
      let s : f.suite ≡ g.suite = one f.suite g.suite f.whole g.whole in
      first_not_all (IsKnown ks) g.suite [] f.number (subst (λ (xs : List (List ℕ)). FailsFirst (IsKnown ks) xs f.number) s f.first) g.known

one_missing_by : (method : Method) (a : ℕ) (h : Rows) (ks : List Answer) (k : ℕ) (u v : List ℕ) → IsMissingBy method a h ks k u → IsMissingBy method a h ks k v → u ≡ v
one_missing_by W a h ks k u v f g = one_missing W a h ks k (one_suite a h k) u v f g
one_missing_by Wp a h ks k u v f g = one_missing Wp a h ks k (one_wp_suite a h k) u v f g
one_missing_by H a h ks k u v f g = one_by_apartness a h ks k u v f g

missing_not_enough : (method : Method) (a : ℕ) (h : Rows) (ks : List Answer) (k : ℕ) (u : List ℕ) → IsMissingBy method a h ks k u → AreEnoughBy method a h ks k → ⊥
missing_not_enough W a h ks k u f g = missing_not_known W a h ks k (one_suite a h k) u f g
missing_not_enough Wp a h ks k u f g = missing_not_known Wp a h ks k (one_wp_suite a h k) u f g
missing_not_enough H a h ks k u f g = missing_uncovered a h ks k u f g

pub one_verdict : OneVerdict
one_verdict method a h ks k (Unreached p) (Unreached q) f g = ap (λ (n : ℕ). Unreached n) (one_unreached a h p q f g)
one_verdict method a h ks k (Unreached p) (Alike r s) f g = absurd (not_reached a h p f g.0)
one_verdict method a h ks k (Unreached p) (Differs i q) f g = absurd (not_minimal a h p f g.0)
one_verdict method a h ks k (Unreached p) (TooLarge n) f g = absurd (not_minimal a h p f g.0)
one_verdict method a h ks k (Unreached p) (Missing w) f g = absurd (not_minimal a h p f g.0)
one_verdict method a h ks k (Unreached p) Sure f g = absurd (not_minimal a h p f g.0)
one_verdict method a h ks k (Alike p q) (Unreached r) f g = absurd (not_reached a h r g f.0)
one_verdict method a h ks k (Alike p q) (Alike r s) f g = let e = one_alike a h p q r s f.1 g.1 in ap₂ (λ (m n : ℕ). Alike m n) e.0 e.1
one_verdict method a h ks k (Alike p q) (Differs i r) f g = absurd (alike_not_minimal a h p q f.1 g.0)
one_verdict method a h ks k (Alike p q) (TooLarge n) f g = absurd (alike_not_minimal a h p q f.1 g.0)
one_verdict method a h ks k (Alike p q) (Missing w) f g = absurd (alike_not_minimal a h p q f.1 g.0)
one_verdict method a h ks k (Alike p q) Sure f g = absurd (alike_not_minimal a h p q f.1 g.0)
one_verdict method a h ks k (Differs i p) (Unreached q) f g = absurd (not_minimal a h q g f.0)
one_verdict method a h ks k (Differs i p) (Alike r s) f g = absurd (alike_not_minimal a h r s g.1 f.0)
one_verdict method a h ks k (Differs i p) (Differs j q) f g = let e = one_difference a h ks i p j q f.1 g.1 in ap₂ (λ (m n : ℕ). Differs m n) e.0 e.1
one_verdict method a h ks k (Differs i p) (TooLarge n) f g = absurd (differs_not_given a h ks i p f.1 g.1)
one_verdict method a h ks k (Differs i p) (Missing w) f g = absurd (differs_not_given a h ks i p f.1 g.1)
one_verdict method a h ks k (Differs i p) Sure f g = absurd (differs_not_given a h ks i p f.1 g.1)
one_verdict method a h ks k (TooLarge m) (Unreached q) f g = absurd (not_minimal a h q g f.0)
one_verdict method a h ks k (TooLarge m) (Alike r s) f g = absurd (alike_not_minimal a h r s g.1 f.0)
one_verdict method a h ks k (TooLarge m) (Differs j q) f g = absurd (differs_not_given a h ks j q g.1 f.1)
one_verdict method a h ks k (TooLarge m) (TooLarge n) f g = ap (λ (s : ℕ). TooLarge s) (f.3 ∙ sym g.3)
one_verdict method a h ks k (TooLarge m) (Missing w) f g = let big = f.2 in let is = f.3 in let small = g.2 in absurd (omega arith)
one_verdict method a h ks k (TooLarge m) Sure f g = let big = f.2 in let is = f.3 in let small = g.2 in absurd (omega arith)
one_verdict method a h ks k (Missing u) (Unreached q) f g = absurd (not_minimal a h q g f.0)
one_verdict method a h ks k (Missing u) (Alike r s) f g = absurd (alike_not_minimal a h r s g.1 f.0)
one_verdict method a h ks k (Missing u) (Differs j q) f g = absurd (differs_not_given a h ks j q g.1 f.1)
one_verdict method a h ks k (Missing u) (TooLarge n) f g = let big = g.2 in let is = g.3 in let small = f.2 in absurd (omega arith)
one_verdict method a h ks k (Missing u) (Missing v) f g = ap (λ (w : List ℕ). Missing w) (one_missing_by method a h ks k u v f.3 g.3)
one_verdict method a h ks k (Missing u) Sure f g = absurd (missing_not_enough method a h ks k u f.3 g.3)
one_verdict method a h ks k Sure (Unreached q) f g = absurd (not_minimal a h q g f.0)
one_verdict method a h ks k Sure (Alike r s) f g = absurd (alike_not_minimal a h r s g.1 f.0)
one_verdict method a h ks k Sure (Differs j q) f g = absurd (differs_not_given a h ks j q g.1 f.1)
one_verdict method a h ks k Sure (TooLarge n) f g = let big = g.2 in let is = g.3 in let small = f.2 in absurd (omega arith)
one_verdict method a h ks k Sure (Missing v) f g = absurd (missing_not_enough method a h ks k v g.3 f.3)
one_verdict method a h ks k Sure Sure f g = refl
