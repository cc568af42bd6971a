-- What the classes by the words of so many letters say, and how the next ones follow from them.
use Rattle.std.proofs.Common.{◌≡◌, ◌≢◌, ℕ, suc, ◌+◌, ◌-◌, ◌*◌, ◌<◌, ◌≤◌, ◌⊎◌, ⊎_elim, true, false, not, List, [], ◌∷◌, ◌++◌, length, map, get_or, replicate, refl, ap, sym, ◌∙◌, arith, subst}
use Rattle.std.proofs.lemmas.List.{get_or_past, get_or-replicate, length-replicate, length-map, map-append}
use Rattle.std.proofs.lemmas.Bool.{cases_lt, cases_order}
use Rattle.std.proofs.lemmas.List.Elements.{All-cons, All-tail, All-head, All-nil}
use Rattle.lw_words.specs.Word.{IsWord}
use Rattle.lw_mealy.specs.Machine.{Rows, IsMachine, next, output, out, Differ}
use Rattle.lw_mealy.proofs.RowLemmas.{target_below}
use Rattle.lw_separate.specs.bodies.Levels.{AgreeUpTo, DifferWithin, AreClassesOf, MeetsAt, PartsAt, NoLetter, GoApart, AreRefined, AreLevels}
use Rattle.lw_separate.specs.bodies.Renaming.{NamesStates}
use Rattle.std.specs.Str.{bytes_eq}
use Rattle.std.proofs.lemmas.Slice.Eq.{bytes_eq-Decides}
use Rattle.lw_separate.proofs.AccessLemmas.{pushed}
use Rattle.lw_separate.proofs.CrowdLemmas.{same_or_not}

-- the lists differ where their heads or their tails do
pub heads : (x y : ℕ) (u v : List ℕ) → x ≢ y → x ∷ u ≢ y ∷ v
heads x y u v differ e = differ (cc)

pub tails : (x y : ℕ) (u v : List ℕ) → x ≡ y → x ∷ u ≢ y ∷ v → u ≢ v
tails x y u v same differ e = differ (cc)

pub tails_back : (x y : ℕ) (u v : List ℕ) → u ≢ v → x ∷ u ≢ y ∷ v
tails_back x y u v differ e = differ (cc)

pub both : (x y : ℕ) (u v : List ℕ) → x ≡ y → u ≡ v → x ∷ u ≡ y ∷ v
both x y u v e f = cc

pub one_letter : (a x : ℕ) → x < a → IsWord a (x ∷ [])
one_letter a x xa = All-cons (λ y. y < a) x [] xa (All-nil (λ y. y < a))

module _ (a : ℕ) (m : Rows) where
  pub within_more : (l k p q : ℕ) → l ≤ k → DifferWithin a m l p q → DifferWithin a m k p q
  within_more l k p q le d = (d.0, d.1, omega (arith, d.2), d.3)

  pub differ_of : (l p q : ℕ) → DifferWithin a m l p q → Differ a m p q
  differ_of l p q d = (d.0, d.1, d.3)

  module _ (l : ℕ) (cs : List ℕ) (c : AreClassesOf a m l cs) where
    pub one_class_agrees : (p q : ℕ) → p < length m → q < length m → get_or cs p 0 ≡ get_or cs q 0 → AgreeUpTo a m l p q
    one_class_agrees p q lp lq same w letters le =
        sym (c.agrees p lp w letters le) ∙ (ap (λ (r : ℕ). out m r w) same ∙ c.agrees q lq w letters le)

    lower_class_differs : (p q : ℕ) → p < length m → q < length m → get_or cs p 0 < get_or cs q 0 → DifferWithin a m l p q
    lower_class_differs p q lp lq lt =
        let d : DifferWithin a m l (get_or cs p 0) q = c.least (get_or cs p 0) q lq lt in
        (d.0, d.1, d.2, λ same. d.3 (c.agrees p lp d.0 d.1 d.2 ∙ same))

    pub two_classes_differ : (p q : ℕ) → p < length m → q < length m → get_or cs p 0 ≢ get_or cs q 0 → DifferWithin a m l p q
    two_classes_differ p q lp lq other =
        ⊎_elim
        (λ (s : get_or cs p 0 ≡ get_or cs q 0). absurd (other s))
        (λ (o : (get_or cs p 0 < get_or cs q 0) ⊎ (get_or cs q 0 < get_or cs p 0)).
        ⊎_elim
        (λ (lt : get_or cs p 0 < get_or cs q 0). lower_class_differs p q lp lq lt)
        (λ (lt : get_or cs q 0 < get_or cs p 0). let d = lower_class_differs q p lq lp lt in (d.0, d.1, d.2, λ same. d.3 (sym same)))
        o)
        (cases_order (get_or cs p 0) (get_or cs q 0))

    module _ (machine : IsMachine a m) where
      pub no_letter_agrees : (p q : ℕ) → p < length m → q < length m → NoLetter a m cs p q → AgreeUpTo a m (l + 1) p q
      no_letter_agrees p q lp lq none [] letters le = refl
      no_letter_agrees p q lp lq none (x ∷ v) letters le =
          let xa : x < a = All-head (λ y. y < a) x v letters in
          let h : MeetsAt m cs p q x = none x xa in
          both (output m p x) (output m q x) (out m (next m p x) v) (out m (next m q x) v) h.0
          (one_class_agrees (next m p x) (next m q x) (target_below a m p x machine lp xa) (target_below a m q x machine lq xa) h.1 v (All-tail (λ y. y < a) x v letters) (omega (arith, le)))

      letter_differs : (p q x : ℕ) → p < length m → q < length m → x < a → PartsAt m cs p q x → DifferWithin a m (l + 1) p q
      letter_differs p q x lp lq xa h =
          ⊎_elim
          (λ (o : output m p x ≢ output m q x). (x ∷ [], one_letter a x xa, omega arith, heads (output m p x) (output m q x) [] [] o))
          (λ (o : get_or cs (next m p x) 0 ≢ get_or cs (next m q x) 0).
          let d = two_classes_differ (next m p x) (next m q x) (target_below a m p x machine lp xa) (target_below a m q x machine lq xa) o in
          (x ∷ d.0, All-cons (λ y. y < a) x d.0 xa d.1, omega (arith, d.2), tails_back (output m p x) (output m q x) (out m (next m p x) d.0) (out m (next m q x) d.0) d.3))
          h

      apart_differ : (p q : ℕ) → p < length m → q < length m → GoApart a m cs p q → DifferWithin a m (l + 1) p q
      apart_differ p q lp lq h =
          ⊎_elim
          (λ (o : get_or cs p 0 ≢ get_or cs q 0). within_more l (l + 1) p q (omega arith) (two_classes_differ p q lp lq o))
          (λ (o : (x : ℕ) × (x < a) × PartsAt m cs p q x). letter_differs p q o.0 lp lq o.1 o.2)
          h

      module _ (ns : List ℕ) (r : AreRefined a m cs ns) where
        refined_least : (p q : ℕ) → q < length m → p < get_or ns q 0 → DifferWithin a m (l + 1) p q
        refined_least p q lq lt =
            let e = r.each q (omega (arith, r.long)) in
            ⊎_elim
            (λ (b : p < get_or cs q 0). within_more l (l + 1) p q (omega arith) (c.least p q lq b))
            (λ (b : get_or cs q 0 ≤ p). apart_differ p q (omega (arith, e.within)) lq (e.least p b lt))
            (cases_lt p (get_or cs q 0))

        pub refined_classes : AreClassesOf a m (l + 1) ns
        refined_classes = record {
          named = record { long = r.long; low = λ q lq. (r.each q (omega (arith, r.long))).within };
          agrees = λ q lq. let e = r.each q (omega (arith, r.long)) in no_letter_agrees (get_or ns q 0) q (omega (arith, e.within)) lq e.together.1;
          least = refined_least;
        }

        -- no class is above the finer one
        pub refined_rises : (q : ℕ) → get_or cs q 0 ≤ get_or ns q 0
        refined_rises q =
            ⊎_elim
            (λ (lt : get_or ns q 0 < get_or cs q 0).
            ⊎_elim
            (λ (lq : q < length m).
            let e = r.each q (omega (arith, r.long)) in
            let d = c.least (get_or ns q 0) q lq lt in
            absurd (d.3 (one_class_agrees (get_or ns q 0) q (omega (arith, e.within)) lq e.together.0 d.0 d.1 d.2)))
            (λ (past : length m ≤ q). omega (arith, get_or_past cs q 0 (omega (arith, c.named.long)), lt))
            (cases_lt q (length m)))
            (λ (le : get_or cs q 0 ≤ get_or ns q 0). le)
            (cases_lt (get_or ns q 0) (get_or cs q 0))

      -- classes that one letter more doesn't split are those by all words
      module _ (r : AreRefined a m cs cs) where
        stays : (w : List ℕ) (p q : ℕ) → p < length m → q < length m → IsWord a w → get_or cs p 0 ≡ get_or cs q 0 → out m p w ≡ out m q w
        stays [] p q lp lq letters same = refl
        stays (x ∷ v) p q lp lq letters same =
            let xa : x < a = All-head (λ y. y < a) x v letters in
            let e : MeetsAt m cs (get_or cs p 0) p x = (r.each p (omega (arith, r.long))).together.1 x xa in
            let f : MeetsAt m cs (get_or cs q 0) q x = (r.each q (omega (arith, r.long))).together.1 x xa in
            let g : MeetsAt m cs (get_or cs p 0) q x = subst (λ (t : ℕ). MeetsAt m cs t q x) (sym same) f in
            both (output m p x) (output m q x) (out m (next m p x) v) (out m (next m q x) v) (sym e.0 ∙ g.0)
            (stays v (next m p x) (next m q x) (target_below a m p x machine lp xa) (target_below a m q x machine lq xa) (All-tail (λ y. y < a) x v letters) (sym e.1 ∙ g.1))

        pub settled : NamesStates a m cs
        settled = record {
          long = c.named.long;
          each = λ q lt.
              let lq : q < length m = omega (arith, c.named.long) in
              let low : get_or cs q 0 ≤ q = c.named.low q lq in
              record {
                state = omega (arith, low);
                agrees = λ w letters. stays w (get_or cs q 0) q (omega (arith, low)) lq letters (r.each q lt).together.0;
                least = λ p lp. differ_of l p q (c.least p q lq lp);
              };
        }

-- all states are of one class by the word of no letter
pub one_class : (a : ℕ) (m : Rows) → AreClassesOf a m 0 (replicate (length m) 0)
one_class a m = record {
  named = record { long = length-replicate {A = ℕ} (length m) 0; low = λ q lq. omega (arith, get_or-replicate {A = ℕ} (length m) q 0 0 lq) };
  agrees = λ q lq w letters le. nothing (get_or (replicate (length m) 0) q 0) q w (omega (arith, le));
  least = λ p q lq lt. absurd (omega (arith, lt, get_or-replicate {A = ℕ} (length m) q 0 0 lq));
}
  where
    nothing : (r s : ℕ) (u : List ℕ) → length u ≡ 0 → out m r u ≡ out m s u
    nothing r s [] h = refl
    nothing r s (y ∷ u) h = absurd (omega (arith, h))

-- the sum of a list
abbrev pub total : List ℕ → ℕ
total [] = 0
total (x ∷ xs) = x + total xs

pub total_below : (xs : List ℕ) (n : ℕ) → ((q : ℕ) → q < length xs → get_or xs q 0 ≤ n) → total xs ≤ length xs * n
total_below [] n each = omega arith
total_below (x ∷ xs) n each = omega (arith, each 0 (omega arith), total_below xs n (λ q lt. each (suc q) (omega (arith, lt))))

pub total_rises : (xs ys : List ℕ) → length xs ≡ length ys → ((q : ℕ) → get_or xs q 0 ≤ get_or ys q 0) → total xs ≤ total ys
total_rises [] ys long each = omega arith
total_rises (x ∷ xs) [] long each = absurd (omega (arith, long))
total_rises (x ∷ xs) (y ∷ ys) long each = omega (arith, each 0, total_rises xs ys (omega (arith, long)) (λ q. each (suc q)))

pub total_less : (xs ys : List ℕ) → length xs ≡ length ys → ((q : ℕ) → get_or xs q 0 ≤ get_or ys q 0) → xs ≢ ys → total xs < total ys
total_less [] [] long each other = absurd (other refl)
total_less [] (y ∷ ys) long each other = absurd (omega (arith, long))
total_less (x ∷ xs) [] long each other = absurd (omega (arith, long))
total_less (x ∷ xs) (y ∷ ys) long each other =
    let e : x ≤ y = each 0 in
    ⊎_elim
    (λ (s : x ≡ y). let t : total xs < total ys = total_less xs ys (omega (arith, long)) (λ q. each (suc q)) (λ same. other (both x y xs ys s same)) in omega (arith, t, s))
    (λ (o : (x < y) ⊎ (y < x)). let t : total xs ≤ total ys = total_rises xs ys (omega (arith, long)) (λ q. each (suc q)) in ⊎_elim (λ (lt : x < y). omega (arith, t, lt)) (λ (lt : y < x). absurd (omega (arith, e))) o)
    (cases_order x y)

-- the classes of a level, as the vectors hold them
module _ {X : Type 0} (f : X → List ℕ) (a : ℕ) (m : Rows) (below : List X) (names : List ℕ) (v : AreLevels a m (map f below) names) where
  pub level_at : (l : ℕ) (cs : List ℕ) → l < length below → cs ≡ get_or (map f below) l [] → AreClassesOf a m l cs
  level_at l cs lt is = subst (λ (ks : List ℕ). AreClassesOf a m l ks) (sym is) (v.each l (omega (arith, length-map below f, lt)))

  pub last_level : (l : ℕ) → l ≡ length below → AreClassesOf a m l names
  last_level l is = subst (λ (k : ℕ). AreClassesOf a m k names) (length-map below f ∙ sym is) v.last

-- a level more, or the last
module _ {X : Type 0} (f : X → List ℕ) (a : ℕ) (m : Rows) (machine : IsMachine a m) (below : List X) where
  abbrev pub Filled : List X → Type 0
  Filled xs = (l : ℕ) → l < length (map f xs) → AreClassesOf a m l (get_or (map f xs) l [])

  pub level_more : (x : X) → Filled below → AreClassesOf a m (length below) (f x) → Filled (below ++ x ∷ [])
  level_more x all here =
      let end : AreClassesOf a m (length (map f below)) (f x) = subst (λ (k : ℕ). AreClassesOf a m k (f x)) (sym (length-map below f)) here in
      subst (λ (l : List (List ℕ)). (k : ℕ) → k < length l → AreClassesOf a m k (get_or l k [])) (sym (map-append f below (x ∷ []))) (pushed (λ k c. AreClassesOf a m k c) (map f below) (f x) [] all end)

  pub all_levels : (names : List ℕ) → Filled below → AreClassesOf a m (length below) names → AreRefined a m names names → AreLevels a m (map f below) names
  all_levels names all c r = record {
    machine = machine;
    each = all;
    last = subst (λ (k : ℕ). AreClassesOf a m k names) (sym (length-map below f)) c;
    whole = settled a m (length below) names c machine r;
  }

-- the classes rise, and not above the states
pub total_left : (a : ℕ) (m : Rows) (l : ℕ) (cs ns : List ℕ) → IsMachine a m → AreClassesOf a m l cs → AreRefined a m cs ns → cs ≢ ns
    → length m * length m - total ns < length m * length m - total cs
total_left a m l cs ns machine c r other =
    let n = refined_classes a m l cs c machine ns r in
    let low : total ns ≤ length ns * length m = total_below ns (length m) (λ q lt. let lq : q < length m = omega (arith, r.long) in omega (arith, n.named.low q lq)) in
    let e : length ns * length m ≡ length m * length m = rw r.long refl in
    let more : total cs < total ns = total_less cs ns (omega (arith, c.named.long, r.long)) (refined_rises a m l cs c machine ns r) other in
    omega (arith, low, e, more)

-- what a test of two lists says
pub told_apart : (u v : List ℕ) → true ≡ not (bytes_eq u v) → u ≢ v
told_apart u v h same = let e : bytes_eq u v ≡ true = (bytes_eq-Decides u v).1 same in let no : true ≡ false = h ∙ ap not e in absurd (cc)

pub told_equal : (u v : List ℕ) → false ≡ not (bytes_eq u v) → u ≡ v
told_equal u v h =
    ⊎_elim (λ (e : u ≡ v). e) (λ (e : u ≢ v). absurd (elim (bytes_eq u v) as (λ b. bytes_eq u v ≡ b → ⊥) [
      | true ↦ λ is. e ((bytes_eq-Decides u v).0 is)
      | false ↦ λ is. let no : false ≡ true = h ∙ ap not is in cc
    ] refl)) (same_or_not u v)
