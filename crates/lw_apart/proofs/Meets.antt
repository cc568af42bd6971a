-- A machine that answers told words as the covered one does answers all words so: where it comes to a state again, a word with
-- fewer letters does.
use Rattle.std.proofs.Common.{◌≡◌, ◌≢◌, ℕ, zero, suc, ◌+◌, ◌-◌, ◌<◌, ◌≤◌, ⊎_elim, Bool, true, false, cond, eqb, ltb, List, [], ◌++◌, length, take, drop, refl, sym, ap, ap₂, ◌∙◌, subst, arith, append_assoc, append-nil}
use Rattle.std.specs.Cmp.{unsigned_Decides}
use Rattle.std.proofs.lemmas.Bool.{cases_lt}
use Rattle.std.proofs.lemmas.Bool.Decides.{Decides-ltb, not_from_Decides}
use Rattle.std.proofs.lemmas.List.{take-append-drop, take-take, length-take-le, length-drop, length-append}
use Rattle.lw_mealy.specs.Machine.{Rows, IsMachine, after, out}
use Rattle.lw_mealy.proofs.WordLemmas.{out-append}
use Rattle.lw_apart.proofs.Cover.{Same, Apart, IsAccess, IsToldApart}
use Rattle.lw_chunks.proofs.NumberLemmas.{Over}
use Rattle.lw_apart.proofs.Pigeon.{again_of}
use Rattle.lw_apart.proofs.Runs.{after_below, over_append, over_take, over_drop, tail_same}

-- numbers that aren't different are equal
pub not_different : (p q : ℕ) → (p ≢ q → ⊥) → p ≡ q
not_different p q n =
    elim (eqb p q) as (λ b. eqb p q ≡ b → p ≡ q) [
      | true ↦ λ e. (unsigned_Decides p q).0 e
      | false ↦ λ e. absurd (n (not_from_Decides (eqb p q) (unsigned_Decides p q) e))
    ] refl

-- what follows two words that lead m to one state and h to one state
pub goes_on : (m h : Rows) (u v w : List ℕ) → after m 0 u ≡ after m 0 v → after h 0 u ≡ after h 0 v → Same m h (u ++ w) → Same m h v → Same m h (v ++ w)
goes_on m h u v w em eh long short =
    let ends : out m (after m 0 v) w ≡ out h (after h 0 v) w =
    sym (ap (λ (q : ℕ). out m q w) em) ∙ (tail_same m h u w long ∙ ap (λ (q : ℕ). out h q w) eh) in
    out-append m 0 v w ∙ (ap₂ (λ (x y : List ℕ). x ++ y) short ends ∙ sym (out-append h 0 v w))

module _ (a : ℕ) (h m : Rows) (access : ℕ → List ℕ) (k : ℕ) (Told : List ℕ → Type 0) (hm : IsMachine a h) (mm : IsMachine a m) (size : length m ≤ length h + k) (leads : IsAccess a h access) (told : IsToldApart a h access k Told) (agrees : (w : List ℕ) → Told w → Same m h w) where
  -- words that are apart lead m to different states
  not_apart : (u v : List ℕ) → after m 0 u ≡ after m 0 v → Apart h Told u v → ⊥
  not_apart u v e (w, at_u, at_v, differ) =
      differ (sym (tail_same m h u w (agrees (u ++ w) at_u)) ∙ (ap (λ (q : ℕ). out m q w) e ∙ tail_same m h v w (agrees (v ++ w) at_v)))

  one_state : (u v : List ℕ) → after m 0 u ≡ after m 0 v → (after h 0 u ≢ after h 0 v → Apart h Told u v) → after h 0 u ≡ after h 0 v
  one_state u v e tells = not_different (after h 0 u) (after h 0 v) (λ n. not_apart u v e (tells n))

  -- an access word against one with letters behind it
  home_and_way : (s q : ℕ) (mid : List ℕ) → s < length h → q < length h → Over a mid → length mid ≤ k + 1
      → after m 0 (access s) ≡ after m 0 (access q ++ mid) → after h 0 (access s) ≡ after h 0 (access q ++ mid)
  home_and_way s q mid ls lq o le e =
      one_state (access s) (access q ++ mid) e (λ n. told.homes s q ls lq mid o le (λ is. n (leads.leads s ls ∙ sym is)))

  homes_apart : (p q : ℕ) → p < length h → q < length h → after m 0 (access p) ≡ after m 0 (access q) → p ≡ q
  homes_apart p q lp lq e =
      let f : after h 0 (access p) ≡ after h 0 (access q ++ []) = home_and_way p q [] lp lq tt (omega arith) (rw append-nil e) in
      sym (leads.leads p lp) ∙ ((rw append-nil at f) ∙ leads.leads q lq)

  module _ (t : ℕ) (mid : List ℕ) (lt : t < length h) (o : Over a mid) (len : length mid ≡ k + 1) where
    -- the word with the first e + 1 letters of the way
    abbrev way : ℕ → List ℕ
    way e = access t ++ take (suc e) mid

    -- the states of m after the access words, and then those along the way
    abbrev place : ℕ → ℕ
    place i = cond (ltb i (length h)) (after m 0 (access i)) (after m 0 (way (i - length h)))

    place_home : (i : ℕ) → i < length h → place i ≡ after m 0 (access i)
    place_home i li = ap (λ (b : Bool). cond b (after m 0 (access i)) (after m 0 (way (i - length h)))) ((Decides-ltb i (length h)).1 li)

    place_way : (i : ℕ) → length h ≤ i → place i ≡ after m 0 (way (i - length h))
    place_way i le =
        elim (ltb i (length h)) as (λ b. ltb i (length h) ≡ b → cond b (after m 0 (access i)) (after m 0 (way (i - length h))) ≡ after m 0 (way (i - length h))) [
          | true ↦ λ e. let li : i < length h = (Decides-ltb i (length h)).0 e in absurd (omega (arith, li, le))
          | false ↦ λ e. refl
        ] refl

    place_below : (i : ℕ) → place i < length m
    place_below i =
        ⊎_elim
        (λ (li : i < length h). subst (λ (v : ℕ). v < length m) (sym (place_home i li)) (after_below a m 0 (access i) mm mm.some_state (leads.over i li)))
        (λ (le : length h ≤ i). subst (λ (v : ℕ). v < length m) (sym (place_way i le)) (after_below a m 0 (way (i - length h)) mm mm.some_state (over_append a (access t) (take (suc (i - length h)) mid) (leads.over t lt) (over_take a (suc (i - length h)) mid o))))
        (cases_lt i (length h))

    -- a word on the way, and one with fewer letters behind an access word, that lead m to one state and h to one state
    pub record Meets : Type 0 where
      pub steps : ℕ
      pub state : ℕ
      pub letters : List ℕ
      pub on : steps ≤ k
      pub below : state < length h
      pub over : Over a letters
      pub fewer : length letters ≤ steps
      pub in_m : after m 0 (access state ++ letters) ≡ after m 0 (way steps)
      pub in_h : after h 0 (access state ++ letters) ≡ after h 0 (way steps)

    length_way : (e : ℕ) → e ≤ k → length (take (suc e) mid) ≡ suc e
    length_way e le = length-take-le (suc e) mid (omega (arith, len, le))

    at_home : (s e : ℕ) → s < length h → e ≤ k → after m 0 (access s) ≡ after m 0 (way e) → Meets
    at_home s e ls le is =
        let ih : after h 0 (access s) ≡ after h 0 (way e) = home_and_way s t (take (suc e) mid) ls lt (over_take a (suc e) mid o) (omega (arith, length_way e le, le)) is in
        record { steps = e; state = s; letters = []; on = le; below = ls; over = tt; fewer = omega arith; in_m = rw append-nil is; in_h = rw append-nil ih }

    on_way : (e f : ℕ) → e < f → f ≤ k → after m 0 (way e) ≡ after m 0 (way f) → Meets
    on_way e f lo hi is = record {
      steps = f;
      state = t;
      letters = take (suc e) mid;
      on = hi;
      below = lt;
      over = over_take a (suc e) mid o;
      fewer = omega (arith, length_way e (omega (arith, lo, hi)), lo);
      in_m = is;
      in_h = one_state (way e) (way f) is (told.ways t lt mid o len (suc e) (suc f) (omega arith) (omega (arith, lo)) (omega (arith, hi)));
    }

    meets : Meets
    meets =
        let r = again_of (length m) place (λ i _. place_below i) in
        let n = length h in
        ⊎_elim
        (λ (lj : r.1 < n).
        let li : r.0 < n = omega (arith, r.2, lj) in
        let e : r.0 ≡ r.1 = homes_apart r.0 r.1 li lj (sym (place_home r.0 li) ∙ (r.4 ∙ place_home r.1 lj)) in
        absurd (omega (arith, e, r.2)))
        (λ (gj : n ≤ r.1). ⊎_elim
        (λ (li : r.0 < n). at_home r.0 (r.1 - n) li (omega (arith, r.3, size, gj)) (sym (place_home r.0 li) ∙ (r.4 ∙ place_way r.1 gj)))
        (λ (gi : n ≤ r.0). on_way (r.0 - n) (r.1 - n) (omega (arith, gi, r.2)) (omega (arith, r.3, size, gj)) (sym (place_way r.0 gi) ∙ (r.4 ∙ place_way r.1 gj)))
        (cases_lt r.0 n))
        (cases_lt r.1 n)

  -- by fewer letters behind access words
  alike : (bound q : ℕ) (w : List ℕ) → q < length h → Over a w → length w ≤ bound → Same m h (access q ++ w)
  alike zero q w lq o le = agrees (access q ++ w) (told.bare q lq w o (omega (arith, le)))
  alike (suc bound) q w lq o le =
      ⊎_elim
      (λ (few : length w < k + 2). agrees (access q ++ w) (told.bare q lq w o (omega (arith, few))))
      (λ (more : k + 2 ≤ length w).
      let mid : List ℕ = take (k + 1) w in
      let s = meets q mid lq (over_take a (k + 1) w o) (length-take-le (k + 1) w (omega (arith, more))) in
      let short : List ℕ = take (suc s.steps) w in
      let rest : List ℕ = drop (suc s.steps) w in
      let same : take (suc s.steps) mid ≡ short = take-take (suc s.steps) (k + 1) w (omega (arith, s.on)) in
      let len : length short ≡ suc s.steps = length-take-le (suc s.steps) w (omega (arith, more, s.on)) in
      let smaller : Same m h (access s.state ++ (s.letters ++ rest)) =
      alike bound s.state (s.letters ++ rest) s.below (over_append a s.letters rest s.over (over_drop a (suc s.steps) w o))
      (omega (arith, length-append s.letters rest, length-drop (suc s.steps) w, s.fewer, s.on, more, le)) in
      let whole : Same m h ((access q ++ short) ++ rest) =
      goes_on m h (access s.state ++ s.letters) (access q ++ short) rest
      (s.in_m ∙ ap (λ (u : List ℕ). after m 0 (access q ++ u)) same)
      (s.in_h ∙ ap (λ (u : List ℕ). after h 0 (access q ++ u)) same)
      (rw append_assoc smaller)
      (agrees (access q ++ short) (told.bare q lq short (over_take a (suc s.steps) w o) (omega (arith, len, s.on)))) in
      subst (λ (u : List ℕ). Same m h (access q ++ u)) (take-append-drop (suc s.steps) w) (rw append_assoc at whole))
      (cases_lt (length w) (k + 2))

  pub all_alike : (w : List ℕ) → Over a w → Same m h w
  all_alike w o = subst (λ (u : List ℕ). Same m h (u ++ w)) leads.root (alike (length w) 0 w hm.some_state o (omega arith))
