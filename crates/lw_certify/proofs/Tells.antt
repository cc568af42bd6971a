-- The words of the W-method and of the Wp-method tell all that is needed.
use Rattle.std.proofs.Common.{◌≡◌, ◌≢◌, ℕ, suc, ◌+◌, ◌<◌, ◌≤◌, ⊎_elim, true, false, List, [], ◌∷◌, ◌++◌, length, Contains, take, refl, sym, ap, ◌∙◌, subst, arith, append-nil}
use Rattle.std.specs.Str.{bytes_eq}
use Rattle.std.proofs.lemmas.Bool.{cases_lt}
use Rattle.std.proofs.lemmas.Bool.Decides.{not_from_Decides}
use Rattle.std.proofs.lemmas.List.{length-take-le}
use Rattle.std.proofs.lemmas.List.Elements.{All-contains, All-contains_itself}
use Rattle.std.proofs.lemmas.Slice.Eq.{bytes_eq-Decides}
use Rattle.lw_mealy.specs.Machine.{Rows, IsMachine, after, out}
use Rattle.lw_apart.proofs.Cover.{Alike, Apart, IsAccess, IsToldByWp, WTells, WpTells}
use Rattle.lw_chunks.proofs.NumberLemmas.{Over}
use Rattle.lw_apart.proofs.Runs.{after_below, over_append, over_take}

-- one of the words on which two states don't answer alike
abbrev Teller : Rows → ℕ → ℕ → List (List ℕ) → Type 0
Teller h p q ws = (w : List ℕ) × Contains ws w × (out h p w ≢ out h q w)

teller : (h : Rows) (p q : ℕ) (ws : List (List ℕ)) → (Alike h p q ws → ⊥) → Teller h p q ws
teller h p q [] n = absurd (n tt)
teller h p q (w ∷ ws) n =
    elim (bytes_eq (out h p w) (out h q w)) as (λ b. bytes_eq (out h p w) (out h q w) ≡ b → Teller h p q (w ∷ ws)) [
      | true ↦ λ e.
          let r : Teller h p q ws = teller h p q ws (λ rest. n ((bytes_eq-Decides (out h p w) (out h q w)).0 e, rest)) in
          (r.0, (suc r.1.0, omega (arith, r.1.1), r.1.2), r.2)
      | false ↦ λ e. (w, (0, omega arith, refl), not_from_Decides (bytes_eq (out h p w) (out h q w)) (bytes_eq-Decides (out h p w) (out h q w)) e)
    ] refl

module _ (a : ℕ) (h : Rows) (access : ℕ → List ℕ) (ws : List (List ℕ)) (own : ℕ → List (List ℕ)) (k : ℕ) (Told : List ℕ → Type 0) (hm : IsMachine a h) (leads : IsAccess a h access) (told : IsToldByWp a h access ws own k Told) where
  below : (q : ℕ) (mid : List ℕ) → q < length h → Over a mid → after h 0 (access q ++ mid) < length h
  below q mid lq o = after_below a h 0 (access q ++ mid) hm hm.some_state (over_append a (access q) mid (leads.over q lq) o)

  -- a word with at most k letters behind an access word, behind which all of ws are told, against one with at most k + 1
  apart : (s q : ℕ) (near mid : List ℕ) → s < length h → q < length h → Over a near → Over a mid → length near ≤ k → length mid ≤ k + 1
      → after h 0 (access s ++ near) ≢ after h 0 (access q ++ mid) → Apart h Told (access s ++ near) (access q ++ mid)
  apart s q near mid ls lq on o few le n =
      let u : List ℕ = access s ++ near in
      let v : List ℕ = access q ++ mid in
      ⊎_elim
      (λ (less : length mid < k + 1).
      let r : Teller h (after h 0 u) (after h 0 v) ws = teller h (after h 0 u) (after h 0 v) ws (λ e. n (told.tells (after h 0 u) (after h 0 v) (below s near ls on) (below q mid lq o) e)) in (
        r.0,
        All-contains (λ w. Told (u ++ w)) ws r.0 (told.tested s ls near on few) r.1,
        All-contains (λ w. Told (v ++ w)) ws r.0 (told.tested q lq mid o (omega (arith, less))) r.1,
        r.2,
      ))
      (λ (full : k + 1 ≤ length mid).
      let its : List (List ℕ) = own (after h 0 v) in
      let r : Teller h (after h 0 v) (after h 0 u) its = teller h (after h 0 v) (after h 0 u) its (λ e. n (sym (told.own_tells (after h 0 v) (after h 0 u) (below q mid lq o) (below s near ls on) e))) in
      let one : Contains ws r.0 = All-contains (Contains ws) its r.0 (told.own_within (after h 0 v) (below q mid lq o)) r.1 in (
        r.0,
        All-contains (λ w. Told (u ++ w)) ws r.0 (told.tested s ls near on few) one,
        All-contains (λ w. Told (v ++ w)) its r.0 (told.own_tested q lq mid o (omega (arith, le, full))) r.1,
        λ e. r.2 (sym e),
      ))
      (cases_lt (length mid) (k + 1))

  homes : (s q : ℕ) → s < length h → q < length h → (mid : List ℕ) → Over a mid → length mid ≤ k + 1
      → after h 0 (access q ++ mid) ≢ s → Apart h Told (access s) (access q ++ mid)
  homes s q ls lq mid o le n =
      subst (λ (u : List ℕ). Apart h Told u (access q ++ mid)) (append-nil (access s))
      (apart s q [] mid ls lq tt o (omega arith) le (λ e. n (sym e ∙ (ap (λ (u : List ℕ). after h 0 u) (append-nil (access s)) ∙ leads.leads s ls))))

  ways : (q : ℕ) → q < length h → (mid : List ℕ) → Over a mid → length mid ≡ k + 1 → (i j : ℕ) → 0 < i → i < j → j ≤ k + 1
      → after h 0 (access q ++ take i mid) ≢ after h 0 (access q ++ take j mid) → Apart h Told (access q ++ take i mid) (access q ++ take j mid)
  ways q lq mid o len i j some lo hi n =
      apart q q (take i mid) (take j mid) lq lq (over_take a i mid o) (over_take a j mid o)
      (omega (arith, length-take-le i mid (omega (arith, len, lo, hi)), lo, hi))
      (omega (arith, length-take-le j mid (omega (arith, len, hi)), hi))
      n

pub wp_tells : WpTells
wp_tells a h access ws own k Told hm leads told = record {
  bare = told.bare;
  homes = homes a h access ws own k Told hm leads told;
  ways = ways a h access ws own k Told hm leads told;
}

pub w_tells : WTells
w_tells a h access ws k Told hm leads told =
    wp_tells a h access ws (λ _. ws) k Told hm leads (record {
      tells = told.tells;
      own_tells = told.tells;
      own_within = λ q lq. All-contains_itself ws;
      bare = told.bare;
      tested = λ q lq mid o le. told.tested q lq mid o (omega (arith, le));
      own_tested = λ q lq mid o len. told.tested q lq mid o (omega (arith, len));
    })
