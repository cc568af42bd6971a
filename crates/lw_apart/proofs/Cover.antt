-- When answers to words fix a machine, over functions in place of lists. Sources: Dorofeeva, El-Fakih and Koufareva (2005), by
-- apartness as in Vaandrager (2024); Vasilevskii (1973) and Chow (1978); Fujiwara and others (1991).
use Rattle.std.proofs.Common.{◌≡◌, ◌≢◌, ℕ, ◌+◌, ◌<◌, ◌≤◌, List, [], ◌++◌, length, All, Contains, take}
use Rattle.std.specs.List.{AllByRecursion}
use Rattle.lw_mealy.specs.Machine.{Rows, IsMachine, after, out}
use Rattle.lw_chunks.proofs.NumberLemmas.{Over}

-- the two states answer alike on each of the words
abbrev pub Alike : Rows → ℕ → ℕ → List (List ℕ) → Type 0
Alike h p q ws = AllByRecursion (λ w. out h p w ≡ out h q w) ws

-- m and h answer alike on the word
abbrev pub Same : Rows → Rows → List ℕ → Type 0
Same m h w = out m 0 w ≡ out h 0 w

-- told words show that these two lead to different states of h
abbrev pub Apart : Rows → (List ℕ → Type 0) → List ℕ → List ℕ → Type 0
Apart h Told u v = (w : List ℕ) × Told (u ++ w) × Told (v ++ w) × (out h (after h 0 u) w ≢ out h (after h 0 v) w)

-- access leads to each state of h
pub record IsAccess (a : ℕ) (h : Rows) (access : ℕ → List ℕ) : Type 0 where
  pub root : access 0 ≡ []
  pub over : (q : ℕ) → q < length h → Over a (access q)
  pub leads : (q : ℕ) → q < length h → after h 0 (access q) ≡ q

-- the H-method's condition. An access word with at most k + 1 letters behind it is told, and it is apart from the access word
-- of each state that it doesn't lead to. And where two beginnings of k + 1 letters behind an access word lead to different
-- states, they are apart.
pub record IsToldApart (a : ℕ) (h : Rows) (access : ℕ → List ℕ) (k : ℕ) (Told : List ℕ → Type 0) : Type 0 where
  pub bare : (q : ℕ) → q < length h → (mid : List ℕ) → Over a mid → length mid ≤ k + 1 → Told (access q ++ mid)
  pub homes : (s q : ℕ) → s < length h → q < length h → (mid : List ℕ) → Over a mid → length mid ≤ k + 1
      → after h 0 (access q ++ mid) ≢ s → Apart h Told (access s) (access q ++ mid)
  pub ways : (q : ℕ) → q < length h → (mid : List ℕ) → Over a mid → length mid ≡ k + 1 → (i j : ℕ) → 0 < i → i < j → j ≤ k + 1
      → after h 0 (access q ++ take i mid) ≢ after h 0 (access q ++ take j mid) → Apart h Told (access q ++ take i mid) (access q ++ take j mid)

-- the W-method's words are told: an access word, at most k + 1 letters, and nothing or one of ws, which tell all states apart
pub record IsToldByW (a : ℕ) (h : Rows) (access : ℕ → List ℕ) (ws : List (List ℕ)) (k : ℕ) (Told : List ℕ → Type 0) : Type 0 where
  pub tells : (p q : ℕ) → p < length h → q < length h → Alike h p q ws → p ≡ q
  pub bare : (q : ℕ) → q < length h → (mid : List ℕ) → Over a mid → length mid ≤ k + 1 → Told (access q ++ mid)
  pub tested : (q : ℕ) → q < length h → (mid : List ℕ) → Over a mid → length mid ≤ k + 1 → All (λ w. Told ((access q ++ mid) ++ w)) ws

-- the Wp-method's words are told: behind k + 1 letters, in place of ws, only those of ws that are the reached state's own, which
-- tell it from every other
pub record IsToldByWp (a : ℕ) (h : Rows) (access : ℕ → List ℕ) (ws : List (List ℕ)) (own : ℕ → List (List ℕ)) (k : ℕ) (Told : List ℕ → Type 0) : Type 0 where
  pub tells : (p q : ℕ) → p < length h → q < length h → Alike h p q ws → p ≡ q
  pub own_tells : (p q : ℕ) → p < length h → q < length h → Alike h p q (own p) → p ≡ q
  pub own_within : (q : ℕ) → q < length h → All (Contains ws) (own q)
  pub bare : (q : ℕ) → q < length h → (mid : List ℕ) → Over a mid → length mid ≤ k + 1 → Told (access q ++ mid)
  pub tested : (q : ℕ) → q < length h → (mid : List ℕ) → Over a mid → length mid ≤ k → All (λ w. Told ((access q ++ mid) ++ w)) ws
  pub own_tested : (q : ℕ) → q < length h → (mid : List ℕ) → Over a mid → length mid ≡ k + 1 → All (λ w. Told ((access q ++ mid) ++ w)) (own (after h 0 (access q ++ mid)))

-- the words of both methods tell all that is asked for
abbrev pub WpTells : Type 1
WpTells = (a : ℕ) (h : Rows) (access : ℕ → List ℕ) (ws : List (List ℕ)) (own : ℕ → List (List ℕ)) (k : ℕ) (Told : List ℕ → Type 0)
    → IsMachine a h → IsAccess a h access → IsToldByWp a h access ws own k Told → IsToldApart a h access k Told

abbrev pub WTells : Type 1
WTells = (a : ℕ) (h : Rows) (access : ℕ → List ℕ) (ws : List (List ℕ)) (k : ℕ) (Told : List ℕ → Type 0)
    → IsMachine a h → IsAccess a h access → IsToldByW a h access ws k Told → IsToldApart a h access k Told
