-- When answers cover a machine. Source: Dorofeeva, El-Fakih and Koufareva (2005); by apartness, as in Vaandrager (2024).
use Rattle.std.specs.Prelude.{◌≡◌, ◌≢◌, ℕ, ◌+◌, ◌<◌, ◌≤◌, List, [], ◌++◌, length, take, slice_index_or}
use Rattle.lw_words.specs.Word.{Answer, IsWord}
use Rattle.lw_mealy.specs.Machine.{Rows, IsMachine, after, out, IsMinimal, Gives, Sure}
use Rattle.lw_separate.specs.Canonical.{AreLeastAccess}
use Rattle.lw_cache.specs.Known.{IsKnown}

-- both words are known with a suffix behind them, on which the machine's outputs differ between the states that they lead to
pub record KnownApart (h : Rows) (ks : List Answer) (u v : List ℕ) : Type 0 where
  pub suffix : List ℕ
  pub one : IsKnown ks (u ++ suffix)
  pub other : IsKnown ks (v ++ suffix)
  pub differ : out h (after h 0 u) suffix ≢ out h (after h 0 v) suffix

-- where two words lead to different states, they are known apart
abbrev pub ApartWhereDifferent : Rows → List Answer → List ℕ → List ℕ → Type 0
ApartWhereDifferent h ks u v = after h 0 u ≢ after h 0 v → KnownApart h ks u v

-- the answers cover a machine for k extra states: it is minimal and agrees with them; each least access word with at
-- most k + 1 letters behind it is known, and known apart from each access word; and so are any two prefixes of k + 1
-- letters behind one
pub record Covers (a : ℕ) (h : Rows) (ks : List Answer) (k : ℕ) : Type 0 where
  pub minimal : IsMinimal a h
  pub gives : Gives h ks
  pub access : List (List ℕ)
  pub least : AreLeastAccess a h access
  pub known : (q : ℕ) (w : List ℕ) → q < length h → IsWord a w → length w ≤ k + 1 → IsKnown ks (slice_index_or access q [] ++ w)
  pub apart : (p q : ℕ) (w : List ℕ) → p < length h → q < length h → IsWord a w → length w ≤ k + 1
      → ApartWhereDifferent h ks (slice_index_or access p []) (slice_index_or access q [] ++ w)
  pub along : (q : ℕ) (w : List ℕ) (i j : ℕ) → q < length h → IsWord a w → length w ≡ k + 1 → 0 < i → i < j → j ≤ k + 1
      → ApartWhereDifferent h ks (slice_index_or access q [] ++ take i w) (slice_index_or access q [] ++ take j w)

-- answers that cover a machine fix it, whichever way they came
abbrev pub CoversIsSure : Type 0
CoversIsSure = (a : ℕ) (h : Rows) (ks : List Answer) (k : ℕ) → IsMachine a h → Covers a h ks k → Sure a h ks k
