-- A machine that gives the answers is covered by them, or a word is missing.
use Rattle.std.proofs.Common.{◌≡◌, ◌≢◌, ◌⊎◌, ℕ, ◌+◌, ◌<◌, inl, inr, ⊎_elim, List, [], ◌++◌, length, get_or, refl, sym, arith}
use Rattle.std.specs.List.{All, Contains}
use Rattle.std.proofs.lemmas.Bool.{cases_order}
use Rattle.std.proofs.lemmas.List.Elements.{All-get_or, All-from_get_or, All-contains, Contains-get_or}
use Rattle.lw_words.specs.Word.{Answer, IsWord}
use Rattle.lw_words.specs.First.{FailsFirst}
use Rattle.lw_mealy.specs.Machine.{Rows, IsMachine, IsMinimal, Gives, Differ, after, out}
use Rattle.lw_mealy.proofs.WordLemmas.{after_below}
use Rattle.lw_separate.specs.Canonical.{AreLeastAccess, IsLeastSeparating}
use Rattle.lw_separate.proofs.CrowdLemmas.{same_or_not}
use Rattle.lw_separate.proofs.Decided.{Decided, decides_below, decides_both, decides_not, all_or_first}
use Rattle.lw_separate.proofs.ExistenceWords.{least_word}
use Rattle.lw_cache.specs.Known.{IsKnown}
use Rattle.lw_apart.specs.Covers.{Covers}
use Rattle.lw_apart.proofs.Decides.{decides_known}
use Rattle.lw_apart.specs.Pairs.{WordPair, fronts, pairs, IsKnownApart}
use Rattle.lw_apart.specs.Missing.{IsFirstOpen, IsWanted, IsLeastUnknown, IsWantedFirst, IsMissing}
use Rattle.lw_apart.proofs.ApartLemmas.{decides_known_apart, open_differs}
use Rattle.lw_apart.proofs.PairLemmas.{AreWords, fronts_words, pairs_words}
use Rattle.lw_apart.proofs.VerdictLemmas.{covered, is_open}

decides_contains : (xs : List (List ℕ)) (w : List ℕ) → Decided (Contains xs w)
decides_contains xs w = decides_below (λ i. get_or xs i w ≡ w) (length xs) (λ i lt. same_or_not (get_or xs i w) w)

-- the least of the words that isn't known, where one isn't
least_unknown : (a : ℕ) (ks : List Answer) (words : List (List ℕ)) → All (IsWord a) words → (i : ℕ) → FailsFirst (IsKnown ks) words i → (w : List ℕ) × IsLeastUnknown ks words w
least_unknown a ks words letters i f =
    let first : List ℕ = get_or words i [] in
    let l = least_word a (λ w. Contains words w × ¬ IsKnown ks w) (λ w. decides_both (decides_contains words w) (decides_not (decides_known ks w)))
    first (All-get_or (IsWord a) words i [] f.within letters) (Contains-get_or words i [] f.within, f.fails []) in
    (l.0, record { does = l.1.does.1; least = λ v d. l.1.least v (All-contains (IsWord a) words v letters d.0, d) })

-- two states of a minimal machine differ
pub states_differ : (a : ℕ) (h : Rows) → IsMinimal a h → (p q : ℕ) → p < length h → q < length h → p ≢ q → Differ a h p q
states_differ a h minimal p q lp lq other =
    ⊎_elim (λ (e : p ≡ q). absurd (other e))
    (λ (r : (p < q) ⊎ (q < p)). ⊎_elim (λ (lt : p < q). minimal.apart p q lt lq) (λ (gt : q < p). let d = minimal.apart q p gt lp in (d.0, d.1, λ e. d.2 (sym e))) r)
    (cases_order p q)

module _ (a : ℕ) (h : Rows) (machine : IsMachine a h) (minimal : IsMinimal a h) where
  separated : (p q : ℕ) → p < length h → q < length h → p ≢ q → (w : List ℕ) × IsLeastSeparating a h p q w
  separated p q lp lq other =
      let d = states_differ a h minimal p q lp lq other in
      least_word a (λ w. out h p w ≢ out h q w) (λ w. decides_not (same_or_not (out h p w) (out h q w))) d.0 d.1 d.2

  module _ (ks : List Answer) where
    wanted : (pair : WordPair) → AreWords a pair → ¬ IsKnownApart h ks pair → (word : List ℕ) × IsWanted a h ks pair word
    wanted pair letters not_so =
        let p : ℕ = after h 0 pair.0 in
        let q : ℕ = after h 0 pair.1 in
        let s = separated p q (after_below a h pair.0 0 machine machine.some_state letters.0) (after_below a h pair.1 0 machine machine.some_state letters.1) (open_differs h ks pair not_so).0 in
        ⊎_elim
        (λ (known : IsKnown ks (pair.0 ++ s.0)). (pair.1 ++ s.0, record { suffix = s.0; least = s.1; first = inr (refl, known) }))
        (λ (unknown : ¬ IsKnown ks (pair.0 ++ s.0)). (pair.0 ++ s.0, record { suffix = s.0; least = s.1; first = inl (refl, unknown) }))
        (decides_known ks (pair.0 ++ s.0))

    module _ (k : ℕ) (access : List (List ℕ)) (least : AreLeastAccess a h access) where
      at_word : (q : ℕ) → q < length access → IsWord a (get_or access q [])
      at_word q lq = (least.words q (omega (arith, lq, least.each))).does.0

      access_are_words : All (IsWord a) access
      access_are_words = All-from_get_or (IsWord a) access [] at_word

      wanted_first : All (IsKnown ks) (fronts a access (k + 1)) → (i : ℕ) → FailsFirst (IsKnownApart h ks) (pairs a access (k + 1)) i
          → (word : List ℕ) × IsWantedFirst a h ks (fronts a access (k + 1)) (pairs a access (k + 1)) word
      wanted_first known i f =
          let list : List WordPair = pairs a access (k + 1) in
          let pair : WordPair = get_or list i ([], []) in
          let here : IsFirstOpen h ks list pair = record { number = i; first = f; here = refl } in
          let w = wanted pair (All-get_or (AreWords a) list i ([], []) f.within (pairs_words a access (k + 1) access_are_words)) (is_open h ks list pair here) in
          (w.0, record { known = known; pair = pair; open_pair = here; wanted = w.1 })

      pub covers_or_missing : Gives h ks → Covers a h ks k ⊎ ((word : List ℕ) × IsMissing a h ks k word)
      covers_or_missing gives =
          ⊎_elim
          (λ (known : All (IsKnown ks) (fronts a access (k + 1))).
          ⊎_elim
          (λ (apart : All (IsKnownApart h ks) (pairs a access (k + 1))). inl (covered a h ks k access least minimal gives known apart))
          (λ (f : (i : ℕ) × FailsFirst (IsKnownApart h ks) (pairs a access (k + 1)) i).
          let w = wanted_first known f.0 f.1 in
          inr (w.0, record { access = access; least = least; missing = inr w.1 }))
          (all_or_first (IsKnownApart h ks) (pairs a access (k + 1)) ([], []) (decides_known_apart h ks)))
          (λ (f : (i : ℕ) × FailsFirst (IsKnown ks) (fronts a access (k + 1)) i).
          let w = least_unknown a ks (fronts a access (k + 1)) (fronts_words a access (k + 1) access_are_words) f.0 f.1 in
          inr (w.0, record { access = access; least = least; missing = inl w.1 }))
          (all_or_first (IsKnown ks) (fronts a access (k + 1)) [] (decides_known ks))
