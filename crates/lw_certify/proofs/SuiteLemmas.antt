-- The words of a machine's suite, and what they tell where all are known.
use Rattle.std.proofs.Common.{◌≡◌, ℕ, suc, ◌+◌, ◌-◌, ◌*◌, ◌^◌, ◌<◌, ◌≤◌, ◌⊎◌, ⊎_elim, inl, List, [], ◌∷◌, ◌++◌, length, get_or, refl, sym, ap, ◌∙◌, subst, arith, append-nil}
use Rattle.std.specs.List.{All}
use Rattle.std.proofs.lemmas.Bool.{cases_order}
use Rattle.std.proofs.lemmas.List.Elements.{All-get_or, All-nil, All-from_recursion, All-from_get_or}
use Rattle.std.proofs.Math.Nat.{mul-le-mul_right}
use Rattle.lw_words.specs.Word.{Answer}
use Rattle.lw_mealy.specs.Machine.{Rows, out}
use Rattle.lw_separate.specs.Canonical.{IsLeastAccess, AreLeastAccess}
use Rattle.lw_separate.specs.Separators.{IsSeparators}
use Rattle.lw_separate.proofs.Before.{of_cases}
use Rattle.lw_chunks.specs.Size.{powers}
use Rattle.lw_chunks.specs.Middle.{each_with, words_of_length, words_up_to, suite_of}
use Rattle.lw_chunks.proofs.EachLemmas.{each_at, length-each}
use Rattle.lw_chunks.proofs.SizeLemmas.{length-words_of, length-words_up_to, power_in, powers_rise, pow_suc}
use Rattle.lw_chunks.proofs.MiddleLemmas.{first_letter, among}
use Rattle.lw_cache.specs.Known.{IsKnown}
use Rattle.lw_apart.proofs.Cover.{Alike, IsToldByW}
use Rattle.lw_chunks.proofs.NumberLemmas.{Over, in_suite}

-- the words of a suite tell what the W-method asks for
module _ (a : ℕ) (h : Rows) (access ends : List (List ℕ)) (least : AreLeastAccess a h access) (separating : IsSeparators a h ends) where
  abbrev at : ℕ → List ℕ
  at q = get_or access q []

  not_alike : (p q : ℕ) → p < q → q < length h → Alike h p q ends → ⊥
  not_alike p q lt lq alike =
      let w = separating.whole p q lt lq in
      let all : All (λ v. out h p v ≡ out h q v) ends = All-from_recursion (λ v. out h p v ≡ out h q v) ends alike in
      w.1.1 (All-get_or (λ v. out h p v ≡ out h q v) ends w.0 [] w.1.0 all)

  swap : (p q : ℕ) (vs : List (List ℕ)) → Alike h p q vs → Alike h q p vs
  swap p q [] g = tt
  swap p q (v ∷ vs) g = (sym g.0, swap p q vs g.1)

  tells : (p q : ℕ) → p < length h → q < length h → Alike h p q ends → p ≡ q
  tells p q lp lq alike =
      ⊎_elim (λ (e : p ≡ q). e) (λ (r : (p < q) ⊎ (q < p)). ⊎_elim (λ (lt : p < q). absurd (not_alike p q lt lq alike)) (λ (gt : q < p). absurd (not_alike q p gt lp (swap p q ends alike))) r) (cases_order p q)

  module _ (ks : List Answer) (k : ℕ) (known : All (IsKnown ks) (suite_of access (words_up_to a (k + 1)) ends)) where
    known_at : (q j : ℕ) (mid : List ℕ) → q < length h → Over a mid → length mid ≤ k + 1 → j < length ([] ∷ ends) → IsKnown ks ((at q ++ mid) ++ get_or ([] ∷ ends) j [])
    known_at q j mid lq o le lj =
        let i = in_suite a (k + 1) access ends q j mid (rw least.each lq) o le lj in
        subst (IsKnown ks) i.2 (All-get_or (IsKnown ks) (suite_of access (words_up_to a (k + 1)) ends) i.0 [] i.1 known)

    pub told_by_suite : IsToldByW a h at ends k (IsKnown ks)
    told_by_suite = record {
      tells = tells;
      bare = λ q lq mid o le. subst (λ (w : List ℕ). IsKnown ks w) (append-nil (at q ++ mid)) (known_at q 0 mid lq o le (omega arith));
      tested = λ q lq mid o le. All-from_get_or (λ w. IsKnown ks ((at q ++ mid) ++ w)) ends [] (λ j lt. known_at q (suc j) mid lq o le (omega arith));
    }
