-- Of answers it is told whether two clash, and whether they make a word known.
use Rattle.std.proofs.Common.{◌≡◌, ◌≢◌, ℕ, zero, suc, ◌+◌, ◌<◌, inl, inr, ⊎_elim, List, [], ◌++◌, length, take, drop, get_or, sym, ap, ◌∙◌, arith}
use Rattle.std.proofs.lemmas.Bool.{cases_eq}
use Rattle.std.proofs.lemmas.List.{take-append-drop, take_all}
use Rattle.lw_words.specs.Word.{Answer, answer_at, IsPrefix}
use Rattle.lw_cache.specs.Clash.{Clash, ClashAt, IsClear, IsClearAfter}
use Rattle.lw_cache.specs.Known.{IsKnown}
use Rattle.lw_cache.proofs.KnownLemmas.{prefix_take}
use Rattle.lw_separate.proofs.CrowdLemmas.{same_or_not}
use Rattle.lw_separate.proofs.Decided.{Decided, decides_like, decides_less, decides_not, decides_both, decides_either, decides_implies, decides_below}

pub decides_prefix : (u w : List ℕ) → Decided (IsPrefix u w)
decides_prefix u w =
    let n : ℕ = length u in
    ⊎_elim
    (λ (same : take n w ≡ take n u). inl (drop n w, sym (take-append-drop n w) ∙ ap (λ (v : List ℕ). v ++ drop n w) (same ∙ take_all n u (omega arith))))
    (λ (other : take n w ≢ take n u). inr (λ (p : IsPrefix u w). other (prefix_take n u w p (omega arith))))
    (same_or_not (take n w) (take n u))

pub decides_clash_at : (k l : Answer) (place : ℕ) → Decided (ClashAt k l place)
decides_clash_at k l place =
    decides_like
    (λ (c : (place < length k.word) × ((place < length l.word) × ((take (place + 1) k.word ≡ take (place + 1) l.word) × ((take place k.outs ≡ take place l.outs) × (get_or k.outs place 0 ≢ get_or l.outs place 0))))).
    record { first = c.0; second = c.1.0; letters = c.1.1.0; before = c.1.1.1.0; here = c.1.1.1.1 })
    (λ (c : ClashAt k l place). (c.first, (c.second, (c.letters, (c.before, c.here)))))
    (decides_both (decides_less place (length k.word))
    (decides_both (decides_less place (length l.word))
    (decides_both (same_or_not (take (place + 1) k.word) (take (place + 1) l.word))
    (decides_both (same_or_not (take place k.outs) (take place l.outs))
    (decides_not (cases_eq (get_or k.outs place 0) (get_or l.outs place 0)))))))

pub decides_clash : (k l : Answer) → Decided (Clash k l)
decides_clash k l =
    decides_like
    (λ (c : (place : ℕ) × (place < length k.word) × ClashAt k l place). (c.0, c.2))
    (λ (c : Clash k l). (c.0, c.1.first, c.1))
    (decides_below (λ place. ClashAt k l place) (length k.word) (λ place lt. decides_clash_at k l place))

decides_clear_after : (ks : List Answer) (n : ℕ) (k : Answer) → Decided (IsClearAfter ks n k)
decides_clear_after ks zero k = inl tt
decides_clear_after ks (suc n) k =
    decides_both (decides_clear_after ks n k) (decides_implies (decides_clear_after ks n (answer_at ks n)) (decides_not (decides_clash (answer_at ks n) k)))

pub decides_clear : (ks : List Answer) (i : ℕ) → Decided (IsClear ks i)
decides_clear ks i = decides_both (decides_less i (length ks)) (decides_clear_after ks i (answer_at ks i))

pub decides_known : (ks : List Answer) (w : List ℕ) → Decided (IsKnown ks w)
decides_known ks w =
    decides_either (same_or_not w [])
    (decides_like
    (λ (r : (i : ℕ) × (i < length ks) × (IsClear ks i × IsPrefix w (answer_at ks i).word)). (r.0, r.2.0, r.2.1))
    (λ (r : (i : ℕ) × IsClear ks i × IsPrefix w (answer_at ks i).word). (r.0, r.1.0, (r.1, r.2)))
    (decides_below (λ i. IsClear ks i × IsPrefix w (answer_at ks i).word) (length ks) (λ i lt. decides_both (decides_clear ks i) (decides_prefix w (answer_at ks i).word))))
