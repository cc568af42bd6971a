-- What a word is read as.
use Rattle.std.proofs.Common.{◌≡◌, ℕ, zero, suc, ◌+◌, ◌<◌, ◌≤◌, ◌⊎◌, inl, inr, ⊎_elim, List, [], length, take, get_or, refl, ap, sym, ◌∙◌, subst, arith}
use Rattle.std.proofs.lemmas.Bool.{cases_eq, cases_order}
use Rattle.std.proofs.lemmas.List.{length-append, take-append-le, take_more_same}
use Rattle.lw_words.specs.Word.{Answer, AreAnswers, answer_at, IsPrefix}
use Rattle.lw_cache.specs.Clash.{Clash, IsClear}
use Rattle.lw_cache.specs.Known.{Reads, KnownIsRead, ReadsOnce}
use Rattle.lw_cache.proofs.ClashLemmas.{unclashed_after}

pub known_is_read : KnownIsRead
known_is_read ks w = (
  λ known. ⊎_elim
      (λ (e : w ≡ []). ([], inl (e, refl)))
      (λ (r : (i : ℕ) × IsClear ks i × IsPrefix w (answer_at ks i).word). (take (length w) (answer_at ks r.0).outs, inr (r.0, r.1, r.2, refl)))
      known,
  λ read. ⊎_elim
      (λ (e : (w ≡ []) × (read.0 ≡ [])). inl e.0)
      (λ (r : (i : ℕ) × IsClear ks i × IsPrefix w (answer_at ks i).word × (read.0 ≡ take (length w) (answer_at ks i).outs)). inr (r.0, r.1, r.2))
      read.1,
)

pub prefix_long : (w v : List ℕ) → IsPrefix w v → length w ≤ length v
prefix_long w v p = omega (arith, ap (λ (l : List ℕ). length l) p.1, length-append w p.0)

pub prefix_take : (n : ℕ) (w v : List ℕ) → IsPrefix w v → n ≤ length w → take n v ≡ take n w
prefix_take n w v p le = ap (take n) p.1 ∙ take-append-le n w p.0 le

-- answers that don't clash have the same outputs as far as their words are the same
same_outs : (k l : Answer) (w : List ℕ) → length k.outs ≡ length k.word → length l.outs ≡ length l.word → IsPrefix w k.word → IsPrefix w l.word → ¬ Clash k l → (n : ℕ) → n ≤ length w → take n k.outs ≡ take n l.outs
same_outs k l w long_k long_l in_k in_l free zero le = refl
same_outs k l w long_k long_l in_k in_l free (suc n) le =
    let was : take n k.outs ≡ take n l.outs = same_outs k l w long_k long_l in_k in_l free n (omega arith) in
    let lk : n < length k.word = omega (arith, prefix_long w k.word in_k) in
    let ll : n < length l.word = omega (arith, prefix_long w l.word in_l) in
    let one_more : n + 1 ≡ suc n = omega arith in
    ⊎_elim
    (λ (same : get_or k.outs n 0 ≡ get_or l.outs n 0).
    subst (λ (i : ℕ). take i k.outs ≡ take i l.outs) one_more (take_more_same k.outs l.outs n 0 (omega (arith, long_k, lk)) (omega (arith, long_l, ll)) was same))
    (λ (other : get_or k.outs n 0 ≡ get_or l.outs n 0 → ⊥).
    absurd (free (
      n,
      record {
        first = lk;
        second = ll;
        letters = prefix_take (n + 1) w k.word in_k (omega arith) ∙ sym (prefix_take (n + 1) w l.word in_l (omega arith));
        before = was;
        here = other;
      },
    )))
    (cases_eq (get_or k.outs n 0) (get_or l.outs n 0))

-- the empty word is read as none
read_nothing : (ks : List Answer) (w o : List ℕ) → w ≡ [] → Reads ks w o → o ≡ []
read_nothing ks w o e read =
    ⊎_elim
    (λ (r : (w ≡ []) × (o ≡ [])). r.1)
    (λ (r : (i : ℕ) × IsClear ks i × IsPrefix w (answer_at ks i).word × (o ≡ take (length w) (answer_at ks i).outs)).
    r.3 ∙ ap (λ (v : List ℕ). take (length v) (answer_at ks r.0).outs) e)
    read

-- clear answers that begin with a word have the same outputs on it
clear_same : (a : ℕ) (ks : List Answer) (w : List ℕ) (i j : ℕ) → AreAnswers a ks → IsClear ks i → IsClear ks j → IsPrefix w (answer_at ks i).word → IsPrefix w (answer_at ks j).word → take (length w) (answer_at ks i).outs ≡ take (length w) (answer_at ks j).outs
clear_same a ks w i j are clear_i clear_j in_i in_j =
    let blank : Answer = record { word = []; outs = [] } in
    let long : (n : ℕ) → n < length ks → length (answer_at ks n).outs ≡ length (answer_at ks n).word = λ n lt. (are n blank lt).1 in
    ⊎_elim
    (λ (e : i ≡ j). ap (λ (n : ℕ). take (length w) (answer_at ks n).outs) e)
    (λ (o : (i < j) ⊎ (j < i)). ⊎_elim
    (λ (before : i < j). same_outs (answer_at ks i) (answer_at ks j) w (long i clear_i.0) (long j clear_j.0) in_i in_j (unclashed_after ks j (answer_at ks j) clear_j.1 i before clear_i) (length w) (omega arith))
    (λ (before : j < i). sym (same_outs (answer_at ks j) (answer_at ks i) w (long j clear_j.0) (long i clear_i.0) in_j in_i (unclashed_after ks i (answer_at ks i) clear_i.1 j before clear_j) (length w) (omega arith)))
    o)
    (cases_order i j)

pub reads_once : ReadsOnce
reads_once a ks w o p are one other =
    ⊎_elim
    (λ (r : (w ≡ []) × (o ≡ [])). r.1 ∙ sym (read_nothing ks w p r.0 other))
    (λ (r : (i : ℕ) × IsClear ks i × IsPrefix w (answer_at ks i).word × (o ≡ take (length w) (answer_at ks i).outs)). ⊎_elim
    (λ (s : (w ≡ []) × (p ≡ [])). read_nothing ks w o s.0 one ∙ sym s.1)
    (λ (s : (i : ℕ) × IsClear ks i × IsPrefix w (answer_at ks i).word × (p ≡ take (length w) (answer_at ks i).outs)).
    r.3 ∙ (clear_same a ks w r.0 s.0 are r.1 s.1 r.2 s.2 ∙ sym s.3))
    other)
    one
