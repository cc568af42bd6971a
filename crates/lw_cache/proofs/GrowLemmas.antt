-- A list of answers that grows at its end.
use Rattle.std.proofs.Common.{◌≡◌, ℕ, zero, suc, ◌<◌, ◌≤◌, ◌↔◌, inl, inr, ⊎_elim, List, [], ◌++◌, length, take, sym, ap, ◌∙◌, subst, arith}
use Rattle.std.proofs.lemmas.List.{get_or_append_left, length-append}
use Rattle.lw_words.specs.Word.{Answer, answer_at, IsPrefix}
use Rattle.lw_cache.specs.Clash.{Clash, IsClearAfter, IsClear, ClearStays}
use Rattle.lw_cache.specs.Known.{Reads, ReadsStay}
use Rattle.lw_cache.specs.Crowd.{Separates, Apart, CrowdStays}

module _ (ks more : List Answer) where
  same : (i : ℕ) → i < length ks → answer_at (ks ++ more) i ≡ answer_at ks i
  same i lt = get_or_append_left ks more (record { word = []; outs = [] }) i lt

  pub after_stays : (n : ℕ) (k : Answer) → n ≤ length ks → IsClearAfter (ks ++ more) n k ↔ IsClearAfter ks n k
  after_stays zero k le = (λ c. c, λ c. c)
  after_stays (suc n) k le =
      let e : answer_at (ks ++ more) n ≡ answer_at ks n = same n (omega arith) in
      let here = after_stays n k (omega arith) in
      let own = after_stays n (answer_at ks n) (omega arith) in (
        λ c. (here.0 c.0, λ clear clash. c.1 (subst (λ (a : Answer). IsClearAfter (ks ++ more) n a) (sym e) (own.1 clear)) (subst (λ (a : Answer). Clash a k) (sym e) clash)),
        λ c. (here.1 c.0, λ clear clash. c.1 (own.0 (subst (λ (a : Answer). IsClearAfter (ks ++ more) n a) e clear)) (subst (λ (a : Answer). Clash a k) e clash)),
      )

  stays : (i : ℕ) → i < length ks → IsClear (ks ++ more) i ↔ IsClear ks i
  stays i lt =
      let e : answer_at (ks ++ more) i ≡ answer_at ks i = same i lt in
      let own = after_stays i (answer_at ks i) (omega arith) in (
        λ c. (lt, own.0 (subst (λ (a : Answer). IsClearAfter (ks ++ more) i a) e c.1)),
        λ c. (omega (arith, length-append ks more), subst (λ (a : Answer). IsClearAfter (ks ++ more) i a) (sym e) (own.1 c.1)),
      )

  reads : (w o : List ℕ) → Reads ks w o → Reads (ks ++ more) w o
  reads w o read =
      ⊎_elim
      (λ (r : (w ≡ []) × (o ≡ [])). inl r)
      (λ (r : (i : ℕ) × IsClear ks i × IsPrefix w (answer_at ks i).word × (o ≡ take (length w) (answer_at ks i).outs)).
      let e : answer_at (ks ++ more) r.0 ≡ answer_at ks r.0 = same r.0 r.1.0 in
      inr (r.0, (stays r.0 r.1.0).1 r.1, subst (λ (a : Answer). IsPrefix w a.word) (sym e) r.2, r.3 ∙ ap (λ (a : Answer). take (length w) a.outs) (sym e)))
      read

  separates : (suffix u v : List ℕ) → Separates ks suffix u v → Separates (ks ++ more) suffix u v
  separates suffix u v p =
      record {
        one = p.one;
        other = p.other;
        one_read = reads (u ++ suffix) p.one p.one_read;
        other_read = reads (v ++ suffix) p.other p.other_read;
        differ = p.differ;
      }

  apart : (u v : List ℕ) → Apart ks u v → Apart (ks ++ more) u v
  apart u v p = (p.0, separates p.0 u v p.1)

pub clear_stays : ClearStays
clear_stays ks more i lt = stays ks more i lt

pub reads_stay : ReadsStay
reads_stay ks more w o read = reads ks more w o read

pub crowd_stays : CrowdStays
crowd_stays ks more words crowd i j d before within = apart ks more _ _ (crowd i j d before within)
