-- Renamed answers: what clashes, what is clear, known and read, and what is a crowd.
use Rattle.std.proofs.Common.{◌≡◌, ℕ, zero, suc, ◌<◌, ◌↔◌, inl, inr, ⊎_elim, List, [], ◌∷◌, ◌++◌, length, take, drop, get_or, map, refl, ap, sym, ◌∙◌, subst, subst₂, arith}
use Rattle.std.proofs.lemmas.List.{length-map, take-map, drop-map, get_or-map}
use Rattle.lw_words.specs.Word.{Answer, AreAnswers, IsWhole, answer_at, IsPrefix}
use Rattle.lw_cache.specs.Clash.{Clash, NothingClashes, IsClearAfter, IsClear}
use Rattle.lw_cache.specs.Known.{IsKnown, Reads}
use Rattle.lw_cache.specs.Crowd.{Apart, IsCrowd}
use Rattle.lw_renumber.specs.Renaming.{Renames, renamed_answer, renamed_answers}
use Rattle.lw_renumber.proofs.MachineLemmas.{told_apart}

-- the answer at a place, also past the end
at : (f : ℕ → ℕ) (ks : List Answer) (i : ℕ) → answer_at (renamed_answers f ks) i ≡ renamed_answer f (answer_at ks i)
at f [] i = refl
at f (k ∷ ks) zero = refl
at f (k ∷ ks) (suc i) = at f ks i

-- each answer, past the end too, has an output for each letter
abbrev AreWhole : List Answer → Type 0
AreWhole ks = (i : ℕ) → IsWhole (answer_at ks i)

whole_past : (ks : List Answer) → ((i : ℕ) → i < length ks → IsWhole (answer_at ks i)) → AreWhole ks
whole_past [] each i = refl
whole_past (k ∷ ks) each zero = each zero (omega arith)
whole_past (k ∷ ks) each (suc i) = whole_past ks (λ j lt. each (suc j) (omega arith)) i

are_whole : (a : ℕ) (ks : List Answer) → AreAnswers a ks → AreWhole ks
are_whole a ks are = whole_past ks (λ i lt. (are i (record { word = []; outs = [] }) lt).1)

module _ (f g : ℕ → ℕ) (r : Renames f g) where
  pub clash_too : (k l : Answer) → IsWhole k → IsWhole l → Clash k l → Clash (renamed_answer f k) (renamed_answer f l)
  clash_too k l wk wl clash =
      let p : ℕ = clash.0 in
      let c = clash.1 in
      let lk : p < length k.outs = omega (arith, wk, c.first) in
      let ll : p < length l.outs = omega (arith, wl, c.second) in (
        p,
        record {
          first = c.first;
          second = c.second;
          letters = c.letters;
          before = take-map f p k.outs ∙ (ap (map f) c.before ∙ sym (take-map f p l.outs));
          here = λ same. c.here (sym (r.back (get_or k.outs p 0)) ∙ (ap g (sym (get_or-map f k.outs p 0 0 lk) ∙ (same ∙ get_or-map f l.outs p 0 0 ll)) ∙ r.back (get_or l.outs p 0)));
        },
      )

  pub clash_back : (k l : Answer) → IsWhole k → IsWhole l → Clash (renamed_answer f k) (renamed_answer f l) → Clash k l
  clash_back k l wk wl clash =
      let p : ℕ = clash.0 in
      let c = clash.1 in
      let lk : p < length k.outs = omega (arith, wk, c.first) in
      let ll : p < length l.outs = omega (arith, wl, c.second) in (
        p,
        record {
          first = c.first;
          second = c.second;
          letters = c.letters;
          before = told_apart f g r (take p k.outs) (take p l.outs) (sym (take-map f p k.outs) ∙ (c.before ∙ take-map f p l.outs));
          here = λ same. c.here (get_or-map f k.outs p 0 0 lk ∙ (ap f same ∙ sym (get_or-map f l.outs p 0 0 ll)));
        },
      )

  module _ (ks : List Answer) (whole : AreWhole ks) where
    after_both : (n : ℕ) (k : Answer) → IsWhole k → IsClearAfter (renamed_answers f ks) n (renamed_answer f k) ↔ IsClearAfter ks n k
    after_both zero k wk = (λ u. tt, λ u. tt)
    after_both (suc n) k wk =
        let h = after_both n k wk in
        let l : Answer = answer_at ks n in
        let own = after_both n l (whole n) in
        let is : answer_at (renamed_answers f ks) n ≡ renamed_answer f l = at f ks n in (
          λ c. (
            h.0 c.0,
            λ clear clash. c.1
                (subst (λ (o : Answer). IsClearAfter (renamed_answers f ks) n o) (sym is) (own.1 clear))
                (subst (λ (o : Answer). Clash o (renamed_answer f k)) (sym is) (clash_too l k (whole n) wk clash)),
          ),
          λ c. (
            h.1 c.0,
            λ clear clash. c.1
                (own.0 (subst (λ (o : Answer). IsClearAfter (renamed_answers f ks) n o) is clear))
                (clash_back l k (whole n) wk (subst (λ (o : Answer). Clash o (renamed_answer f k)) is clash)),
          ),
        )

    clear_both : (i : ℕ) → IsClear (renamed_answers f ks) i ↔ IsClear ks i
    clear_both i =
        let h = after_both i (answer_at ks i) (whole i) in
        let is : answer_at (renamed_answers f ks) i ≡ renamed_answer f (answer_at ks i) = at f ks i in
        let n : length (renamed_answers f ks) ≡ length ks = length-map ks (renamed_answer f) in (
          λ c. (subst (λ (s : ℕ). i < s) n c.0, h.0 (subst (λ (o : Answer). IsClearAfter (renamed_answers f ks) i o) is c.1)),
          λ c. (subst (λ (s : ℕ). i < s) (sym n) c.0, subst (λ (o : Answer). IsClearAfter (renamed_answers f ks) i o) (sym is) (h.1 c.1)),
        )

    word_at_is : (i : ℕ) → (answer_at (renamed_answers f ks) i).word ≡ (answer_at ks i).word
    word_at_is i = ap (λ (o : Answer). o.word) (at f ks i)

    known_both : (w : List ℕ) → IsKnown (renamed_answers f ks) w ↔ IsKnown ks w
    known_both w = (
      λ known. ⊎_elim
          (λ (e : w ≡ []). inl e)
          (λ (k : (i : ℕ) × IsClear (renamed_answers f ks) i × IsPrefix w (answer_at (renamed_answers f ks) i).word).
          inr (k.0, (clear_both k.0).0 k.1, subst (λ (v : List ℕ). IsPrefix w v) (word_at_is k.0) k.2))
          known,
      λ known. ⊎_elim
          (λ (e : w ≡ []). inl e)
          (λ (k : (i : ℕ) × IsClear ks i × IsPrefix w (answer_at ks i).word).
          inr (k.0, (clear_both k.0).1 k.1, subst (λ (v : List ℕ). IsPrefix w v) (sym (word_at_is k.0)) k.2))
          known,
    )

    read_too : (w o : List ℕ) → Reads ks w o → Reads (renamed_answers f ks) w (map f o)
    read_too w o read =
        ⊎_elim
        (λ (e : (w ≡ []) × (o ≡ [])). inl (e.0, ap (map f) e.1))
        (λ (k : (i : ℕ) × IsClear ks i × IsPrefix w (answer_at ks i).word × (o ≡ take (length w) (answer_at ks i).outs)).
        inr (
          k.0,
          (clear_both k.0).1 k.1,
          subst (λ (v : List ℕ). IsPrefix w v) (sym (word_at_is k.0)) k.2,
          ap (map f) k.3 ∙ (sym (take-map f (length w) (answer_at ks k.0).outs) ∙ ap (λ (l : Answer). take (length w) l.outs) (sym (at f ks k.0))),
        ))
        read

    apart_too : (u v : List ℕ) → Apart ks u v → Apart (renamed_answers f ks) u v
    apart_too u v apart =
        let s = apart.1 in (
          apart.0,
          record {
            one = map f s.one;
            other = map f s.other;
            one_read = read_too (u ++ apart.0) s.one s.one_read;
            other_read = read_too (v ++ apart.0) s.other s.other_read;
            differ = λ same. s.differ (told_apart f g r (drop (length u) s.one) (drop (length v) s.other) (sym (drop-map f (length u) s.one) ∙ (same ∙ drop-map f (length v) s.other)));
          },
        )

    crowd_too : (words : List (List ℕ)) → IsCrowd ks words → IsCrowd (renamed_answers f ks) words
    crowd_too words crowd i j d before within = apart_too (get_or words i d) (get_or words j d) (crowd i j d before within)

module _ (f g : ℕ → ℕ) (r : Renames f g) (a : ℕ) (ks : List Answer) (are : AreAnswers a ks) where
  pub known_stays : (w : List ℕ) → IsKnown (renamed_answers f ks) w ↔ IsKnown ks w
  known_stays = known_both f g r ks (are_whole a ks are)

  pub read_renamed : (w o : List ℕ) → Reads ks w o → Reads (renamed_answers f ks) w (map f o)
  read_renamed = read_too f g r ks (are_whole a ks are)

  pub crowd_stays : (words : List (List ℕ)) → IsCrowd ks words → IsCrowd (renamed_answers f ks) words
  crowd_stays = crowd_too f g r ks (are_whole a ks are)

  pub clear_stays : (i : ℕ) → IsClear (renamed_answers f ks) i ↔ IsClear ks i
  clear_stays = clear_both f g r ks (are_whole a ks are)

  pub never_clash : NothingClashes ks → NothingClashes (renamed_answers f ks)
  never_clash nothing i j d before within clash =
      let blank : Answer = record { word = []; outs = [] } in
      let n : length (renamed_answers f ks) ≡ length ks = length-map ks (renamed_answer f) in
      let lj : j < length ks = subst (λ (s : ℕ). j < s) n within in
      let li : i < length ks = omega (arith, before, lj) in
      let read : (k : ℕ) → k < length ks → get_or (renamed_answers f ks) k d ≡ renamed_answer f (get_or ks k blank) = λ k lt. get_or-map (renamed_answer f) ks k blank d lt in
      nothing i j blank before lj
      (clash_back f g r (get_or ks i blank) (get_or ks j blank) (are i blank li).1 (are j blank lj).1
      (subst₂ (λ (k l : Answer). Clash k l) (read i li) (read j lj) clash))
