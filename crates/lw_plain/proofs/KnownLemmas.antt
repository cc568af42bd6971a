-- What is known, by the words that were asked.
use Rattle.std.proofs.Common.{◌≡◌, ◌≢◌, ⊎_elim, inl, inr, ℕ, zero, suc, ◌-◌, ◌<◌, ◌≤◌, List, [], ◌∷◌, ◌++◌, length, take, get_or, Some, None, Contains, refl, ap, sym, ◌∙◌, subst, arith, append_assoc, length-append}
use Rattle.std.proofs.lemmas.Bool.{cases_lt}
use Rattle.std.proofs.lemmas.List.{take-append-le, take_all}
use Rattle.std.proofs.lemmas.List.Elements.{All-nil, All-get_or, All-contains, Contains-append_left, Contains-append_right, Contains-append_cases, Contains-get_or}
use Rattle.lw_words.specs.Word.{Answer, IsPrefix, answer_at}
use Rattle.lw_mealy.specs.Machine.{Rows, Gives, answer}
use Rattle.lw_mealy.proofs.WordLemmas.{out-take}
use Rattle.lw_cache.specs.Against.{Differs}
use Rattle.lw_cache.specs.Clash.{IsClear}
use Rattle.lw_cache.specs.Known.{IsKnown, Reads}
use Rattle.lw_cache.proofs.ClashLemmas.{all_are_clear, given_never_clash}
use Rattle.lw_cache.proofs.KnownLemmas.{known_is_read}
use Rattle.lw_plain.specs.Rounds.{Reveals}
use Rattle.lw_plain.specs.Known.{BeginsOne, KnowsWords, NothingKnown, BatchIsKnown, KnownOutputs, FirstIsRevealed}

abbrev none : Answer
none = record { word = []; outs = [] }

at_left : (ks more : List Answer) (i : ℕ) → i < length ks → answer_at (ks ++ more) i ≡ answer_at ks i
at_left [] more i lt = absurd (omega arith)
at_left (k ∷ ks) more zero lt = refl
at_left (k ∷ ks) more (suc i) lt = at_left ks more i (omega arith)

at_right : (ks more : List Answer) (i : ℕ) → length ks ≤ i → answer_at (ks ++ more) i ≡ answer_at more (i - length ks)
at_right [] more i le = ap (λ (j : ℕ). answer_at more j) (omega arith)
at_right (k ∷ ks) more zero le = absurd (omega arith)
at_right (k ∷ ks) more (suc i) le =
    let place : i - length ks ≡ suc i - suc (length ks) = omega arith in
    at_right ks more i (omega arith) ∙ ap (λ (j : ℕ). answer_at more j) place

empty_front : (w u : List ℕ) → w ++ u ≡ [] → w ≡ []
empty_front [] u e = refl
empty_front (x ∷ w) u e = absurd (let f : x ∷ (w ++ u) ≡ [] = e in cc)

-- a known word stays known, where all answers are a machine's
stays_known : (m : Rows) (ks more : List Answer) → Gives m (ks ++ more) → (w : List ℕ) → IsKnown ks w → IsKnown (ks ++ more) w
stays_known m ks more gives w known =
    ⊎_elim
    (λ (e : w ≡ []). inl e)
    (λ (a : (i : ℕ) × IsClear ks i × IsPrefix w (answer_at ks i).word).
    let lt = a.1.0 in
    let size = length-append ks more in
    inr (a.0, all_are_clear (ks ++ more) (given_never_clash m (ks ++ more) gives) a.0 (omega arith), subst (λ (k : Answer). IsPrefix w k.word) (sym (at_left ks more a.0 lt)) a.2))
    known

-- what a machine's answers say
module _ (m : Rows) (ks : List Answer) (gives : Gives m ks) where
  clear : (i : ℕ) → i < length ks → IsClear ks i
  clear i lt = all_are_clear ks (given_never_clash m ks gives) i lt

  read_is : (w o : List ℕ) → Reads ks w o → o ≡ answer m w
  read_is w o r =
      ⊎_elim
      (λ (e : (w ≡ []) × (o ≡ [])). e.1 ∙ ap (λ (u : List ℕ). answer m u) (sym e.0))
      (λ (a : (i : ℕ) × IsClear ks i × IsPrefix w (answer_at ks i).word × (o ≡ take (length w) (answer_at ks i).outs)).
      let k = answer_at ks a.0 in
      let given : answer m k.word ≡ k.outs = All-get_or (λ k. answer m k.word ≡ k.outs) ks a.0 none a.1.0 gives in
      let front : take (length w) k.word ≡ w = ap (λ (u : List ℕ). take (length w) u) a.2.1 ∙ (take-append-le (length w) w a.2.0 (omega arith) ∙ take_all (length w) w (omega arith)) in
      a.3 ∙ (ap (λ (p : List ℕ). take (length w) p) (sym given) ∙ (sym (out-take m 0 (length w) k.word) ∙ ap (λ (u : List ℕ). answer m u) front)))
      r

  known_reads : (w : List ℕ) → IsKnown ks w → Reads ks w (answer m w)
  known_reads w known =
      let r = (known_is_read ks w).0 known in
      subst (λ (o : List ℕ). Reads ks w o) (read_is w r.0 r.1) r.1

  prefix_known : (w v : List ℕ) → IsPrefix w v → IsKnown ks v → IsKnown ks w
  prefix_known w v front known =
      ⊎_elim
      (λ (e : v ≡ []). inl (empty_front w front.0 (sym front.1 ∙ e)))
      (λ (a : (i : ℕ) × IsClear ks i × IsPrefix v (answer_at ks i).word). inr (a.0, a.1, (front.0 ++ a.2.0, a.2.1 ∙ (ap (λ (u : List ℕ). u ++ a.2.0) front.1 ∙ append_assoc w front.0 a.2.0))))
      known

pub known_outputs : KnownOutputs
known_outputs m words ks w o knows begins = (
  λ r. read_is m ks knows.gives w o r,
  λ is. subst (λ (p : List ℕ). Reads ks w p) (sym is) (known_reads m ks knows.gives w (knows.all w begins)),
)

module _ (m h : Rows) (words : List (List ℕ)) (ks : List Answer) (knows : KnowsWords m words ks) where
  differs_reveals : (w : List ℕ) → Differs h ks w → Reveals m h words w
  differs_reveals w (outs, reads, differ) =
      let is = read_is m ks knows.gives w outs reads in
      let other : answer h w ≢ answer m w = λ same. differ (same ∙ sym is) in
      ⊎_elim
      (λ (e : w ≡ []). absurd (other (ap (λ (u : List ℕ). answer h u) e ∙ ap (λ (u : List ℕ). answer m u) (sym e))))
      (λ (b : BeginsOne words w). record { whole = b.0; asked = b.1; front = b.2; differ = other })
      (knows.only w ((known_is_read ks w).1 (outs, reads)))

  reveals_differs : (w : List ℕ) → Reveals m h words w → Differs h ks w
  reveals_differs w r = (answer m w, known_reads m ks knows.gives w (knows.all w (r.whole, r.asked, r.front)), r.differ)

pub first_is_revealed : FirstIsRevealed
first_is_revealed m h words ks None knows first = λ w r. first w (reveals_differs m h words ks knows w r)
first_is_revealed m h words ks (Some w) knows first = record {
  does = differs_reveals m h words ks knows w first.0;
  least = λ v r. first.1 v (reveals_differs m h words ks knows v r);
}

pub nothing_known : NothingKnown
nothing_known m = record {
  gives = All-nil (λ k. answer m k.word ≡ k.outs);
  only = λ w known. ⊎_elim (λ (e : w ≡ []). inl e) (λ (a : (i : ℕ) × IsClear [] i × IsPrefix w (answer_at [] i).word). absurd (let lt = a.1.0 in omega (arith, lt))) known;
  all = λ w begins. absurd (let lt = begins.1.1 in omega (arith, lt));
}

pub batch_is_known : BatchIsKnown
batch_is_known m words batch ks more knows gives to_batch known = record {
  gives = gives;
  only = λ w is. ⊎_elim
      (λ (e : w ≡ []). inl e)
      (λ (a : (i : ℕ) × IsClear (ks ++ more) i × IsPrefix w (answer_at (ks ++ more) i).word). ⊎_elim
      (λ (lt : a.0 < length ks).
      let front : IsPrefix w (answer_at ks a.0).word = subst (λ (k : Answer). IsPrefix w k.word) (at_left ks more a.0 lt) a.2 in
      ⊎_elim
      (λ (e : w ≡ []). inl e)
      (λ (b : BeginsOne words w). inr (b.0, Contains-append_left words batch b.0 b.1, b.2))
      (knows.only w (inr (a.0, clear m ks knows.gives a.0 lt, front))))
      (λ (le : length ks ≤ a.0).
      let j = a.0 - length ks in
      let front : IsPrefix w (answer_at more j).word = subst (λ (k : Answer). IsPrefix w k.word) (at_right ks more a.0 le) a.2 in
      let size = length-append ks more in
      let within = a.1.0 in
      let here : Contains batch (answer_at more j).word = All-get_or (λ k. Contains batch k.word) more j none (omega arith) to_batch in
      inr ((answer_at more j).word, Contains-append_right words batch (answer_at more j).word here, front))
      (cases_lt a.0 (length ks)))
      is;
  all = λ w begins. ⊎_elim
      (λ (old : Contains words begins.0). stays_known m ks more gives w (knows.all w (begins.0, old, begins.2)))
      (λ (new : Contains batch begins.0). prefix_known m (ks ++ more) gives w begins.0 begins.2 (All-contains (IsKnown (ks ++ more)) batch begins.0 known new))
      (Contains-append_cases words batch begins.0 begins.1);
}

-- the first of a machine's answers are a machine's
pub gives_front : (m : Rows) (ks more : List Answer) → Gives m (ks ++ more) → Gives m ks
gives_front m ks more gives i d lt =
    let size = length-append ks more in
    let all : Contains (ks ++ more) (get_or ks i d) = Contains-append_left ks more (get_or ks i d) (Contains-get_or ks i d lt) in
    All-contains (λ k. answer m k.word ≡ k.outs) (ks ++ more) (get_or ks i d) gives all

-- what is read where all answers are a machine's are its outputs
pub reads_answer : (m : Rows) (ks : List Answer) (w o : List ℕ) → Gives m ks → Reads ks w o → o ≡ answer m w
reads_answer m ks w o gives r = read_is m ks gives w o r
