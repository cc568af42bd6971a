-- The plain body, step by step.
use Rattle.std.proofs.Common.{◌≡◌, ◌≢◌, ℕ, suc, ◌+◌, ◌<◌, ◌≤◌, ◌↔◌, inl, ⊎_elim, Bool, true, false, not, List, [], ◌∷◌, ◌++◌, length, take, drop, get_or, slice_get, Some, refl, ap, sym, ◌∙◌, subst, arith}
use Rattle.std.proofs.lemmas.Bool.{cases_lt}
use Rattle.std.proofs.Math.Seq.{get_or-append_seam, take-append_seam}
use Rattle.std.proofs.lemmas.List.{get_or-take, get_or-map, get_or_append_left, length-append, length-map, take_more_same, take-append-drop}
use Rattle.std.proofs.lemmas.Slice.Eq.{bytes_eq-Decides}
use Rattle.std.specs.Str.{bytes_eq}
use Rattle.std.proofs.lemmas.Option.{get_or_from_slice_get}
use Rattle.lw_words.specs.Word.{Answer, answer_at, answer_of, answers_of, IsPrefix}
use Rattle.lw_words.specs.declared.kept.KeptAnswer.{KeptAnswer}
use Rattle.lw_cache.specs.Clash.{Clash, ClashAt, IsClear, IsClearAfter}
use Rattle.lw_cache.specs.Known.{IsKnown}
use Rattle.lw_cache.specs.Plain.{AreFlags}

-- the letters and the outputs before the place are equal
pub record AgreeTo (k l : Answer) (place : ℕ) : Type 0 where
  pub letters : take place k.word ≡ take place l.word
  pub outs : take place k.outs ≡ take place l.outs

pub agree_begin : (k l : Answer) → AgreeTo k l 0
agree_begin k l = record { letters = refl; outs = refl }

pub agree_more : (k l : Answer) (i : ℕ) → length k.outs ≡ length k.word → length l.outs ≡ length l.word → i < length k.word → i < length l.word → AgreeTo k l i → get_or k.word i 0 ≡ get_or l.word i 0 → get_or k.outs i 0 ≡ get_or l.outs i 0 → AgreeTo k l (i + 1)
agree_more k l i long_k long_l lk ll was letter out =
    record {
      letters = take_more_same k.word l.word i 0 lk ll was.letters letter;
      outs = take_more_same k.outs l.outs i 0 (omega (arith, long_k, lk)) (omega (arith, long_l, ll)) was.outs out;
    }

pub clash_here : (k l : Answer) (i : ℕ) → i < length k.word → i < length l.word → AgreeTo k l i → get_or k.word i 0 ≡ get_or l.word i 0 → get_or k.outs i 0 ≢ get_or l.outs i 0 → ClashAt k l i
clash_here k l i lk ll was letter out =
    record {
      first = lk;
      second = ll;
      letters = take_more_same k.word l.word i 0 lk ll was.letters letter;
      before = was.outs;
      here = out;
    }

same_before : (xs ys : List ℕ) (n p : ℕ) → p < n → take n xs ≡ take n ys → get_or xs p 0 ≡ get_or ys p 0
same_before xs ys n p lt e = sym (get_or-take n xs p 0 lt) ∙ (ap (λ (l : List ℕ). get_or l p 0) e ∙ get_or-take n ys p 0 lt)

pub no_clash_before : (k l : Answer) (i p : ℕ) → AgreeTo k l i → p < i → ¬ ClashAt k l p
no_clash_before k l i p was lt c = c.here (same_before k.outs l.outs i p lt was.outs)

pub other_letter : (k l : Answer) (i : ℕ) → AgreeTo k l i → get_or k.word i 0 ≢ get_or l.word i 0 → ¬ Clash k l
other_letter k l i was other c =
    ⊎_elim
    (λ (before : c.0 < i). no_clash_before k l i c.0 was before c.1)
    (λ (from : i ≤ c.0). other (same_before k.word l.word (c.0 + 1) i (omega arith) c.1.letters))
    (cases_lt c.0 i)

pub no_clash : (k l : Answer) (i : ℕ) → AgreeTo k l i → ((p : ℕ) → p < length k.word → p < length l.word → p < i) → ¬ Clash k l
no_clash k l i was all c = no_clash_before k l i c.0 was (all c.0 c.1.first c.1.second) c.1

pub ruleset clash_steps = (agree_begin, agree_more, clash_here, other_letter, no_clash)

-- the answer that a list has at a place
pub kept_at : (kept : List KeptAnswer) (i : ℕ) (k : KeptAnswer) → i < length kept → slice_get kept i ≡ Some k → answer_at (answers_of kept) i ≡ answer_of k
kept_at kept i k lt is =
    get_or-map answer_of kept i k (record { word = []; outs = [] }) lt ∙ ap answer_of (get_or_from_slice_get kept i k k is)

-- one answer more that the answer doesn't clash with, or that isn't clear
pub clear_more : (ks : List Answer) (n : ℕ) (k : Answer) → IsClearAfter ks n k → (IsClear ks n → ¬ Clash (answer_at ks n) k) → n < length ks → IsClearAfter ks (n + 1) k
clear_more ks n k was free lt =
    let one_more : suc n ≡ n + 1 = omega arith in
    subst (λ (i : ℕ). IsClearAfter ks i k) one_more (let more : IsClearAfter ks (suc n) k = (was, λ clear. free (lt, clear)) in more)

-- a flag more
pub flags_more : (ks : List Answer) (n : ℕ) (flags : List Bool) (b : Bool) → AreFlags ks n flags → (b ≡ true → IsClear ks n) → (IsClear ks n → b ≡ true) → AreFlags ks (n + 1) (flags ++ b ∷ [])
flags_more ks n flags b was then only =
    record {
      long = omega (arith, length-append flags (b ∷ []), was.long);
      each = λ i lt. ⊎_elim
          (λ (before : i < n).
          let at : get_or (flags ++ b ∷ []) i false ≡ get_or flags i false = get_or_append_left flags (b ∷ []) false i (omega (arith, was.long)) in
          (λ e. (was.each i before).0 (sym at ∙ e), λ c. at ∙ (was.each i before).1 c))
          (λ (from : n ≤ i).
          let is : i ≡ n = omega arith in
          let at : get_or (flags ++ b ∷ []) i false ≡ b = last flags b i (is ∙ sym was.long) in
          (λ e. subst (IsClear ks) (sym is) (then (sym at ∙ e)), λ c. at ∙ only (subst (IsClear ks) is c)))
          (cases_lt i n);
    }
  where
    last : (xs : List Bool) (x : Bool) (i : ℕ) → i ≡ length xs → get_or (xs ++ x ∷ []) i false ≡ x
    last xs x i e = ap (λ (k : ℕ). get_or (xs ++ x ∷ []) k false) e ∙ get_or-append_seam xs x [] false

pub prefix_from_take : (w v : List ℕ) → take (length w) v ≡ w → IsPrefix w v
prefix_from_take w v e = (drop (length w) v, sym (take-append-drop (length w) v) ∙ ap (λ (u : List ℕ). u ++ drop (length w) v) e)

pub take_from_prefix : (w v : List ℕ) → IsPrefix w v → take (length w) v ≡ w
take_from_prefix w v p = ap (take (length w)) p.1 ∙ take-append_seam w p.0

pub begins : (w v : List ℕ) (b : Bool) → b ≡ bytes_eq w (take (length w) v) → (b ≡ true) ↔ IsPrefix w v
begins w v b is = (
  λ e. prefix_from_take w v (sym ((bytes_eq-Decides w (take (length w) v)).0 (sym is ∙ e))),
  λ p. is ∙ (bytes_eq-Decides w (take (length w) v)).1 (sym (take_from_prefix w v p)),
)

-- a word that no clear answer begins with is known only where it is empty
pub known_empty : (ks : List Answer) (w : List ℕ) (n : ℕ) (b : Bool) → length ks ≡ n → ((j : ℕ) → j < n → IsClear ks j → ¬ IsPrefix w (answer_at ks j).word) → (b ≡ true → length w ≡ 0) → (length w ≡ 0 → b ≡ true) → (b ≡ true) ↔ IsKnown ks w
known_empty ks w n b size none then only = (
  λ e. inl (no_letters w (then e)),
  λ known. ⊎_elim
      (λ (e : w ≡ []). only (ap (λ (v : List ℕ). length v) e))
      (λ (r : (i : ℕ) × IsClear ks i × IsPrefix w (answer_at ks i).word). absurd (none r.0 (omega (arith, size, r.1.0)) r.1 r.2))
      known,
)
  where
    no_letters : (v : List ℕ) → length v ≡ 0 → v ≡ []
    no_letters [] e = refl
    no_letters (x ∷ v) e = absurd (omega (arith, e))

pub kept_count : (kept : List KeptAnswer) → length (answers_of kept) ≡ length kept
kept_count kept = length-map kept answer_of

-- the flag of the next answer
pub flag_next : (ks : List Answer) (n m : ℕ) (flags : List Bool) (k : Answer) (clashes : Bool) → AreFlags ks n flags → m ≡ n → n < length ks → answer_at ks n ≡ k
    → (clashes ≡ false → IsClearAfter ks m k) → (clashes ≡ true → ¬ IsClearAfter ks m k) → AreFlags ks (n + 1) (flags ++ not clashes ∷ [])
flag_next ks n m flags k false was size lt same clear other =
    flags_more ks n flags true was
    (λ e. (lt, subst (λ (a : Answer). IsClearAfter ks n a) (sym same) (subst (λ (i : ℕ). IsClearAfter ks i k) size (clear refl))))
    (λ c. refl)
flag_next ks n m flags k true was size lt same clear other =
    flags_more ks n flags false was
    (λ e. let no : true ≡ false = sym e in cc)
    (λ c. absurd (other refl (subst (λ (i : ℕ). IsClearAfter ks i k) (sym size) (subst (λ (a : Answer). IsClearAfter ks n a) same c.1))))
