-- Classes of states, refined letter by letter.
use Rattle.std.proofs.Common.{◌≡◌, ◌≢◌, ℕ, ◌+◌, ◌<◌, ◌≤◌, ⊎_elim, true, false, List, [], ◌∷◌, ◌++◌, length, get_or, drop, refl, ap, sym, ◌∙◌, arith, subst}
use Rattle.std.proofs.Math.Numerals.{add-one}
use Rattle.std.proofs.Math.Seq.{drop-cons}
use Rattle.std.proofs.lemmas.Bool.{cases_lt}
use Rattle.std.proofs.lemmas.List.{get_or_append_left, drop_all}
use Rattle.std.proofs.lemmas.List.Elements.{All-get_or}
use Rattle.lw_words.specs.Word.{IsWord}
use Rattle.lw_mealy.specs.Machine.{Rows, IsMachine, next, output, out}
use Rattle.lw_mealy.proofs.RowLemmas.{target_below}
use Rattle.lw_separate.specs.bodies.Classes.{IsFrom, AreNames, AreClasses, Observes, SplitsBy, RefinesBy}
use Rattle.lw_separate.specs.bodies.Columns.{IsColumn}
use Rattle.lw_separate.specs.bodies.Walk.{Splits}
use Rattle.lw_separate.proofs.CrowdLemmas.{Apart, Alike, apart_or_alike}
use Rattle.lw_separate.proofs.SearchLemmas.{last_or_before, length-push, at_end}

-- of a word these letters are left; the classes and the outputs on what is left tell what the old classes and the outputs on the whole word do
pub record Follows (m : Rows) (first : ℕ) (w old rest ends classes : List ℕ) : Type 0 where
  pub long : length ends ≡ length m
  pub states : (q : ℕ) → q < length ends → get_or ends q 0 < length m
  pub names : AreNames m classes
  pub on : (p q : ℕ) → IsFrom m first p → IsFrom m first q → get_or classes p 0 ≡ get_or classes q 0 → out m (get_or ends p 0) rest ≡ out m (get_or ends q 0) rest → (get_or old p 0 ≡ get_or old q 0) × (out m p w ≡ out m q w)
  pub back : (p q : ℕ) → IsFrom m first p → IsFrom m first q → get_or old p 0 ≡ get_or old q 0 → out m p w ≡ out m q w → (get_or classes p 0 ≡ get_or classes q 0) × (out m (get_or ends p 0) rest ≡ out m (get_or ends q 0) rest)

heads_same : (x y : ℕ) (u v : List ℕ) → x ∷ u ≡ y ∷ v → x ≡ y
heads_same x y u v e = cc

tails_same : (x y : ℕ) (u v : List ℕ) → x ∷ u ≡ y ∷ v → u ≡ v
tails_same x y u v e = cc

both_same : (x y : ℕ) (u v : List ℕ) → x ≡ y → u ≡ v → x ∷ u ≡ y ∷ v
both_same x y u v e f = cc

module _ (a : ℕ) (m : Rows) (first : ℕ) (w old : List ℕ) (x : ℕ) (v : List ℕ) (column : List (ℕ × ℕ)) (ends ends' outputs cs ks : List ℕ) (machine : IsMachine a m) (xa : x < a) (col : IsColumn m x column) (f : Follows m first w old (x ∷ v) ends cs) (o : Observes column first (length ends) ends ends' outputs) (r : SplitsBy m first outputs cs ks) where
  to : (q : ℕ) → IsFrom m first q → get_or ends' q 0 ≡ next m (get_or ends q 0) x
  to q lq = o.to q lq.0 (omega (arith, f.long)) ∙ ap (λ (d : ℕ × ℕ). d.0) (col.cells (get_or ends q 0) (omega (arith, col.long, f.states q (omega (arith, f.long)))))

  seen : (q : ℕ) → IsFrom m first q → get_or outputs q 0 ≡ output m (get_or ends q 0) x
  seen q lq = o.output q lq.0 (omega (arith, f.long)) ∙ ap (λ (d : ℕ × ℕ). d.1) (col.cells (get_or ends q 0) (omega (arith, col.long, f.states q (omega (arith, f.long)))))

  on_still : (p q : ℕ) → IsFrom m first p → IsFrom m first q → get_or ks p 0 ≡ get_or ks q 0 → out m (get_or ends' p 0) v ≡ out m (get_or ends' q 0) v → (get_or old p 0 ≡ get_or old q 0) × (out m p w ≡ out m q w)
  on_still p q lp lq class is =
      let heads : output m (get_or ends p 0) x ≡ output m (get_or ends q 0) x = sym (seen p lp) ∙ (r.output p q lp lq class ∙ seen q lq) in
      let tails : out m (next m (get_or ends p 0) x) v ≡ out m (next m (get_or ends q 0) x) v = ap (λ (t : ℕ). out m t v) (sym (to p lp)) ∙ (is ∙ ap (λ (t : ℕ). out m t v) (to q lq)) in
      f.on p q lp lq (r.class p q lp lq class) (both_same (output m (get_or ends p 0) x) (output m (get_or ends q 0) x) (out m (next m (get_or ends p 0) x) v) (out m (next m (get_or ends q 0) x) v) heads tails)

  back_still : (p q : ℕ) → IsFrom m first p → IsFrom m first q → get_or old p 0 ≡ get_or old q 0 → out m p w ≡ out m q w → (get_or ks p 0 ≡ get_or ks q 0) × (out m (get_or ends' p 0) v ≡ out m (get_or ends' q 0) v)
  back_still p q lp lq class is =
      let b = f.back p q lp lq class is in
      let heads : output m (get_or ends p 0) x ≡ output m (get_or ends q 0) x = heads_same (output m (get_or ends p 0) x) (output m (get_or ends q 0) x) (out m (next m (get_or ends p 0) x) v) (out m (next m (get_or ends q 0) x) v) b.1 in
      let tails : out m (next m (get_or ends p 0) x) v ≡ out m (next m (get_or ends q 0) x) v = tails_same (output m (get_or ends p 0) x) (output m (get_or ends q 0) x) (out m (next m (get_or ends p 0) x) v) (out m (next m (get_or ends q 0) x) v) b.1 in
      (r.back p q lp lq b.0 (seen p lp ∙ (heads ∙ sym (seen q lq))), ap (λ (t : ℕ). out m t v) (to p lp) ∙ (tails ∙ ap (λ (t : ℕ). out m t v) (sym (to q lq))))

  -- one letter more
  pub follows_more : Follows m first w old v ends' ks
  follows_more = record {
    long = o.long ∙ f.long;
    states = λ q lq. let lm : q < length m = omega (arith, o.long, f.long) in ⊎_elim
        (λ (l : q < first). omega (arith, o.before q l, f.states q (omega (arith, f.long))))
        (λ (l : first ≤ q). omega (arith, to q (l, lm), target_below a m (get_or ends q 0) x machine (f.states q (omega (arith, f.long))) xa))
        (cases_lt q first);
    names = r.names;
    on = on_still;
    back = back_still;
  }

pub follows_end : (m : Rows) (first : ℕ) (w old ends classes : List ℕ) → Follows m first w old [] ends classes → RefinesBy m first w old classes
follows_end m first w old ends classes f = record {
  names = f.names;
  same = λ p q lp lq class. f.on p q lp lq class refl;
  apart = λ p q lp lq class is. (f.back p q lp lq class is).0;
}

drop_next : (w : List ℕ) (k : ℕ) → k < length w → drop k w ≡ get_or w k 0 ∷ drop (k + 1) w
drop_next w k lt = rw (add-one, drop-cons w k 0)

-- the same by the place of the letter
pub follows_next : (a : ℕ) (m : Rows) (first : ℕ) (w old : List ℕ) (k x : ℕ) (column : List (ℕ × ℕ)) (ends ends' outputs seen cs ks : List ℕ) → IsMachine a m → IsWord a w → k < length w → x ≡ get_or w k 0 → IsColumn m x column → Follows m first w old (drop k w) ends cs → Observes column first (length ends) ends ends' outputs → seen ≡ outputs → SplitsBy m first seen cs ks → Follows m first w old (drop (k + 1) w) ends' ks
follows_next a m first w old k x column ends ends' outputs seen cs ks machine letters lt is col f o same r =
    let xa : get_or w k 0 < a = All-get_or (λ y. y < a) w k 0 lt letters in
    let f' : Follows m first w old (get_or w k 0 ∷ drop (k + 1) w) ends cs = subst (λ (v : List ℕ). Follows m first w old v ends cs) (drop_next w k lt) f in
    let col' : IsColumn m (get_or w k 0) column = subst (λ (y : ℕ). IsColumn m y column) is col in
    let r' : SplitsBy m first outputs cs ks = subst (λ (l : List ℕ). SplitsBy m first l cs ks) same r in
    follows_more a m first w old (get_or w k 0) (drop (k + 1) w) column ends ends' outputs cs ks machine xa col' f' o r'

pub follows_done : (m : Rows) (first : ℕ) (w old : List ℕ) (k : ℕ) (ends classes : List ℕ) → length w ≤ k → Follows m first w old (drop k w) ends classes → RefinesBy m first w old classes
follows_done m first w old k ends classes end f = follows_end m first w old ends classes (subst (λ (v : List ℕ). Follows m first w old v ends classes) (drop_all k w end) f)

-- one word more
pub classes_push : (m : Rows) (first : ℕ) (list : List (List ℕ)) (w classes classes' : List ℕ) → AreClasses m first list classes → RefinesBy m first w classes classes' → AreClasses m first (list ++ w ∷ []) classes'
classes_push m first list w classes classes' c r = record {
  names = r.names;
  same = λ p q lp lq is i li.
      let s = r.same p q lp lq is in
      ⊎_elim
      (λ (l : i < length list). subst (λ (v : List ℕ). out m p v ≡ out m q v) (sym (get_or_append_left list (w ∷ []) [] i l)) (c.same p q lp lq s.0 i l))
      (λ (l : i ≡ length list). subst (λ (v : List ℕ). out m p v ≡ out m q v) (sym (at_end list w [] i l)) s.1)
      (last_or_before i (length list) (omega (arith, length-push list w)));
  apart = λ p q lp lq s. r.apart p q lp lq
      (c.apart p q lp lq (λ i li. subst (λ (v : List ℕ). out m p v ≡ out m q v) (get_or_append_left list (w ∷ []) [] i li) (s i (omega (arith, length-push list w)))))
      (subst (λ (v : List ℕ). out m p v ≡ out m q v) (at_end list w [] (length list) refl) (s (length list) (omega (arith, length-push list w))));
}

-- a row further
pub classes_from : (m : Rows) (first next : ℕ) (list : List (List ℕ)) (classes : List ℕ) → first ≤ next → AreClasses m first list classes → AreClasses m next list classes
classes_from m first next list classes le c = record {
  names = c.names;
  same = λ p q lp lq. c.same p q (omega arith, lp.1) (omega arith, lq.1);
  apart = λ p q lp lq. c.apart p q (omega arith, lp.1) (omega arith, lq.1);
}

-- states of two classes are separated by a word of the list, and states of one class by none
pub split_by_class : (m : Rows) (first : ℕ) (list : List (List ℕ)) (classes : List ℕ) (p q : ℕ) → AreClasses m first list classes → IsFrom m first p → IsFrom m first q → get_or classes p 0 ≢ get_or classes q 0 → Splits m list p q true
split_by_class m first list classes p q c lp lq differ =
    ⊎_elim
    (λ (s : Apart m list (length list) p q). (s.0, (s.1, s.2)))
    (λ (s : Alike m list (length list) p q). absurd (differ (c.apart p q lp lq s)))
    (apart_or_alike m list (length list) p q)

pub alike_by_class : (m : Rows) (first : ℕ) (list : List (List ℕ)) (classes : List ℕ) (p q : ℕ) → AreClasses m first list classes → IsFrom m first p → IsFrom m first q → get_or classes p 0 ≡ get_or classes q 0 → Splits m list p q false
alike_by_class m first list classes p q c lp lq same = c.same p q lp lq same
