-- A tally of one addition more.
use Rattle.std.proofs.Common.{◌≡◌, ◌≢◌, ℕ, ◌+◌, ◌*◌, ◌^◌, ◌<◌, ◌≤◌, List, [], ◌∷◌, ◌++◌, length, ap, ◌∙◌, subst, ⊎_elim, arith, length-append}
use Rattle.lw_turn.specs.declared.shared.Entry.{Entry}
use Rattle.lw_turn.specs.History.{entries_of}
use Rattle.lw_turn.specs.Tally.{sum_of, AreReplies, IsTally, MayAdd, tally_bounded}
use Rattle.lw_turn.proofs.Histories.{own_more, other_more}
use Rattle.lw_turn.proofs.Places.{same_or_not}

pub sum_of-snoc : (es : List (Entry ℕ ℕ)) (e : Entry ℕ ℕ) → sum_of (es ++ e ∷ []) ≡ sum_of es + e.ask
sum_of-snoc [] e = omega arith
sum_of-snoc (x ∷ es) e = omega (arith, sum_of-snoc es e)

replies_more : (sum : ℕ) (es : List (Entry ℕ ℕ)) (e : Entry ℕ ℕ) → AreReplies sum es → e.reply ≡ sum + sum_of es → AreReplies sum (es ++ e ∷ [])
replies_more sum [] e r is = (omega (arith, is), tt)
replies_more sum (x ∷ es) e r is = (r.0, replies_more (sum + x.ask) es e r.1 (omega (arith, is)))

pub tally_more : (actors each : ℕ) (es : List (Entry ℕ ℕ)) (e : Entry ℕ ℕ) → IsTally actors each es → e.actor < actors → MayAdd each (entries_of e.actor es) e.ask → e.reply ≡ sum_of es → IsTally actors each (es ++ e ∷ [])
tally_more actors each es e t lt may is = record {
  replies = replies_more 0 es e t.replies (omega (arith, is));
  small = let s = sum_of-snoc es e in let l = length-append es (e ∷ []) in omega (arith, t.small, s, l, may.0);
  often = λ n. ⊎_elim
      (λ (h : e.actor ≡ n).
      let l = ap length (own_more n es e h) ∙ length-append (entries_of n es) (e ∷ []) in
      let m : length (entries_of n es) < each = subst (λ (k : ℕ). length (entries_of k es) < each) h may.1 in omega (arith, l, m))
      (λ (h : e.actor ≢ n). let l = ap length (other_more n es e h) in let m = t.often n in omega (arith, l, m))
      (same_or_not e.actor n);
  others = λ n le. other_more n es e (λ q. omega (arith, q, le, lt)) ∙ t.others n le;
  few = t.few;
}

-- there is room for one addition more
pub tally_room : (actors each : ℕ) (es : List (Entry ℕ ℕ)) (e : Entry ℕ ℕ) → IsTally actors each es → e.actor < actors → MayAdd each (entries_of e.actor es) e.ask → e.reply ≡ sum_of es → length es < actors * each
tally_room actors each es e t lt may is =
    let b = tally_bounded actors each (es ++ e ∷ []) (tally_more actors each es e t lt may is) in
    let l = length-append es (e ∷ []) in
    let product : ℕ = actors * each in
    let le : length (es ++ e ∷ []) ≤ product = b.0 in
    let goal : length es < product = omega (arith, le, l) in goal

-- the sum fits
pub tally_fits : (actors each : ℕ) (es : List (Entry ℕ ℕ)) (ask : ℕ) → IsTally actors each es → ask ≤ 100 → sum_of es + ask < 2 ^ 64
tally_fits actors each es ask t le =
    let b = tally_bounded actors each es t in
    let product : ℕ = actors * each in
    let few : product < 2 ^ 32 = t.few.1 in
    let len : length es ≤ product = b.0 in omega (arith, few, len, t.small, le)
