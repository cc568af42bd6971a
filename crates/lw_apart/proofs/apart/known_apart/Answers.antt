use Rattle.std.proofs.Common.{◌≡◌, ℕ, ◌<◌, length, get_or, refl, sym, ap, ◌∙◌, subst, arith}
use Rattle.std.proofs.lemmas.Bool.{false≢true}
use Rattle.std.proofs.lemmas.List.{get_or_default}
use Rattle.std.proofs.lemmas.List.Elements.{All-get_or, All-from_all_within, AllWithin-more, AllWithin-upto}
use Rattle.lw_words.specs.Word.{answers_of, answer_at, IsPrefix}
use Rattle.lw_mealy.specs.Machine.{after}
use Rattle.lw_apart.proofs.BehindLemmas.{PartsAt, apart_at, apart_none, letters_at, parts_same}
use Rattle.lw_apart.proofs.apart.known_apart.Goals as goal

pub returns-then-branch : goal.returns-then-branch
returns-then-branch c =
    let m = c.args.h.now in
    let kept = c.args.cache.now.kept in
    let ks = answers_of kept in
    let u = c.args.one.now in
    let v = c.args.other.now in
    let i : ℕ = get_or c.args.behind.now c.loop-number.number-index 0 in
    let at : (i < length ks) × IsPrefix v (answer_at ks i).word =
    All-get_or (λ j. (j < length ks) × IsPrefix v (answer_at ks j).word) c.args.behind.now c.loop-number.number-index 0 (omega arith) c.requires.behind.each in
    let letters = letters_at kept _ i c.len.result _ c.as_slice.result.now v c.kept.ensures.value at.0 c.get.ensures c.as_slice.ensures c.len.ensures in
    let p : c.after-p.result ≡ after m.rows 0 u = c.after-p.ensures.value ∙ ap (λ (s : ℕ). after m.rows s u) c.initial.ensures.value in
    let q : c.after-q.result ≡ after m.rows 0 v = c.after-q.ensures.value ∙ ap (λ (s : ℕ). after m.rows s v) c.initial-2.ensures.value in
    let parts : PartsAt m ks u v i = parts_same m.rows ks _ u _ _ _ _ _ _ c.in_ok-word.ensures p q letters (c.in_ok-parts_behind.ensures.0 c.if-branch.true) in
    (λ e. apart_at m ks c.requires.given u v c.args.behind.now c.requires.behind i at.0 at.1 parts, λ known. refl)

pub loop-number-preserved : goal.loop-number-preserved
loop-number-preserved c =
    let m = c.args.h.now in
    let kept = c.args.cache.now.kept in
    let ks = answers_of kept in
    let u = c.args.one.now in
    let v = c.args.other.now in
    let i : ℕ = get_or c.args.behind.now c.loop-number.number-index 0 in
    let at : (i < length ks) × IsPrefix v (answer_at ks i).word =
    All-get_or (λ j. (j < length ks) × IsPrefix v (answer_at ks j).word) c.args.behind.now c.loop-number.number-index 0 (omega arith) c.requires.behind.each in
    let letters = letters_at kept _ i c.len.result _ c.as_slice.result.now v c.kept.ensures.value at.0 c.get.ensures c.as_slice.ensures c.len.ensures in
    let p : c.after-p.result ≡ after m.rows 0 u = c.after-p.ensures.value ∙ ap (λ (s : ℕ). after m.rows s u) c.initial.ensures.value in
    let q : c.after-q.result ≡ after m.rows 0 v = c.after-q.ensures.value ∙ ap (λ (s : ℕ). after m.rows s v) c.initial-2.ensures.value in
    let apart : ¬ PartsAt m ks u v i = λ parts. false≢true (sym c.if-branch.false ∙ c.in_ok-parts_behind.ensures.1 (parts_same m.rows ks u _ _ _ _ _ _ _ (sym c.in_ok-word.ensures) (sym p) (sym q) (sym letters) parts)) in
    AllWithin-more (λ j. ¬ PartsAt m ks u v j) c.args.behind.now 0 c.loop-number.number-index c.loop-number.invariant
    (λ d. subst (λ (j : ℕ). ¬ PartsAt m ks u v j) (get_or_default c.args.behind.now c.loop-number.number-index 0 d (omega arith)) apart)

pub returns : goal.returns
returns c =
    let m = c.args.h.now in
    let ks = answers_of c.args.cache.now.kept in
    let u = c.args.one.now in
    let v = c.args.other.now in
    let apart = apart_none m ks c.requires.given u v c.args.behind.now c.requires.behind
    (All-from_all_within (λ j. ¬ PartsAt m ks u v j) c.args.behind.now (AllWithin-upto (λ j. ¬ PartsAt m ks u v j) c.args.behind.now 0 c.loop-number.number-index (length c.args.behind.now) (omega arith) c.loop-number.invariant)) in
    (λ e. absurd (false≢true e), λ known. absurd (apart known))
