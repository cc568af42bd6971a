-- The first clash of a list of answers.
use Rattle.std.proofs.Common.{◌≡◌, ℕ, ◌<◌, ◌≤◌, ⊎_elim, List, [], ◌++◌, length, take, get_or, ap, sym, ◌∙◌, subst, subst₂, arith}
use Rattle.std.proofs.lemmas.Bool.{cases_lt}
use Rattle.std.proofs.lemmas.List.{get_or-take, get_or_default, length-map, length-take-le, map-append, take-map}
use Rattle.lw_words.specs.Word.{Answer, answer_at, answer_of, answers_of}
use Rattle.lw_words.specs.declared.kept.KeptAnswer.{KeptAnswer}
use Rattle.lw_cache.specs.Clash.{Clash, IsClear, NothingClashes}
use Rattle.lw_cache.specs.FirstClash.{ClashesFirst, IsFirstClash, IsNewClash}
use Rattle.lw_cache.specs.declared.stops.Clash.{Clash as Found}
use Rattle.lw_cache.proofs.ClashLemmas.{all_are_clear, unclashed_after}
use Rattle.lw_cache.proofs.GrowLemmas.{clear_stays}

-- the answer with a number, among the first ones
answer_before : (ks : List Answer) (n i : ℕ) (d : Answer) → n ≤ length ks → i < n → get_or (take n ks) i d ≡ answer_at ks i
answer_before ks n i d le lt = get_or-take n ks i d lt ∙ get_or_default ks i d (record { word = []; outs = [] }) (omega (arith, le, lt))

-- answers that are all clear don't clash
pub nothing_of_clear : (ks : List Answer) (n : ℕ) → n ≤ length ks → ((i : ℕ) → i < n → IsClear ks i) → NothingClashes (take n ks)
nothing_of_clear ks n le clear i j d before within =
    let lj : j < n = omega (arith, within, length-take-le n ks le) in
    let li : i < n = omega (arith, before, lj) in
    subst₂ (λ (k l : Answer). ¬ Clash k l) (sym (answer_before ks n i d le li)) (sym (answer_before ks n j d le lj))
    (unclashed_after ks j (answer_at ks j) (clear j lj).1 i before (clear i li))

-- where nothing clashed before, the first of what came that isn't clear makes the first clash of all
pub new_is_first : (before gained now : List KeptAnswer) (clash : Found) → now ≡ before ++ gained → NothingClashes (answers_of before) → IsNewClash (length before) now clash → IsFirstClash (answers_of now) clash
new_is_first before gained now clash grown nothing is =
    let all : answers_of now ≡ answers_of before ++ answers_of gained = ap answers_of grown ∙ map-append answer_of before gained in
    let long : length (answers_of now) ≡ length now = length-map now answer_of in
    let early : (i : ℕ) → i < length before → IsClear (answers_of now) i = λ i lt.
    let here : i < length (answers_of before) = omega (arith, lt, length-map before answer_of) in
    subst (λ (ks : List Answer). IsClear ks i) (sym all) ((clear_stays (answers_of before) (answers_of gained) i here).1 (all_are_clear (answers_of before) nothing i here)) in
    record {
      within = omega (arith, is.came.within, long);
      before = nothing_of_clear (answers_of now) clash.second (omega (arith, is.came.within, long)) (λ i lt.
          ⊎_elim
          (λ (old : i < length before). early i old)
          (λ (new : length before ≤ i). is.clear i new lt)
          (cases_lt i (length before)));
      here = subst (λ (ks : List Answer). ClashesFirst ks (answer_at (answers_of now) clash.second) clash) (sym (take-map answer_of clash.second now)) is.came.came;
    }
