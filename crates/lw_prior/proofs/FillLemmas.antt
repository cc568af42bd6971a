-- Answers that are kept one after the other.
use Rattle.std.proofs.Common.{◌≡◌, ℕ, ◌+◌, ◌<◌, List, [], ◌∷◌, ◌++◌, length, take, slice_get, Option, Some, None, Result, Err, IfErr, refl, ap, ◌∙◌, subst, arith}
use Rattle.std.specs.List.{All}
use Rattle.std.specs.Option.{option_or}
use Rattle.std.proofs.lemmas.List.{length-map, length_push, map-append, take-append-le, take_all, get_or_append_left, get_or_default, get_or_push, get_or-map, take_more}
use Rattle.std.proofs.lemmas.List.Elements.{All-get_or}
use Rattle.std.proofs.lemmas.List.Quantifiers.{all_pairs_push}
use Rattle.std.proofs.lemmas.Option.{get_or_from_slice_get}
use Rattle.lw_words.specs.Word.{Answer, answer_of, answers_of, answer_at, IsWhole}
use Rattle.lw_words.specs.declared.kept.KeptAnswer.{KeptAnswer}
use Rattle.lw_cache.specs.Caching.{Caching}
use Rattle.lw_cache.specs.Clash.{Clash, NothingClashes, IsClearAfter}
use Rattle.lw_cache.specs.FirstClash.{ClashesFirst, IsFirstClash, StopsKeeping}
use Rattle.lw_cache.specs.declared.stops.KeepStop.{KeepStop}
use Rattle.lw_cache.specs.declared.stops.KeepStop.TheVariants as Stopped
use Rattle.lw_cache.specs.declared.stops.Clash.{Clash as Found}
use Rattle.lw_cache.proofs.ClashLemmas.{all_are_clear, unclashed_after}
use Rattle.lw_prior.specs.Prior.{HasFirstClash}

abbrev blank : Answer
blank = record { word = []; outs = [] }

-- one answer more
module _ (ks : List Answer) (k : Answer) where
  first_stays : (c : Found) → IsFirstClash ks c → IsFirstClash (ks ++ k ∷ []) c
  first_stays c first =
      let w = first.within in
      let front : take c.second (ks ++ k ∷ []) ≡ take c.second ks = take-append-le c.second ks (k ∷ []) (omega arith) in
      let here : answer_at (ks ++ k ∷ []) c.second ≡ answer_at ks c.second = get_or_append_left ks (k ∷ []) blank c.second w in
      record { within = omega (arith, w, length_push ks k); before = rw front first.before; here = rw (front, here) first.here }

  clear_more : NothingClashes ks → IsClearAfter ks (length ks) k → NothingClashes (ks ++ k ∷ [])
  clear_more none clear =
      all_pairs_push (λ a b. ¬ Clash a b) ks k none
      (λ j d below clash. unclashed_after ks (length ks) k clear j below (all_are_clear ks none j below) (subst (λ (a : Answer). Clash a k) (get_or_default ks j d blank below) clash))

  clash_new : (found : Found) → NothingClashes ks → ClashesFirst ks k found → IsFirstClash (ks ++ k ∷ []) found
  clash_new found none first =
      let second : found.second ≡ length ks = first.second in
      let front : take found.second (ks ++ k ∷ []) ≡ ks = ap (λ (n : ℕ). take n (ks ++ k ∷ [])) second ∙ (take-append-le (length ks) ks (k ∷ []) (omega arith) ∙ take_all (length ks) ks (omega arith)) in
      let here : answer_at (ks ++ k ∷ []) found.second ≡ k = ap (λ (n : ℕ). answer_at (ks ++ k ∷ []) n) second ∙ get_or_push ks k blank (length ks) refl in
      record { within = omega (arith, second, length_push ks k); before = rw front none; here = rw (front, here) first }

-- one kept answer more
module _ (before now : List KeptAnswer) (k : KeptAnswer) (more : now ≡ before ++ k ∷ []) where
  answers_more : answers_of now ≡ answers_of before ++ answer_of k ∷ []
  answers_more = ap answers_of more ∙ map-append answer_of before (k ∷ [])

  pub so_far_ok : (clash : Option Found) → HasFirstClash (answers_of before) clash → IsClearAfter (answers_of before) (length before) (answer_of k) → HasFirstClash (answers_of now) clash
  so_far_ok None was clear =
      let long : length (answers_of before) ≡ length before = length-map before answer_of in
      rw answers_more (clear_more (answers_of before) (answer_of k) was (rw long clear))
  so_far_ok (Some clash) was clear = rw answers_more (first_stays (answers_of before) (answer_of k) clash was)

  pub so_far_err : (clash : Option Found) (found : Found) → HasFirstClash (answers_of before) clash → ClashesFirst (answers_of before) (answer_of k) found → HasFirstClash (answers_of now) (option_or clash (Some found))
  so_far_err None found was first = rw answers_more (clash_new (answers_of before) (answer_of k) found was first)
  so_far_err (Some clash) found was first = rw answers_more (first_stays (answers_of before) (answer_of k) clash was)

-- what came of an answer that clashes
pub stopped : (before now : Caching) (k : KeptAnswer) (r : Result (Unit {0}) KeepStop) (stop : KeepStop) (found : Found) → r ≡ Err stop → stop ≡ Stopped.Clash found → IfErr r (StopsKeeping before now k) → StopsKeeping before now k (Stopped.Clash found)
stopped before now k r stop found is kind told =
    let t : StopsKeeping before now k stop = subst (λ (s : Result (Unit {0}) KeepStop). IfErr s (StopsKeeping before now k)) is told in
    subst (StopsKeeping before now k) kind t

-- the answer with a number
module _ (kept : List KeptAnswer) (n : ℕ) (k : KeptAnswer) (lt : n < length kept) (here : slice_get kept n ≡ Some k) where
  pub whole_at : All IsWhole (answers_of kept) → length k.outs ≡ length k.word
  whole_at all =
      let at_number : answer_at (answers_of kept) n ≡ answer_of k = get_or-map answer_of kept n k blank lt ∙ ap answer_of (get_or_from_slice_get kept n k k here) in
      let lt' : n < length (answers_of kept) = rw length-map lt in
      subst IsWhole at_number (All-get_or IsWhole (answers_of kept) n blank lt' all)

  pub take_next : take (n + 1) kept ≡ take n kept ++ k ∷ []
  take_next = take_more kept n k lt ∙ ap (λ (l : KeptAnswer). take n kept ++ l ∷ []) (get_or_from_slice_get kept n k k here)
