-- Answers of an earlier call, as prior ones.
use Rattle.std.proofs.Common.{◌≡◌, ℕ, ◌+◌, ◌<◌, List, [], ◌∷◌, ◌++◌, suc, zero, length, map, take, min, get_or, slice_get, Contains, Option, None, Some, unwrap_or, refl, sym, ap, ap₂, ◌∙◌, subst, arith}
use Rattle.std.specs.List.{All}
use Rattle.std.proofs.lemmas.List.{length-map, length-take, map-id, map_more, get_or-map, get_or_default, take_more}
use Rattle.std.proofs.lemmas.List.Elements.{All-head, All-tail, All-push}
use Rattle.std.proofs.lemmas.Option.{none-some, slice_get_within, get_or_from_slice_get}
use Rattle.lw_words.specs.Word.{answer_of, answers_of, IsAnswer, IsWhole, IsWord, AllDiffer, number_of, name_at, number_in}
use Rattle.lw_words.specs.Renumbering.{renumbered, renumbered_answer, renumbered_answers}
use Rattle.lw_words.specs.declared.kept.KeptAnswer.{KeptAnswer}
use Rattle.lw_words.proofs.NumberLemmas.{name_at_number}
use Rattle.lw_names.proofs.Members.{contains_in}
use Rattle.lw_names.proofs.Bringing.{map_agree, number_in_place}
use Rattle.lw_names.proofs.NameNumbers.{numbered}
use Rattle.lw_json.specs.Formats.{IsAnswersFile}
use Rattle.lw_json.specs.KeptOver.{IsKeptOver, AreKeptOver}
use Rattle.lw_json.specs.declared.files.Answers.{Answers}
use Rattle.lw_pool.specs.Opening.{MayBegin}
use Rattle.lw_json.specs.FitNames.{FitNames}
use Rattle.lw_prior.specs.Prior.{prior_answer, prior_from, prior_answers}
use Rattle.lw_prior.specs.bodies.Placed.{placed_answer, placed_from}

abbrev blank : KeptAnswer
blank = record { instance = 0; run = 0; word = []; outs = [] }

-- the answers of a file are over its names
pub file_over : (bytes : List ℕ) (a : Answers) → IsAnswersFile bytes a → AreKeptOver (length a.inputs) (length a.outputs) a.kept.answers
file_over bytes a file = a.over

-- answers over names have an output for each letter
pub whole_over : (a b : ℕ) (ks : List KeptAnswer) → AreKeptOver a b ks → All IsWhole (answers_of ks)
whole_over a b ks over i d lt =
    let lt' : i < length ks = rw length-map at lt in
    subst IsWhole (sym (get_or-map answer_of ks i blank d lt')) (over i blank lt').even

-- one answer more at the end
pub placed_push : (n : ℕ) (ks : List KeptAnswer) (k : KeptAnswer) → placed_from n (ks ++ k ∷ []) ≡ placed_from n ks ++ placed_answer (n + length ks) k ∷ []
placed_push n [] k = let e : n ≡ n + 0 = omega arith in ap (λ (m : ℕ). placed_answer m k ∷ []) e
placed_push n (l ∷ ks) k =
    let e : n + 1 + length ks ≡ n + length (l ∷ ks) = omega arith in
    ap (λ (rest : List KeptAnswer). placed_answer n l ∷ rest) (placed_push (n + 1) ks k ∙ ap (λ (m : ℕ). placed_from (n + 1) ks ++ placed_answer m k ∷ []) e)

pub placed_next : (ks : List KeptAnswer) (n : ℕ) (k : KeptAnswer) → n < length ks → take (n + 1) ks ≡ take n ks ++ k ∷ [] → placed_from 0 (take (n + 1) ks) ≡ placed_from 0 (take n ks) ++ placed_answer n k ∷ []
placed_next ks n k lt next =
    let long : length (take n ks) ≡ min n (length ks) = length-take n ks in
    let e : 0 + length (take n ks) ≡ n = omega arith in
    ap (placed_from 0) next ∙ (placed_push 0 (take n ks) k ∙ ap (λ (m : ℕ). placed_from 0 (take n ks) ++ placed_answer m k ∷ []) e)

-- names with their numbers in another list, one name more
module _ (own names : List (List ℕ)) (y : ℕ) (lt : y < length own) where
  number_next : take (y + 1) own ≡ take y own ++ name_at own y ∷ []
  number_next = take_more own y [] lt

  pub numbers_next : (to : List ℕ) (number : ℕ) → to ≡ map (number_in names) (take y own) → number_of (name_at own y) names ≡ Some number → to ++ number ∷ [] ≡ map (number_in names) (take (y + 1) own)
  numbers_next to number is found =
      let n : number_in names (name_at own y) ≡ number = ap (λ (o : Option ℕ). unwrap_or o 0) found in
      ap₂ (λ (l : List ℕ) (m : ℕ). l ++ m ∷ []) is (sym n) ∙ sym (map_more (number_in names) own y [] lt)

  pub among_next : (number : ℕ) → All (λ n. Contains names n) (take y own) → number_of (name_at own y) names ≡ Some number → All (λ n. Contains names n) (take (y + 1) own)
  among_next number among found =
      let at : slice_get names number ≡ Some (name_at own y) = name_at_number (name_at own y) names number found in
      let c : Contains names (name_at own y) = (number, slice_get_within names number (name_at own y) at, get_or_from_slice_get names number (name_at own y) (name_at own y) at) in
      subst (λ (l : List (List ℕ)). All (λ n. Contains names n) l) (sym number_next) (All-push (λ n. Contains names n) (take y own) (name_at own y) among c)

  -- a name that has no number isn't there
  pub not_among : number_of (name_at own y) names ≡ None → ¬ All (λ n. Contains names n) own
  not_among none among =
      let found : number_of (name_at own y) names ≡ Some (number_in names (name_at own y)) = (numbered names (name_at own y) (contains_in (name_at own y) names (among y [] lt))).found in
      none-some (number_in names (name_at own y)) (sym none ∙ found)

module _ (own names : List (List ℕ)) where
  -- an output by the number of its name
  abbrev there : ℕ → ℕ
  there y = number_in names (name_at own y)

  -- as many as there were
  pub prior_length : (n : ℕ) (ks : List KeptAnswer) → length (prior_from n own names ks) ≡ length ks
  prior_length n [] = refl
  prior_length n (k ∷ ks) = ap (λ (m : ℕ). suc m) (prior_length (n + 1) ks)

  -- the answer at a place
  pub prior_at : (n : ℕ) (ks : List KeptAnswer) (i : ℕ) (d : KeptAnswer) → i < length ks → get_or (prior_from n own names ks) i d ≡ prior_answer (n + i) own names (get_or ks i d)
  prior_at n [] i d lt = absurd (omega arith)
  prior_at n (k ∷ ks) zero d lt = let e : n ≡ n + 0 = omega arith in ap (λ (m : ℕ). prior_answer m own names k) e
  prior_at n (k ∷ ks) (suc i) d lt =
      let e : n + 1 + i ≡ n + suc i = omega arith in
      prior_at (n + 1) ks i d (omega arith) ∙ ap (λ (m : ℕ). prior_answer m own names (get_or ks i d)) e

  -- what holds of each of them
  prior_all : (P : KeptAnswer → Type 0) (ks : List KeptAnswer) → ((i : ℕ) → i < length ks → P (prior_answer i own names (get_or ks i blank))) → All P (prior_answers own names ks)
  prior_all P ks each i d lt =
      let lt' : i < length ks = omega (arith, lt, prior_length 0 ks) in
      let e : 0 + i ≡ i = omega arith in
      let at : get_or (prior_answers own names ks) i d ≡ prior_answer i own names (get_or ks i blank) =
      get_or_default (prior_answers own names ks) i d blank lt
      ∙ (prior_at 0 ks i blank lt' ∙ ap (λ (m : ℕ). prior_answer m own names (get_or ks i blank)) e) in
      subst P (sym at) (each i lt')

  -- numbers by a table of the names' numbers
  renumbered_there : (to outs : List ℕ) → to ≡ map (number_in names) own → IsWord (length own) outs → renumbered to outs ≡ map there outs
  renumbered_there to outs is within =
      map_agree (λ y. y < length own) (λ y. get_or to y 0) there (λ y lt. ap (λ (l : List ℕ). get_or l y 0) is ∙ get_or-map (number_in names) own y [] 0 lt) outs within

  pub placed_is_prior : (a n : ℕ) (to : List ℕ) (ks : List KeptAnswer) → to ≡ map (number_in names) own → AreKeptOver a (length own) ks → placed_from n (renumbered_answers to ks) ≡ prior_from n own names ks
  placed_is_prior a n to [] is over = refl
  placed_is_prior a n to (k ∷ ks) is over =
      ap₂ (λ (outs : List ℕ) (rest : List KeptAnswer). let one : KeptAnswer = record { instance = 16; run = n; word = k.word; outs = outs } in one ∷ rest)
      (renumbered_there to k.outs is (All-head (IsKeptOver a (length own)) k ks over).outs)
      (placed_is_prior a (n + 1) to ks is (All-tail (IsKeptOver a (length own)) k ks over))

  -- renumbered and then placed
  pub prior_kept : (a : ℕ) (to : List ℕ) (ks renumbered_ks kept : List KeptAnswer) → to ≡ map (number_in names) own → AreKeptOver a (length own) ks → renumbered_ks ≡ renumbered_answers to ks → kept ≡ placed_from 0 renumbered_ks → kept ≡ prior_answers own names ks
  prior_kept a to ks renumbered_ks kept is over moved placed = placed ∙ (ap (placed_from 0) moved ∙ placed_is_prior a 0 to ks is over)

  -- each number of a name is one among the others
  there_within : All (λ n. Contains names n) own → (y : ℕ) → y < length own → there y < length names
  there_within among y lt = (numbered names (name_at own y) (contains_in (name_at own y) names (among y [] lt))).within

  outs_within : All (λ n. Contains names n) own → (outs : List ℕ) → IsWord (length own) outs → All (λ y. y < length names) (map there outs)
  outs_within among outs within i d lt =
      let lt' : i < length outs = rw length-map at lt in
      subst (λ (y : ℕ). y < length names) (sym (get_or-map there outs i 0 d lt')) (there_within among (get_or outs i 0) (within i 0 lt'))

  pub may_begin : (own_inputs inputs : List (List ℕ)) (ks kept : List KeptAnswer) → kept ≡ prior_answers own names ks → AreKeptOver (length own_inputs) (length own) ks → FitNames own_inputs own inputs names
      → MayBegin (record { names = names; brought = None }) (length inputs) (length names) kept
  may_begin own_inputs inputs ks kept is over fit =
      let outs_are : All (λ k. All (λ y. y < length names) k.outs) (prior_answers own names ks) =
      prior_all (λ k. All (λ y. y < length names) k.outs) ks (λ i lt. outs_within fit.outputs (get_or ks i blank).outs (over i blank lt).outs) in
      rw is (record {
        prior_is = λ i d lt.
            let lt' : i < length ks = omega (arith, lt, prior_length 0 ks) in
            let at = prior_at 0 ks i d lt' in
            let e : 0 + i ≡ i = omega arith in
            (ap (λ (k : KeptAnswer). k.instance) at, ap (λ (k : KeptAnswer). k.run) at ∙ e);
        answers = prior_all (λ k. IsAnswer (length inputs) (answer_of k)) ks (λ i lt.
            let k = over i blank lt in
            (subst (λ (l : List (List ℕ)). IsWord (length l) (get_or ks i blank).word) fit.inputs k.word, length-map (get_or ks i blank).outs there ∙ k.even));
        named = outs_are;
        below = outs_are;
      })

-- under the same names each output keeps its number
pub outs_stay : (own : List (List ℕ)) → AllDiffer own → (a n : ℕ) (ks : List KeptAnswer) → AreKeptOver a (length own) ks → map (λ k. k.outs) (prior_from n own own ks) ≡ map (λ k. k.outs) ks
outs_stay own differ a n [] over = refl
outs_stay own differ a n (k ∷ ks) over =
    ap₂ (λ (outs : List ℕ) (rest : List (List ℕ)). outs ∷ rest)
    (map_agree (λ y. y < length own) (there own own) (λ y. y) (λ y lt. number_in_place own y differ lt) k.outs (All-head (IsKeptOver a (length own)) k ks over).outs ∙ map-id k.outs)
    (outs_stay own differ a (n + 1) ks (All-tail (IsKeptOver a (length own)) k ks over))

-- what a table of numbers covers
pub outs_in_table : (own names : List (List ℕ)) (a : ℕ) (to : List ℕ) (ks : List KeptAnswer) → to ≡ map (number_in names) own → AreKeptOver a (length own) ks → All (λ k. All (λ y. y < length to) k.outs) ks
outs_in_table own names a to ks is over i d lt =
    let long : length to ≡ length own = ap (λ (l : List ℕ). length l) is ∙ length-map own (number_in names) in
    rw long (over i d lt).outs

-- answers whose outputs were renumbered are as long
pub whole_renumbered : (a b : ℕ) (to : List ℕ) (ks : List KeptAnswer) → AreKeptOver a b ks → All IsWhole (answers_of (renumbered_answers to ks))
whole_renumbered a b to ks over i d lt =
    let short : length (answers_of (renumbered_answers to ks)) ≡ length ks = length-map (renumbered_answers to ks) answer_of ∙ length-map ks (renumbered_answer to) in
    let lt' : i < length ks = omega (arith, lt, short) in
    let lt'' : i < length (renumbered_answers to ks) = omega (arith, lt', length-map ks (renumbered_answer to)) in
    let at = get_or-map answer_of (renumbered_answers to ks) i blank d lt'' in
    let one = get_or-map (renumbered_answer to) ks i blank blank lt' in
    subst IsWhole (sym (at ∙ ap answer_of one)) (length-map (get_or ks i blank).outs (λ y. get_or to y 0) ∙ (over i blank lt').even)
