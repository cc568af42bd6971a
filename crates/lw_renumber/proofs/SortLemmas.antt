-- What the call that sorts names leaves.
use Rattle.std.proofs.Common.{◌≡◌, ℕ, ◌<◌, ◌≤◌, List, [], ◌∷◌, length, get_or, Result, IfOk, refl, ap, ap₂, sym, ◌∙◌, subst}
use Rattle.std.specs.List.{All}
use Rattle.std.specs.List.Sorted.{IsPermutation}
use Rattle.std.proofs.lemmas.List.Elements.{All-head, All-tail, All-map}
use Rattle.std.proofs.lemmas.List.Sorted.{length_permutation}
use Rattle.lw_words.specs.Word.{answers_of, AllDiffer, named}
use Rattle.lw_words.specs.Renumbering.{renumbered, renumbered_answer, renumbered_answers}
use Rattle.lw_words.specs.declared.kept.KeptAnswer.{KeptAnswer}
use Rattle.lw_mealy.specs.Machine.{AnswersBelow}
use Rattle.lw_desk.specs.Ending.{ComeUp}
use Rattle.lw_names.specs.Naming.{Renumbers}
use Rattle.lw_names.proofs.NameOrder.{differ_moved}
use Rattle.lw_rounds.specs.declared.learned.Learned.{Learned}
use Rattle.lw_rounds.specs.declared.stops.LearnStop.{LearnStop}
use Rattle.lw_renumber.specs.Sorting.{IsRenumbering, MapsWithin, outs_named, renumbered_learned, HasSorted}
use Rattle.lw_renumber.proofs.ComingUp.{come_up_still}
use Rattle.lw_renumber.proofs.LearnedLemmas.{answers_listed, learned_listed, has_sorted}
use Rattle.lw_renumber.proofs.NumberLemmas.{renumbering}

-- from the clauses of the call that sorts
module _ (to : List ℕ) (before now : List (List ℕ)) (differ : AllDiffer before) (moved : IsPermutation before now) (numbers : Renumbers to before now) where
  the_numbers : (f : ℕ → ℕ) × (g : ℕ → ℕ) × IsRenumbering to before now f g
  the_numbers = renumbering to before now differ (differ_moved before now moved differ) moved numbers

  each_named : (o : List ℕ) → All (λ y. y < length before) o → named now (renumbered to o) ≡ named before o
  each_named [] low = refl
  each_named (y ∷ o) low =
      ap₂ (λ (x : List ℕ) (xs : List (List ℕ)). x ∷ xs) (numbers y (All-head (λ y. y < length before) y o low)).1 (each_named o (All-tail (λ y. y < length before) y o low))

  all_named : (ks : List KeptAnswer) → All (λ k. All (λ y. y < length before) k.outs) ks → outs_named now (renumbered_answers to ks) ≡ outs_named before ks
  all_named [] low = refl
  all_named (k ∷ ks) low =
      ap₂ (λ (x : List (List ℕ)) (xs : List (List (List ℕ))). x ∷ xs)
      (each_named k.outs (All-head (λ k. All (λ y. y < length before) k.outs) k ks low))
      (all_named ks (All-tail (λ k. All (λ y. y < length before) k.outs) k ks low))

  pub numbers_within : MapsWithin (length before) to
  numbers_within y lt = subst (λ (c : ℕ). get_or to y 0 < c) (length_permutation before now moved) (numbers y lt).0

  module _ (kept kept_now : List KeptAnswer) (outs : All (λ k. All (λ y. y < length before) k.outs) kept) (answers : kept_now ≡ renumbered_answers to kept) where
    pub outs_below : All (λ k. All (λ y. y < length now) k.outs) kept_now
    outs_below =
        let long = length_permutation before now moved in
        subst (λ (ks : List KeptAnswer). All (λ k. All (λ y. y < length now) k.outs) ks) (sym answers)
        (All-map (λ k. All (λ y. y < length now) k.outs) (renumbered_answer to) kept (λ i d lt.
        All-map (λ y. y < length now) (λ y. get_or to y 0) (get_or kept i d).outs (λ x e le. (numbers (get_or (get_or kept i d).outs x e) (outs i d lt x e le)).0)))

    pub outs_stay_named : outs_named now kept_now ≡ outs_named before kept
    outs_stay_named =
        ap (outs_named now) answers ∙ all_named kept outs

  pub names_come_up : (kept kept_now : List KeptAnswer) → kept_now ≡ renumbered_answers to kept → ComeUp kept before → ComeUp kept_now now
  names_come_up kept kept_now answers were =
      let r = the_numbers in
      subst (λ (ks : List KeptAnswer). ComeUp ks now) (sym answers) (come_up_still to before now r.0 r.1 r.2 kept were)

  pub sorted_stays : (kept kept_now : List KeptAnswer) (was is : Result Learned LearnStop) → length before ≤ 4096 → All (λ k. All (λ y. y < length before) k.outs) kept
      → IfOk was (λ l. AnswersBelow (length before) l.model.rows) → kept_now ≡ renumbered_answers to kept → is ≡ renumbered_learned (length before) to was
      → HasSorted to before now (answers_of kept) (answers_of kept_now) was is
  sorted_stays kept kept_now was is few outs below answers made =
      let r = the_numbers in
      has_sorted to before now r.0 r.1 (answers_of kept) (answers_of kept_now) was is r.2 few below
      (ap answers_of answers ∙ answers_listed to r.0 (length before) r.2.listed kept outs)
      (made ∙ learned_listed to r.0 (length before) was r.2.listed below)
