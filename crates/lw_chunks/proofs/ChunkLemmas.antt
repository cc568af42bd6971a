-- What is left of a list, chunk by chunk.
use Rattle.std.proofs.Common.{◌≡◌, ◌≢◌, ◌↔◌, ltb, true, ℕ, ◌+◌, ◌-◌, ◌<◌, ◌≤◌, List, [], ◌∷◌, length, take, drop, min, refl, sym, ap, ◌∙◌, arith, ⊎_elim}
use Rattle.std.proofs.lemmas.Bool.{cases_lt}
use Rattle.std.proofs.lemmas.Bool.Decides.{Decides-ltb}
use Rattle.std.proofs.lemmas.List.{length-drop, drop-drop, drop_all, take_all}

module _ {X : Type 0} where
  pub chunk_is : (xs ys : List X) (count left most : ℕ) → count ≡ min left most → left ≡ length xs → ys ≡ take count xs → ys ≡ take most xs
  chunk_is xs ys count left most c l is = ⊎_elim
      (λ (lt : left < most). let e : count ≡ left = omega arith in is ∙ (take_all count xs (omega arith) ∙ sym (take_all most xs (omega arith))))
      (λ (ge : most ≤ left). let e : count ≡ most = omega arith in is ∙ ap (λ (n : ℕ). take n xs) e)
      (cases_lt left most)

  pub left_is : (all : List X) (start count left most next : ℕ) → count ≡ min left most → left ≡ length all - start → next ≡ start + count → drop next all ≡ drop most (drop start all)
  left_is all start count left most next c l is = ⊎_elim
      (λ (lt : left < most).
      let d : length (drop start all) ≡ length all - start = length-drop start all in
      drop_all next all (omega arith) ∙ sym (drop_all most (drop start all) (omega arith)))
      (λ (ge : most ≤ left). let e : next ≡ start + most = omega arith in ap (λ (n : ℕ). drop n all) e ∙ sym (drop-drop most start all))
      (cases_lt left most)

  pub some_left : (xs : List X) (count left most : ℕ) → 0 < most → count ≡ min left most → left ≡ length xs → (ltb 0 count ≡ true) ↔ (xs ≢ [])
  some_left [] count left most pos c l = (λ t. let lt : 0 < count = (Decides-ltb 0 count).0 t in absurd (omega arith), λ n. absurd (n refl))
  some_left (x ∷ xs) count left most pos c l = (λ t e. Prim.cc e, λ n. (Decides-ltb 0 count).1 (omega arith))
