-- Beginnings of a history, and the entries of one actor in it.
use Rattle.std.proofs.Common.{◌≡◌, ◌≢◌, ℕ, ◌≤◌, List, [], ◌∷◌, ◌++◌, length, true, false, refl, sym, ap, ◌∙◌, arith, cond, eqb, eq-eqb, ne_eqb, append-nil, append_assoc}
use Rattle.std.specs.Prelude.{nat_le, filter}
use Rattle.std.proofs.lemmas.List.Elements.{filter-append}
use Rattle.std.proofs.lemmas.Bool.Decides.{nat_tests}
use mathlib.Core.List.{IsPrefix}
use Rattle.lw_turn.specs.declared.shared.Entry.{Entry}
use Rattle.lw_turn.specs.History.{entries_of}
use Rattle.lw_turn.specs.Views.{longer}

module _ {X : Type 0} where
  pub prefix_refl : (xs : List X) → IsPrefix xs xs
  prefix_refl xs = ([], append-nil xs)

  pub prefix_more : (xs ys : List X) → IsPrefix xs (xs ++ ys)
  prefix_more xs ys = (ys, refl)

  pub prefix_trans : (xs ys zs : List X) → IsPrefix xs ys → IsPrefix ys zs → IsPrefix xs zs
  prefix_trans xs ys zs p q = (p.0 ++ q.0, sym (append_assoc xs p.0 q.0) ∙ ap (λ (l : List X). l ++ q.0) p.1 ∙ q.1)

  -- of two beginnings of one list the shorter begins the longer
  pub prefix_of_two : (xs ys zs : List X) → IsPrefix xs zs → IsPrefix ys zs → length xs ≤ length ys → IsPrefix xs ys
  prefix_of_two [] ys zs p q le = (ys, refl)
  prefix_of_two (x ∷ xs) [] zs p q le = absurd (omega arith)
  prefix_of_two (x ∷ xs) (y ∷ ys) [] p q le = let e : (x ∷ xs) ++ p.0 ≡ [] = p.1 in cc
  prefix_of_two (x ∷ xs) (y ∷ ys) (z ∷ zs) p q le =
      let p1 : x ∷ (xs ++ p.0) ≡ z ∷ zs = p.1 in
      let q1 : y ∷ (ys ++ q.0) ≡ z ∷ zs = q.1 in
      let pt : xs ++ p.0 ≡ zs = cc in
      let qt : ys ++ q.0 ≡ zs = cc in
      let same : x ≡ y = cc in
      let r : IsPrefix xs ys = prefix_of_two xs ys zs (p.0, pt) (q.0, qt) (omega arith) in
      let rt : xs ++ r.0 ≡ ys = r.1 in (r.0, cc)

  -- both had seen a beginning of one list, so the longer begins with each
  pub prefix_longer_first : (xs ys zs : List X) → IsPrefix xs zs → IsPrefix ys zs → IsPrefix xs (longer xs ys)
  prefix_longer_first xs ys zs p q =
      elim (nat_le (length xs) (length ys)) as (λ b. nat_le (length xs) (length ys) ≡ b → IsPrefix xs (cond b ys xs)) [
        | true ↦ λ e. prefix_of_two xs ys zs p q (grind (arith, nat_tests))
        | false ↦ λ e. prefix_refl xs
      ] refl

  pub prefix_longer_second : (xs ys zs : List X) → IsPrefix xs zs → IsPrefix ys zs → IsPrefix ys (longer xs ys)
  prefix_longer_second xs ys zs p q =
      elim (nat_le (length xs) (length ys)) as (λ b. nat_le (length xs) (length ys) ≡ b → IsPrefix ys (cond b ys xs)) [
        | true ↦ λ e. prefix_refl ys
        | false ↦ λ e. prefix_of_two ys xs zs q p (grind (arith, nat_tests))
      ] refl

  pub prefix_longer_both : (xs ys zs : List X) → IsPrefix xs zs → IsPrefix ys zs → IsPrefix (longer xs ys) zs
  prefix_longer_both xs ys zs p q =
      elim (nat_le (length xs) (length ys)) as (λ b. IsPrefix (cond b ys xs) zs) [ true ↦ q | false ↦ p ]

module _ {A B : Type 0} where
  pub own_more : (n : ℕ) (es : List (Entry A B)) (e : Entry A B) → e.actor ≡ n → entries_of n (es ++ e ∷ []) ≡ entries_of n es ++ e ∷ []
  own_more n es e is = filter-append (λ (x : Entry A B). eqb x.actor n) es (e ∷ []) ∙ ap (λ b. filter (λ (x : Entry A B). eqb x.actor n) es ++ cond b (e ∷ []) []) (eq-eqb e.actor n is)

  pub other_more : (n : ℕ) (es : List (Entry A B)) (e : Entry A B) → e.actor ≢ n → entries_of n (es ++ e ∷ []) ≡ entries_of n es
  other_more n es e ne = filter-append (λ (x : Entry A B). eqb x.actor n) es (e ∷ []) ∙ ap (λ b. filter (λ (x : Entry A B). eqb x.actor n) es ++ cond b (e ∷ []) []) (ne_eqb e.actor n ne) ∙ append-nil (entries_of n es)
