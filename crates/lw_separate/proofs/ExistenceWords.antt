-- A least word that does something exists where some word does it, and of each word it is told whether it does.
use Rattle.std.proofs.Common.{◌≡◌, ℕ, zero, suc, ◌<◌, ◌⊎◌, inl, inr, ⊎_elim, List, [], ◌∷◌, length, refl, sym, ◌∙◌, subst, arith}
use Rattle.std.proofs.lemmas.Bool.{cases_order}
use Rattle.std.proofs.lemmas.List.Elements.{All-nil, All-cons, All-tail}
use Rattle.lw_words.specs.Word.{IsWord}
use Rattle.lw_separate.specs.Canonical.{LeastWord}
use Rattle.lw_separate.specs.bodies.Search.{AtMost}
use Rattle.lw_separate.proofs.Before.{of_cases, at_most_cons, at_most_not_behind}
use Rattle.lw_separate.proofs.Decided.{Decided, first_below}

empty : (v : List ℕ) → length v ≡ 0 → [] ≡ v
empty [] long = refl
empty (x ∷ v) long = absurd (omega arith)

module _ (a : ℕ) where
  -- the least word of n letters that does it
  record LeastOfLength (Does : List ℕ → Type 0) (n : ℕ) : Type 0 where
    word : List ℕ
    letters : IsWord a word
    long : length word ≡ n
    does : Does word
    least : (v : List ℕ) → IsWord a v → length v ≡ n → Does v → AtMost word v

  -- no word of n letters does it
  abbrev NoneOfLength : (List ℕ → Type 0) → ℕ → Type 0
  NoneOfLength Does n = (v : List ℕ) → IsWord a v → length v ≡ n → ¬ Does v

  -- the least word behind the least letter
  module _ (Does : List ℕ → Type 0) (n x : ℕ) (xa : x < a) (l : LeastOfLength (λ v. Does (x ∷ v)) n) (before : (y : ℕ) → y < x → NoneOfLength (λ v. Does (y ∷ v)) n) where
    at_most : (v : List ℕ) → IsWord a v → length v ≡ suc n → Does v → AtMost (x ∷ l.word) v
    at_most [] letters long does = absurd (omega arith)
    at_most (y ∷ v) letters long does =
        let lv : length v ≡ n = omega (arith, long) in
        let va : IsWord a v = All-tail (λ z. z < a) y v letters in
        ⊎_elim
        (λ (same : x ≡ y). subst (λ (z : ℕ). AtMost (x ∷ l.word) (z ∷ v)) same (at_most_cons x l.word v (l.long ∙ sym lv) (l.least v va lv (subst (λ (z : ℕ). Does (z ∷ v)) (sym same) does))))
        (λ (o : (x < y) ⊎ (y < x)). ⊎_elim (λ (lt : x < y). inr (of_cases (x ∷ l.word) (y ∷ v) (inr (omega (arith, l.long, lv), inl lt)))) (λ (lt : y < x). absurd (before y lt v va lv does)) o)
        (cases_order x y)

    least_behind : LeastOfLength Does (suc n)
    least_behind = record {
      word = x ∷ l.word;
      letters = All-cons (λ z. z < a) x l.word xa l.letters;
      long = omega (arith, l.long);
      does = l.does;
      least = at_most;
    }

  none_behind : (Does : List ℕ → Type 0) (n : ℕ) → ((y : ℕ) → y < a → NoneOfLength (λ v. Does (y ∷ v)) n) → NoneOfLength Does (suc n)
  none_behind Does n none [] letters long does = absurd (omega arith)
  none_behind Does n none (y ∷ v) letters long does = none y (letters 0 0 (omega arith)) v (All-tail (λ z. z < a) y v letters) (omega (arith, long)) does

  least_of_length : (n : ℕ) (Does : List ℕ → Type 0) → ((v : List ℕ) → Decided (Does v)) → LeastOfLength Does n ⊎ NoneOfLength Does n
  least_of_length zero Does each =
      ⊎_elim
      (λ (does : Does []). inl (record { word = []; letters = All-nil (λ z. z < a); long = refl; does = does; least = λ v letters long also. inl (empty v long) }))
      (λ (no : ¬ Does []). inr (λ v letters long does. no (subst Does (sym (empty v long)) does)))
      (each [])
  least_of_length (suc n) Does each =
      ⊎_elim
      (λ (f : (x : ℕ) × (x < a) × LeastOfLength (λ v. Does (x ∷ v)) n × ((y : ℕ) → y < x → NoneOfLength (λ v. Does (y ∷ v)) n)). inl (least_behind Does n f.0 f.1 f.2 f.3))
      (λ (none : (y : ℕ) → y < a → NoneOfLength (λ v. Does (y ∷ v)) n). inr (none_behind Does n none))
      (first_below (λ x. LeastOfLength (λ v. Does (x ∷ v)) n) (λ x. NoneOfLength (λ v. Does (x ∷ v)) n) a (λ x lt. least_of_length n (λ v. Does (x ∷ v)) (λ v. each (x ∷ v))))

  -- no shorter word does it
  least_of_all : (Does : List ℕ → Type 0) (n : ℕ) (l : LeastOfLength Does n) → ((k : ℕ) → k < n → NoneOfLength Does k) → (v : List ℕ) → IsWord a v → Does v → AtMost l.word v
  least_of_all Does n l shorter v letters does =
      ⊎_elim
      (λ (same : n ≡ length v). l.least v letters (sym same) does)
      (λ (o : (n < length v) ⊎ (length v < n)). ⊎_elim (λ (lt : n < length v). inr (of_cases l.word v (inl (omega (arith, l.long, lt))))) (λ (lt : length v < n). absurd (shorter (length v) lt v letters refl does)) o)
      (cases_order n (length v))

  pub least_word : (Does : List ℕ → Type 0) → ((v : List ℕ) → Decided (Does v)) → (w : List ℕ) → IsWord a w → Does w → (u : List ℕ) × LeastWord (λ v. IsWord a v × Does v) u
  least_word Does each w letters does =
      ⊎_elim
      (λ (f : (n : ℕ) × (n < suc (length w)) × LeastOfLength Does n × ((k : ℕ) → k < n → NoneOfLength Does k)).
      let l = f.2 in (
        l.word,
        record {
          does = (l.letters, l.does);
          least = λ v d. at_most_not_behind l.word v (least_of_all Does f.0 l f.3 v d.0 d.1);
        },
      ))
      (λ (none : (k : ℕ) → k < suc (length w) → NoneOfLength Does k). absurd (none (length w) (omega arith) w letters refl does))
      (first_below (λ n. LeastOfLength Does n) (λ n. NoneOfLength Does n) (suc (length w)) (λ n lt. least_of_length n Does each))
