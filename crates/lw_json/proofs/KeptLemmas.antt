-- Answers that were read are words over their names.
use Rattle.std.proofs.Common.{◌≡◌, ◌∙◌, ℕ, ◌<◌, ◌≤◌, List, [], ◌∷◌, ◌==◌, length, map, ap, refl, subst, Option, Some, None, option_map, option_and_then}
use Rattle.std.specs.List.{All, slice_split}
use Rattle.std.proofs.lemmas.List.Elements.{All-nil, All-cons}
use Rattle.std.proofs.lemmas.Option.{none-some, slice_get_within}
use Rattle.json.proofs.Found.{Some_inj}
use Rattle.lw_words.specs.Word.{number_of, IsWord, IsWholeKept}
use Rattle.lw_words.specs.declared.kept.KeptAnswer.{KeptAnswer}
use Rattle.lw_words.proofs.NumberLemmas.{name_at_number}
use Rattle.lw_json.specs.Formats.{WrittenAnswer, numbered_answer, each_of, word_of}
use Rattle.lw_json.specs.KeptOver.{AreKeptOver}

-- what a step that may fail gave
and_then_some : {A B : Type 0} (f : A → Option B) (o : Option A) (b : B) → option_and_then f o ≡ Some b → (a : A) × (o ≡ Some a) × (f a ≡ Some b)
and_then_some f None b e = absurd (none-some b e)
and_then_some f (Some a) b e = (a, refl, e)

map_some : {A B : Type 0} (f : A → B) (o : Option A) (b : B) → option_map f o ≡ Some b → (a : A) × (o ≡ Some a) × (f a ≡ b)
map_some f None b e = absurd (none-some b e)
map_some f (Some a) b e = (a, refl, Some_inj (f a) b e)

-- what holds of each value that a function gives, where it gives one at each element
module _ {V X Y : Type 0} (v : V → X) (f : X → Option Y) (P : Y → Type 0) (each : (x : V) (y : Y) → f (v x) ≡ Some y → P y) where
  pub each_of-All : (xs : List V) (ys : List Y) → each_of f (map v xs) ≡ Some ys → All P ys
  each_of-All [] ys e = subst (λ (l : List Y). All P l) (Some_inj [] ys e) (All-nil P)
  each_of-All (x ∷ xs) ys e =
      let first = and_then_some (λ y. option_map (λ l. y ∷ l) (each_of f (map v xs))) (f (v x)) ys e in
      let rest = map_some (λ l. first.0 ∷ l) (each_of f (map v xs)) ys first.2 in
      subst (λ (l : List Y). All P l) rest.2 (All-cons P first.0 rest.0 (each x first.0 first.1) (each_of-All xs rest.0 rest.1))

map-id_as : {X : Type 0} (xs : List X) → map (λ x. x) xs ≡ xs
map-id_as [] = refl
map-id_as (x ∷ xs) = ap (λ (l : List _). x ∷ l) (map-id_as xs)

-- the word of a text is one over the names
is_word : (names : List (List ℕ)) (text word : List ℕ) → word_of names text ≡ Some word → IsWord (length names) word
is_word names [] word e = subst (λ (l : List ℕ). IsWord (length names) l) (Some_inj [] word e) (All-nil (λ x. x < length names))
is_word names (b ∷ text) word e =
    each_of-All (λ x. x) (λ name. number_of name names) (λ x. x < length names) (λ name n at. slice_get_within names n name (name_at_number name names n at))
    (slice_split (λ c. c == 32) (b ∷ text)) word (ap (each_of (λ name. number_of name names)) (map-id_as (slice_split (λ c. c == 32) (b ∷ text))) ∙ e)

module _ (inputs outputs : List (List ℕ)) where
  -- what a kept answer has of the one that is written
  abbrev IsOver : KeptAnswer → Type 0
  IsOver k = (k.instance ≤ 16) × IsWord (length inputs) k.word × IsWord (length outputs) k.outs

  is_over : (a : WrittenAnswer) (k : KeptAnswer) → a.instance ≤ 16 → numbered_answer inputs outputs a ≡ Some k → IsOver k
  is_over a k small e =
      let first = and_then_some (λ w. option_map (λ o. record { instance = a.instance; run = a.run; word = w; outs = o }) (word_of outputs a.outs)) (word_of inputs a.word) k e in
      let rest = map_some (λ o. record { instance = a.instance; run = a.run; word = first.0; outs = o }) (word_of outputs a.outs) k first.2 in
      subst (λ (k : KeptAnswer). IsOver k) rest.2 (small, is_word inputs a.word first.0 first.1, is_word outputs a.outs rest.0 rest.1)

  pub are_over : {V : Type 0} (v : V → WrittenAnswer) → ((x : V) → (v x).instance ≤ 16) → (xs : List V) (kept : List KeptAnswer) → each_of (numbered_answer inputs outputs) (map v xs) ≡ Some kept → All IsWholeKept kept
      → AreKeptOver (length inputs) (length outputs) kept
  are_over v small xs kept e even =
      let over : All IsOver kept = each_of-All v (numbered_answer inputs outputs) IsOver (λ x k is. is_over (v x) k (small x) is) xs kept e in
      λ k d lt. let h = over k d lt in record { instance = h.0; word = h.1; outs = h.2; even = even k d lt }
