-- What the numbers of a dictionary say of names.
use Rattle.std.proofs.Common.{zero, suc, map, not, cond, is_none, ◌++◌, take, ◌≡◌, ℕ, ◌+◌, ◌*◌, ◌/◌, ◌%◌, ◌<◌, List, [], ◌∷◌, length, get_or, Bool, true, false, true≢false, eqb, Option, Some, None, unwrap_or, slice_get, refl, ap, ap₂, sym, ◌∙◌, subst, arith}
use Rattle.std.specs.Bool.{Decides}
use Rattle.std.specs.List.{All, filter}
use Rattle.std.specs.Option.{option_eq}
use Rattle.std.proofs.lemmas.Bool.Decides.{Decides-eqb}
use Rattle.std.proofs.lemmas.List.{get_or_default, get_or-map, length-map, map-append, take_all, take_more}
use Rattle.std.proofs.lemmas.List.Elements.{All-cons, All-head, All-tail, filter_more}
use Rattle.std.proofs.lemmas.Option.{slice_get-get_or, slice_get_within, get_or_from_slice_get}
use Rattle.lw_words.specs.Word.{IsNames, number_of, IsWord, named}
use Rattle.lw_words.proofs.NumberLemmas.{name_at_number, number_at_place}
use Rattle.lw_mealy.specs.Machine.{IsWithinLimits, MealyMachine, Rows, cell, next, out, output}
use Rattle.lw_mealy.proofs.RowLemmas.{output_below, target_below}
use Rattle.lw_json.specs.declared.files.Machine.{Machine}
use Rattle.lw_compare.specs.Comparing.{lacking, translated}
use Rattle.lw_compare.specs.bodies.Joint.{AgreeAt, IsDictionary, letter_in}
use Rattle.lw_compare.proofs.JointLemmas.{of_pair}

test_some : (o : Option ℕ) (z : ℕ) (t : Bool) → t ≡ option_eq eqb o (Some z) → Decides t (o ≡ Some z)
test_some None z t is = (λ yes. absurd (true≢false (sym yes ∙ is)), λ e. let wrong : None ≡ Some z = e in absurd (cc))
test_some (Some w) z t is = (
  λ yes. ap (λ (n : ℕ). Some n) ((Decides-eqb w z).0 (sym is ∙ yes)),
  λ e. let both : Some w ≡ Some z = e in let same : w ≡ z = cc in is ∙ (Decides-eqb w z).1 same,
)

-- what passes no name of a list
pub none_passes : (p : List ℕ → Bool) (xs : List (List ℕ)) (k : ℕ) → filter p xs ≡ [] → k < length xs → p (get_or xs k []) ≡ false
none_passes p [] k none lt = absurd (omega arith)
none_passes p (x ∷ xs) k none lt = by_first (p x) refl (λ j fails lj. none_passes p xs j (rest fails) lj) k lt
  where
    rest : p x ≡ false → filter p xs ≡ []
    rest fails = sym (ap (λ (b : Bool). cond b (x ∷ filter p xs) (filter p xs)) fails) ∙ none

    by_first : (b : Bool) → p x ≡ b → ((i : ℕ) → p x ≡ false → i < length xs → p (get_or xs i []) ≡ false) → (j : ℕ) → j < length (x ∷ xs) → p (get_or (x ∷ xs) j []) ≡ false
    by_first true is later j lj = let wrong : x ∷ filter p xs ≡ [] = sym (ap (λ (b : Bool). cond b (x ∷ filter p xs) (filter p xs)) is) ∙ none in absurd (cc)
    by_first false is later zero lj = is
    by_first false is later (suc j) lj = later j is (omega arith)

-- a name that others don't lack has a number
pub has_number : (names others : List (List ℕ)) (k : ℕ) (o : Option ℕ) → lacking names others ≡ [] → k < length names → number_of (get_or names k []) others ≡ o → o ≡ None → ⊥
has_number names others k o none lt is empty =
    let e = none_passes (λ n. is_none (number_of n others)) names k none lt in
    let t : is_none (number_of (get_or names k []) others) ≡ true = ap (λ (p : Option ℕ). is_none p) (is ∙ empty) in
    true≢false (sym t ∙ e)

number_below : (o : Option ℕ) (l : ℕ) → ((y : ℕ) → o ≡ Some y → y < l) → (o ≡ None → ⊥) → unwrap_or o 0 < l
number_below None l below some = absurd (some refl)
number_below (Some y) l below some = below y refl

module _ (m n : Machine) (letters : List ℕ) (outputs : List (Option ℕ)) (by : IsDictionary m n letters outputs) where
  pub letter_is : (x : ℕ) → x < m.mealy.inputs → letter_in m n x ≡ get_or letters x 0
  letter_is x lt = by.letters.each x (omega (arith, m.named.0, by.letters.all))

  pub letter_below : (x : ℕ) → x < m.mealy.inputs → letter_in m n x < n.mealy.inputs
  letter_below x lt =
      let k : x < length m.inputs = omega (arith, m.named.0) in
      let below = number_below (number_of (get_or m.inputs x []) n.inputs) (length n.inputs)
      (λ y is. slice_get_within n.inputs y (get_or m.inputs x []) (name_at_number (get_or m.inputs x []) n.inputs y is))
      (λ empty. has_number m.inputs n.inputs x (number_of (get_or m.inputs x []) n.inputs) by.same.0 k refl empty) in
      omega (arith, below, n.named.0)

  -- the test of two outputs at a letter
  pub agrees : (k x b l xi yi : ℕ) (p q : ℕ × ℕ) (o : Option ℕ) (t : Bool) → k < length m.mealy.rows * length n.mealy.rows → x < m.mealy.inputs → b ≡ length n.mealy.rows
      → p ≡ cell m.mealy.rows (k / b) x → xi ≡ x → l ≡ get_or letters xi l → q ≡ cell n.mealy.rows (k % b) l → yi ≡ p.1 → o ≡ get_or outputs yi o → t ≡ option_eq eqb o (Some q.1) → Decides t (AgreeAt m n k x)
  agrees k x b l xi yi p q o t lk lx eb ep exi el eq eyi eo et =
      let at = of_pair (length m.mealy.rows) (length n.mealy.rows) k lk by.two.machine.some_state in
      let y : ℕ = output m.mealy.rows (k / length n.mealy.rows) x in
      let z : ℕ = output n.mealy.rows (k % length n.mealy.rows) (letter_in m n x) in
      let name : List ℕ = get_or m.outputs y [] in
      let ly : y < length m.outputs = omega (arith, output_below m.mealy (k / length n.mealy.rows) x by.one at.0 lx, m.named.1) in
      let lz : z < length n.outputs = omega (arith, output_below n.mealy (k % length n.mealy.rows) (letter_in m n x) by.two at.1 (letter_below x lx), n.named.1) in
      let il : xi < length letters = omega (arith, by.letters.all, m.named.0, exi, lx) in
      let letter : l ≡ letter_in m n x = el ∙ (get_or_default letters xi l 0 il ∙ (ap (λ (i : ℕ). get_or letters i 0) exi ∙ sym (letter_is x lx))) in
      let yis : yi ≡ y = eyi ∙ (ap (λ (c : ℕ × ℕ). c.1) ep ∙ ap (λ (d : ℕ). output m.mealy.rows (k / d) x) eb) in
      let zis : q.1 ≡ z = ap (λ (c : ℕ × ℕ). c.1) eq ∙ ap₂ (λ (d w : ℕ). output n.mealy.rows (k % d) w) eb letter in
      let iy : yi < length outputs = omega (arith, by.outputs.all, yis, ly) in
      let number : number_of name n.outputs ≡ o = by.outputs.each y (omega (arith, by.outputs.all, ly)) ∙ (ap (λ (i : ℕ). get_or outputs i None) (sym yis) ∙ sym (eo ∙ get_or_default outputs yi o None iy)) in
      let test = test_some o z t (et ∙ ap (λ (w : ℕ). option_eq eqb o (Some w)) zis) in (
        λ yes. sym (get_or_from_slice_get n.outputs z name [] (name_at_number name n.outputs z (number ∙ test.0 yes))),
        λ same. test.1 (sym number ∙ number_at_place n.outputs z name by.names.differ (slice_get-get_or n.outputs z [] lz ∙ ap (λ (s : List ℕ). Some s) (sym same))),
      )

  -- a word by the letters' numbers is the word that is translated
  pub translated_is : (w : List ℕ) → IsWord m.mealy.inputs w → map (λ x. get_or letters x 0) w ≡ translated m.inputs n.inputs w
  translated_is [] lw = refl
  translated_is (x ∷ w) lw = ap₂ (λ (y : ℕ) (v : List ℕ). y ∷ v) (sym (letter_is x (All-head (λ z. z < m.mealy.inputs) x w lw))) (translated_is w (All-tail (λ z. z < m.mealy.inputs) x w lw))

  pub translated_word : (w : List ℕ) → IsWord m.mealy.inputs w → IsWord n.mealy.inputs (translated m.inputs n.inputs w)
  translated_word w lw i d lt =
      let long : i < length w = rw length-map at lt in
      subst (λ (y : ℕ). y < n.mealy.inputs) (sym (get_or-map (letter_in m n) w i 0 d long)) (letter_below (get_or w i 0) (lw i 0 long))

-- the outputs on a word are below their number
pub outs_below : (m : MealyMachine) (w : List ℕ) (q : ℕ) → IsWithinLimits m → q < length m.rows → IsWord m.inputs w → All (λ y. y < m.outputs) (out m.rows q w)
outs_below m [] q k lq lw = λ i d none. absurd (omega arith)
outs_below m (x ∷ w) q k lq lw =
    let lx = All-head (λ z. z < m.inputs) x w lw in
    All-cons (λ y. y < m.outputs) (output m.rows q x) (out m.rows (next m.rows q x) w) (output_below m q x k lq lx) (outs_below m w (next m.rows q x) k (target_below m.inputs m.rows q x k.machine lq lx) (All-tail (λ z. z < m.inputs) x w lw))

-- a name more of those that pass
pub filter_step : (p : List ℕ → Bool) (xs was now : List (List ℕ)) (i : ℕ) (name : List ℕ) → i < length xs → slice_get xs i ≡ Some name → now ≡ was ++ cond (p name) (name ∷ []) [] → was ≡ filter p (take i xs) → now ≡ filter p (take (i + 1) xs)
filter_step p xs was now i name lt at more done =
    let here : get_or xs i [] ≡ name = get_or_from_slice_get xs i name [] at in
    more ∙ (ap₂ (λ (l : List (List ℕ)) (x : List ℕ). l ++ cond (p x) (x ∷ []) []) done (sym here) ∙ sym (filter_more p xs i [] lt))

-- a name more that is spelled
pub spell_step : (names : List (List ℕ)) (numbers : List ℕ) (was now : List (List ℕ)) (i n : ℕ) → i < length numbers → n ≡ get_or numbers i n → now ≡ was ++ get_or names n [] ∷ [] → was ≡ named names (take i numbers) → now ≡ named names (take (i + 1) numbers)
spell_step names numbers was now i n lt at more done =
    let here : n ≡ get_or numbers i 0 = at ∙ get_or_default numbers i n 0 lt in
    let front : take (i + 1) numbers ≡ take i numbers ++ get_or numbers i 0 ∷ [] = take_more numbers i 0 lt in
    more ∙ (ap₂ (λ (l : List (List ℕ)) (x : ℕ). l ++ get_or names x [] ∷ []) done here ∙ sym (ap (named names) front ∙ map-append (λ x. get_or names x []) (take i numbers) (get_or numbers i 0 ∷ [])))
