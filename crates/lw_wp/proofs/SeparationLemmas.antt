-- Words that separate two states, by their outputs and by classes, and words by their numbers.
use Rattle.std.proofs.Common.{◌≡◌, ◌≢◌, ℕ, ◌+◌, ◌<◌, ⊎_elim, true, false, not, eqb, List, [], ◌∷◌, ◌++◌, length, get_or, take, map, Some, slice_get, sym, ap, ap₂, ◌∙◌, subst, arith}
use Rattle.std.specs.Str.{bytes_eq}
use Rattle.std.proofs.lemmas.Bool.{not-true, not-false, cases_Bool, true≢false, eqb-true, eq-eqb}
use Rattle.std.proofs.lemmas.Bool.Decides.{not_from_Decides}
use Rattle.std.proofs.lemmas.List.{get_or-map, length-map, map-append, take_more}
use Rattle.std.proofs.lemmas.Option.{get_or_from_slice_get}
use Rattle.std.proofs.lemmas.Slice.Eq.{bytes_eq-Decides}
use Rattle.lw_mealy.specs.Machine.{Rows, out}
use Rattle.lw_separate.specs.WordClasses.{AreClassesOn, AreWordClasses}
use Rattle.lw_wp.specs.Identification.{separates}
use Rattle.lw_wp.specs.Tables.{chosen}

module _ (h : Rows) (q p : ℕ) (w : List ℕ) where
  pub separates_differ : separates h q p w ≡ true → out h q w ≢ out h p w
  separates_differ e = not_from_Decides (bytes_eq (out h q w) (out h p w)) (bytes_eq-Decides (out h q w) (out h p w)) (not-true (bytes_eq (out h q w) (out h p w)) e)

  separates_agree : separates h q p w ≡ false → out h q w ≡ out h p w
  separates_agree e = (bytes_eq-Decides (out h q w) (out h p w)).0 (not-false (bytes_eq (out h q w) (out h p w)) e)

  pub agree_separates : out h q w ≡ out h p w → separates h q p w ≡ false
  agree_separates e = ap not ((bytes_eq-Decides (out h q w) (out h p w)).1 e)

  pub differ_separates : out h q w ≢ out h p w → separates h q p w ≡ true
  differ_separates n =
      ⊎_elim (λ (e : separates h q p w ≡ true). e) (λ (e : separates h q p w ≡ false). absurd (n (separates_agree e))) (cases_Bool (separates h q p w))

  -- by the classes on the word
  pub separates_by : (classes : List ℕ) → AreClassesOn h w classes → q < length h → p < length h → not (eqb (get_or classes q 0) (get_or classes p 0)) ≡ separates h q p w
  separates_by classes on lq lp =
      ⊎_elim
      (λ (e : eqb (get_or classes q 0) (get_or classes p 0) ≡ true). ap not e ∙ sym (agree_separates (on.same q p lq lp (eqb-true (get_or classes q 0) (get_or classes p 0) e))))
      (λ (e : eqb (get_or classes q 0) (get_or classes p 0) ≡ false). ap not e ∙ sym (differ_separates (λ same. true≢false (sym (eq-eqb (get_or classes q 0) (get_or classes p 0) (on.apart q p lq lp same)) ∙ e))))
      (cases_Bool (eqb (get_or classes q 0) (get_or classes p 0)))

-- the classes that a vector of vectors has at a number
pub classes_read : {X : Type 0} (f : X → List ℕ) (h : Rows) (words : List (List ℕ)) (xs : List X) (i : ℕ) (o : X) (classes : List ℕ)
    → AreWordClasses h words (map f xs) → i < length words → o ≡ get_or xs i o → classes ≡ f o → AreClassesOn h (get_or words i []) classes
classes_read f h words xs i o classes all lt is read =
    let l : length (map f xs) ≡ length words = all.long in
    let lx : i < length xs = omega (arith, l, length-map xs f, lt) in
    let value : get_or (map f xs) i [] ≡ classes = get_or-map f xs i o [] lx ∙ (ap f (sym is) ∙ sym read) in
    subst (AreClassesOn h (get_or words i [])) value (all.each i (omega (arith, l, lt)))

-- one more of the words with these numbers
pub chosen_more : (words : List (List ℕ)) (numbers : List ℕ) (i : ℕ) (copies more : List (List ℕ)) (w : List ℕ)
    → i < length numbers → copies ≡ chosen words (take i numbers) → slice_get words (get_or numbers i 0) ≡ Some w → more ≡ copies ++ w ∷ [] → more ≡ chosen words (take (i + 1) numbers)
chosen_more words numbers i copies more w lt is read pushed =
    let at : get_or words (get_or numbers i 0) [] ≡ w = get_or_from_slice_get words (get_or numbers i 0) w [] read in
    pushed
    ∙ (ap₂ (λ (ws : List (List ℕ)) (v : List ℕ). ws ++ v ∷ []) is (sym at)
    ∙ sym (ap (chosen words) (take_more numbers i 0 lt) ∙ map-append (λ (n : ℕ). get_or words n []) (take i numbers) (get_or numbers i 0 ∷ [])))
