-- The words of a walk, read off its steps.
use Rattle.std.proofs.Common.{◌≡◌, ℕ, zero, suc, ◌+◌, ◌<◌, ◌≤◌, ◌-◌, ◌⊎◌, inl, inr, ⊎_elim, List, [], ◌∷◌, ◌++◌, length, get_or, reverse, append_assoc, refl, ap, sym, ◌∙◌, subst, arith, length-append}
use Rattle.std.proofs.lemmas.List.{get_or_append_left, get_or_default, reverse-append}
use Rattle.lw_separate.proofs.SearchLemmas.{last_or_before, length-push, at_end}
use Rattle.lw_compare.specs.declared.walk.Step.{Step}
use Rattle.lw_compare.specs.bodies.Walk.{AreBack, step_at, word_of, words_from, words_of}

-- one step more is one word more
words_from-push : (words : List (List ℕ)) (steps : List Step) (s : Step) → words_from words (steps ++ s ∷ []) ≡ words_from words steps ++ word_of (words_from words steps) s ∷ []
words_from-push words [] s = refl
words_from-push words (t ∷ steps) s = words_from-push (words ++ word_of words t ∷ []) steps s

pub words_of-push : (steps : List Step) (s : Step) → words_of (steps ++ s ∷ []) ≡ words_of steps ++ word_of (words_of steps) s ∷ []
words_of-push steps s = words_from-push ([] ∷ []) steps s

length-words_from : (words : List (List ℕ)) (steps : List Step) → length (words_from words steps) ≡ length words + length steps
length-words_from words [] = omega arith
length-words_from words (t ∷ steps) = omega (arith, length-words_from (words ++ word_of words t ∷ []) steps, length-push words (word_of words t))

pub length-words_of : (steps : List Step) → length (words_of steps) ≡ length steps + 1
length-words_of steps = omega (arith, length-words_from ([] ∷ []) steps)

-- the words that stand first stay
words_from-front : (words : List (List ℕ)) (steps : List Step) (k : ℕ) → k < length words → get_or (words_from words steps) k [] ≡ get_or words k []
words_from-front words [] k lt = refl
words_from-front words (t ∷ steps) k lt =
    words_from-front (words ++ word_of words t ∷ []) steps k (omega (arith, length-push words (word_of words t))) ∙ get_or_append_left words (word_of words t ∷ []) [] k lt

-- the word of a step is that of its parent, and the letter
word_from : (words : List (List ℕ)) (steps : List Step) (k : ℕ) → k < length steps → (step_at steps k).parent < length words + k
    → get_or (words_from words steps) (length words + k) [] ≡ get_or (words_from words steps) (step_at steps k).parent [] ++ (step_at steps k).letter ∷ []
word_from words [] k lt back = absurd (omega arith)
word_from words (t ∷ steps) zero lt back =
    let here : t.parent < length words = omega (arith, back) in
    let more : length words < length (words ++ word_of words t ∷ []) = omega (arith, length-push words (word_of words t)) in
    let at : length words + 0 ≡ length words = omega arith in
    ap (λ (i : ℕ). get_or (words_from (words ++ word_of words t ∷ []) steps) i []) at
    ∙ (words_from-front (words ++ word_of words t ∷ []) steps (length words) more
    ∙ (at_end words (word_of words t) [] (length words) refl
    ∙ ap (λ (u : List ℕ). u ++ t.letter ∷ []) (sym (words_from-front (words ++ word_of words t ∷ []) steps t.parent (omega arith) ∙ get_or_append_left words (word_of words t ∷ []) [] t.parent here))))
word_from words (t ∷ steps) (suc k) lt back =
    let long = length-push words (word_of words t) in
    let at : length words + suc k ≡ length (words ++ word_of words t ∷ []) + k = omega (arith, long) in
    ap (λ (i : ℕ). get_or (words_from (words ++ word_of words t ∷ []) steps) i []) at ∙ word_from (words ++ word_of words t ∷ []) steps k (omega arith) (omega (arith, long, back))

pub word_at : (steps : List Step) (k : ℕ) → k < length steps → (step_at steps k).parent ≤ k → get_or (words_of steps) (k + 1) [] ≡ get_or (words_of steps) (step_at steps k).parent [] ++ (step_at steps k).letter ∷ []
word_at steps k lt back =
    let at : k + 1 ≡ 1 + k = omega arith in
    ap (λ (i : ℕ). get_or (words_of steps) i []) at ∙ word_from ([] ∷ []) steps k lt (omega (arith, back))

pub first_word : (steps : List Step) → get_or (words_of steps) 0 [] ≡ []
first_word steps = words_from-front ([] ∷ []) steps 0 (omega arith)

-- one step back
pub read_back : (steps : List Step) (at : ℕ) (letters more whole : List ℕ) (s : Step) → AreBack steps → 0 < at → at ≤ length steps → s ≡ get_or steps (at - 1) s → more ≡ letters ++ s.letter ∷ []
    → get_or (words_of steps) at [] ++ reverse letters ≡ whole → (s.parent ≤ length steps) × (get_or (words_of steps) s.parent [] ++ reverse more ≡ whole)
read_back steps at letters more whole s back some within is pushed read =
    let lt : at - 1 < length steps = omega arith in
    let here : step_at steps (at - 1) ≡ s = sym (is ∙ get_or_default steps (at - 1) s (record { parent = 0; letter = 0 }) lt) in
    let parent : s.parent ≤ at - 1 = subst (λ (t : Step). t.parent ≤ at - 1) here (back (at - 1) lt) in
    let place : at - 1 + 1 ≡ at = omega arith in
    let word : get_or (words_of steps) at [] ≡ get_or (words_of steps) s.parent [] ++ s.letter ∷ [] =
    ap (λ (i : ℕ). get_or (words_of steps) i []) (sym place) ∙ (word_at steps (at - 1) lt (back (at - 1) lt) ∙ ap (λ (t : Step). get_or (words_of steps) t.parent [] ++ t.letter ∷ []) here) in
    let turned : reverse more ≡ s.letter ∷ reverse letters = ap (λ (l : List ℕ). reverse l) pushed ∙ reverse-append letters (s.letter ∷ []) in (
      omega arith,
      ap (λ (l : List ℕ). get_or (words_of steps) s.parent [] ++ l) turned ∙ (sym (append_assoc (get_or (words_of steps) s.parent []) (s.letter ∷ []) (reverse letters)) ∙ (ap (λ (l : List ℕ). l ++ reverse letters) (sym word) ∙ read)),
    )

-- the end of the way back
pub read_all : (steps : List Step) (at : ℕ) (letters turned whole : List ℕ) → at ≡ 0 → turned ≡ reverse letters → get_or (words_of steps) at [] ++ reverse letters ≡ whole → turned ≡ whole
read_all steps at letters turned whole none is read =
    let e : get_or (words_of steps) at [] ≡ [] = ap (λ (i : ℕ). get_or (words_of steps) i []) none ∙ first_word steps in
    is ∙ (ap (λ (l : List ℕ). l ++ reverse letters) (sym e) ∙ read)
