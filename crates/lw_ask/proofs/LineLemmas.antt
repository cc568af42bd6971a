-- Lines of answers, and the bytes that a stream takes one after the other.
use Rattle.std.proofs.Common.{◌≡◌, ◌∙◌, ℕ, ◌<◌, List, [], ◌∷◌, ◌++◌, length, get_or, codes, Option, Some, None, option_map, refl, ap, sym, append_assoc, append-nil}
use Rattle.std.specs.List.{All, flat_map, join_by}
use Rattle.std.proofs.lemmas.Grind.{flat_map-append}
use Rattle.std.proofs.lemmas.List.Elements.{All-head, All-tail}
use Rattle.lw_words.specs.declared.kept.KeptAnswer.{KeptAnswer}
use Rattle.lw_outside.specs.Streams.{TakesAll}
use Rattle.lw_words.specs.Word.{name_at}
use Rattle.lw_names.proofs.NameLemmas.{name_at-grown}
use Rattle.lw_ask.specs.Lines.{answer_line, answer_lines}

pub takes_none : (taken : Option (List ℕ)) → TakesAll [] taken taken
takes_none None = refl
takes_none (Some t) = ap (λ (l : List ℕ). Some l) (sym (append-nil t))

pub takes_then : (a b : List ℕ) (first second third : Option (List ℕ)) → TakesAll a first second → TakesAll b second third → TakesAll (a ++ b) first third
takes_then a b None second third one two = two ∙ ap (option_map (λ t. t ++ b)) one
takes_then a b (Some t) second third one two = two ∙ (ap (option_map (λ l. l ++ b)) one ∙ ap (λ (l : List ℕ). Some l) (append_assoc t a b))

same_flat : {X : Type 0} (f g : X → List ℕ) (xs : List X) → All (λ x. f x ≡ g x) xs → flat_map f xs ≡ flat_map g xs
same_flat f g [] all = refl
same_flat f g (x ∷ xs) all = rw (All-head (λ x. f x ≡ g x) x xs all, same_flat f g xs (All-tail (λ x. f x ≡ g x) x xs all)) refl

same_joined : (f g : ℕ → List ℕ) (xs : List ℕ) → All (λ x. f x ≡ g x) xs → join_by f (codes " ") xs ≡ join_by g (codes " ") xs
same_joined f g [] all = refl
same_joined f g (x ∷ xs) all =
    let rest = All-tail (λ x. f x ≡ g x) x xs all in
    rw (All-head (λ x. f x ≡ g x) x xs all, same_flat (λ y. codes " " ++ f y) (λ y. codes " " ++ g y) xs (λ i d lt. ap (λ (l : List ℕ). codes " " ++ l) (rest i d lt))) refl

-- a line stays where its outputs had names before more came
line_grown : (letters names more : List (List ℕ)) (k : KeptAnswer) → All (λ y. y < length names) k.outs → answer_line letters (names ++ more) k ≡ answer_line letters names k
line_grown letters names more k below =
    ap (λ (l : List ℕ). join_by (name_at letters) (codes " ") k.word ++ (codes " / " ++ (l ++ codes "\n")))
    (same_joined (name_at (names ++ more)) (name_at names) k.outs (λ i d lt. name_at-grown names more (get_or k.outs i d) (below i d lt)))

pub lines_grown : (letters names more : List (List ℕ)) (kept : List KeptAnswer) → All (λ k. All (λ y. y < length names) k.outs) kept → answer_lines letters (names ++ more) kept ≡ answer_lines letters names kept
lines_grown letters names more kept below =
    same_flat (answer_line letters (names ++ more)) (answer_line letters names) kept (λ i d lt. line_grown letters names more (get_or kept i d) (below i d lt))

-- one line more
pub lines_more : (letters names : List (List ℕ)) (kept : List KeptAnswer) (k : KeptAnswer) → answer_lines letters names (kept ++ k ∷ []) ≡ answer_lines letters names kept ++ answer_line letters names k
lines_more letters names kept k =
    flat_map-append (answer_line letters names) kept (k ∷ [])
    ∙ ap (λ (l : List ℕ). answer_lines letters names kept ++ l) (append-nil (answer_line letters names k))
