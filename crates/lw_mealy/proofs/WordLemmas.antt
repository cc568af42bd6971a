-- A word read letter by letter.
use Rattle.std.proofs.Common.{◌≡◌, ℕ, zero, suc, ◌+◌, ◌<◌, List, [], ◌∷◌, ◌++◌, length, get_or, take, drop, drop-cons, add-one, refl, ap, sym, ◌∙◌, arith, append_assoc, append-nil}
use Rattle.std.proofs.lemmas.List.Elements.{All-get_or, All-head, All-tail}
use Rattle.std.proofs.lemmas.List.{drop_all}
use Rattle.lw_words.specs.Word.{IsWord}
use Rattle.lw_mealy.specs.Machine.{Rows, IsMachine, after, next, output, out, answer, cell}
use Rattle.lw_mealy.proofs.RowLemmas.{target_below}

pub letter : (a : ℕ) (w : List ℕ) (i : ℕ) → i < length w → IsWord a w → get_or w i 0 < a
letter a w i lt is = All-get_or (λ x. x < a) w i 0 lt is

-- one letter more of a word
pub after-drop : (m : Rows) (q i : ℕ) (w : List ℕ) → i < length w → after m q (drop i w) ≡ after m (next m q (get_or w i 0)) (drop (i + 1) w)
after-drop m q i w lt = rw (add-one, drop-cons w i 0) refl

pub after-end : (m : Rows) (q : ℕ) (w : List ℕ) → after m q (drop (length w) w) ≡ q
after-end m q w = rw (drop_all (length w) w (omega arith)) refl

pub out-drop : (m : Rows) (q i : ℕ) (w : List ℕ) → i < length w → out m q (drop i w) ≡ output m q (get_or w i 0) ∷ out m (next m q (get_or w i 0)) (drop (i + 1) w)
out-drop m q i w lt = rw (add-one, drop-cons w i 0) refl

pub out-end : (m : Rows) (q : ℕ) (w : List ℕ) → out m q (drop (length w) w) ≡ []
out-end m q w = rw (drop_all (length w) w (omega arith)) refl

pub length-out : (m : Rows) (q : ℕ) (w : List ℕ) → length (out m q w) ≡ length w
length-out m q [] = refl
length-out m q (x ∷ w) = ap (λ n. suc n) (length-out m (next m q x) w)

-- the outputs so far and those to what is left are those to the whole word
pub outs_more : (m : Rows) (q i : ℕ) (done w whole : List ℕ) → i < length w → done ++ out m q (drop i w) ≡ whole → (done ++ output m q (get_or w i 0) ∷ []) ++ out m (next m q (get_or w i 0)) (drop (i + 1) w) ≡ whole
outs_more m q i done w whole lt h = rw append_assoc (ap (λ (t : List ℕ). done ++ t) (sym (out-drop m q i w lt)) ∙ h)

pub outs_end : (m : Rows) (q : ℕ) (done w whole : List ℕ) → done ++ out m q (drop (length w) w) ≡ whole → done ≡ whole
outs_end m q done w whole h = rw (out-end, append-nil) at h

pub ruleset word_steps = (letter, after-drop, after-end, outs_more, outs_end)

-- what a list has at a place where the rest of it is known
pub rest_at : (a rest : List ℕ) (i y : ℕ) → i < length a → drop i a ≡ y ∷ rest → (get_or a i 0 ≡ y) × (drop (i + 1) a ≡ rest)
rest_at a rest i y lt is =
    let e : drop i a ≡ get_or a i 0 ∷ drop (suc i) a = drop-cons a i 0 lt in
    (cc, rw add-one (cc))

-- the answer's output at a place, and what is left of it, from the state before
pub answer_at : (m : Rows) (w : List ℕ) (q i : ℕ) (c : ℕ × ℕ) → i < length w → c ≡ cell m q (get_or w i 0) → drop i (answer m w) ≡ out m q (drop i w)
    → (get_or (answer m w) i 0 ≡ c.1) × (drop (i + 1) (answer m w) ≡ out m c.0 (drop (i + 1) w))
answer_at m w q i c lt is left =
    let h = rest_at (answer m w) (out m (next m q (get_or w i 0)) (drop (i + 1) w)) i (output m q (get_or w i 0)) (rw (length-out m 0 w) lt) (left ∙ out-drop m q i w lt) in
    (h.0 ∙ ap (λ (d : ℕ × ℕ). d.1) (sym is), h.1 ∙ ap (λ (d : ℕ × ℕ). out m d.0 (drop (i + 1) w)) (sym is))

-- a word that grows at its end
pub after-append : (m : Rows) (q : ℕ) (u v : List ℕ) → after m q (u ++ v) ≡ after m (after m q u) v
after-append m q [] v = refl
after-append m q (x ∷ u) v = after-append m (next m q x) u v

pub out-append : (m : Rows) (q : ℕ) (u v : List ℕ) → out m q (u ++ v) ≡ out m q u ++ out m (after m q u) v
out-append m q [] v = refl
out-append m q (x ∷ u) v = ap (λ (o : List ℕ). output m q x ∷ o) (out-append m (next m q x) u v)

-- the outputs on the front of a word
pub out-take : (m : Rows) (q n : ℕ) (w : List ℕ) → out m q (take n w) ≡ take n (out m q w)
out-take m q zero w = refl
out-take m q (suc n) [] = refl
out-take m q (suc n) (x ∷ w) = ap (λ (o : List ℕ). output m q x ∷ o) (out-take m (next m q x) n w)

-- a word leads from a state to a state
pub after_below : (a : ℕ) (m : Rows) (w : List ℕ) (q : ℕ) → IsMachine a m → q < length m → IsWord a w → after m q w < length m
after_below a m [] q k lt letters = lt
after_below a m (x ∷ w) q k lt letters = after_below a m w (next m q x) k (target_below a m q x k lt (All-head (λ y. y < a) x w letters)) (All-tail (λ y. y < a) x w letters)
