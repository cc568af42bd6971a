-- Renamed machines: where words lead, what comes out, and what follows of states.
use Rattle.std.proofs.Common.{◌≡◌, ◌≢◌, ℕ, zero, suc, ◌<◌, List, [], ◌∷◌, length, get_or, map, refl, ap, ap₂, sym, ◌∙◌, subst, arith}
use Rattle.std.specs.List.{All}
use Rattle.std.proofs.lemmas.List.{length-map}
use Rattle.std.proofs.lemmas.List.Elements.{All-head, All-tail, All-map}
use Rattle.lw_words.specs.Word.{Answer, AreAnswers, IsWord}
use Rattle.lw_mealy.specs.Machine.{Row, Rows, IsMachine, row, next, output, after, out, answer, Gives, Equal, Reached, IsMinimal}
use Rattle.lw_mealy.proofs.RowLemmas.{is_row, target_below}
use Rattle.lw_renumber.specs.Renaming.{Renames, renamed_cell, renamed_row, renamed_rows, renamed_answer, renamed_answers}

-- taken back, and taken back again
pub turned : (f g : ℕ → ℕ) → Renames f g → Renames g f
turned f g r = record { back = r.forth; forth = r.back }

pub taken_back : (f g : ℕ → ℕ) → Renames f g → (o : List ℕ) → map g (map f o) ≡ o
taken_back f g r [] = refl
taken_back f g r (y ∷ o) = ap₂ (λ (x : ℕ) (p : List ℕ). x ∷ p) (r.back y) (taken_back f g r o)

pub told_apart : (f g : ℕ → ℕ) → Renames f g → (o p : List ℕ) → map f o ≡ map f p → o ≡ p
told_apart f g r o p e = sym (taken_back f g r o) ∙ (ap (map g) e ∙ taken_back f g r p)

pub cells_back : (f g : ℕ → ℕ) → Renames f g → (r : Row) → renamed_row g (renamed_row f r) ≡ r
cells_back f g r [] = refl
cells_back f g r (c ∷ cs) = ap₂ (λ (x : ℕ × ℕ) (p : Row). x ∷ p) (ap (λ (y : ℕ). (c.0, y)) (r.back c.1)) (cells_back f g r cs)

pub rows_back : (f g : ℕ → ℕ) → Renames f g → (m : Rows) → renamed_rows g (renamed_rows f m) ≡ m
rows_back f g r [] = refl
rows_back f g r (c ∷ cs) = ap₂ (λ (x : Row) (p : Rows). x ∷ p) (cells_back f g r c) (rows_back f g r cs)

pub answers_back : (f g : ℕ → ℕ) → Renames f g → (ks : List Answer) → renamed_answers g (renamed_answers f ks) ≡ ks
answers_back f g r [] = refl
answers_back f g r (k ∷ ks) =
    ap₂ (λ (x : Answer) (p : List Answer). x ∷ p) (ap (λ (o : List ℕ). record { word = k.word; outs = o }) (taken_back f g r k.outs)) (answers_back f g r ks)

-- the row of a state, also past the end
row_is : (f : ℕ → ℕ) (m : Rows) (q : ℕ) → row (renamed_rows f m) q ≡ renamed_row f (row m q)
row_is f [] q = refl
row_is f (r ∷ m) zero = refl
row_is f (r ∷ m) (suc q) = row_is f m q

target_is : (f : ℕ → ℕ) (r : Row) (x : ℕ) → (get_or (renamed_row f r) x (0, 0)).0 ≡ (get_or r x (0, 0)).0
target_is f [] x = refl
target_is f (c ∷ r) zero = refl
target_is f (c ∷ r) (suc x) = target_is f r x

output_in : (f : ℕ → ℕ) (r : Row) (x : ℕ) → x < length r → (get_or (renamed_row f r) x (0, 0)).1 ≡ f (get_or r x (0, 0)).1
output_in f [] x lt = absurd (omega arith)
output_in f (c ∷ r) zero lt = refl
output_in f (c ∷ r) (suc x) lt = output_in f r x (omega arith)

pub next_is : (f : ℕ → ℕ) (m : Rows) (q x : ℕ) → next (renamed_rows f m) q x ≡ next m q x
next_is f m q x = ap (λ (r : Row). (get_or r x (0, 0)).0) (row_is f m q) ∙ target_is f (row m q) x

pub output_is : (f : ℕ → ℕ) (a : ℕ) (m : Rows) (q x : ℕ) → IsMachine a m → q < length m → x < a → output (renamed_rows f m) q x ≡ f (output m q x)
output_is f a m q x machine lt le =
    let long = (is_row a m q machine lt).0 in
    ap (λ (r : Row). (get_or r x (0, 0)).1) (row_is f m q) ∙ output_in f (row m q) x (rw long le)

pub after_is : (f : ℕ → ℕ) (m : Rows) (q : ℕ) (w : List ℕ) → after (renamed_rows f m) q w ≡ after m q w
after_is f m q [] = refl
after_is f m q (x ∷ w) = ap (λ (p : ℕ). after (renamed_rows f m) p w) (next_is f m q x) ∙ after_is f m (next m q x) w

pub out_is : (f : ℕ → ℕ) (a : ℕ) (m : Rows) (q : ℕ) (w : List ℕ) → IsMachine a m → q < length m → IsWord a w → out (renamed_rows f m) q w ≡ map f (out m q w)
out_is f a m q [] machine lt word = refl
out_is f a m q (x ∷ w) machine lt word =
    let le : x < a = All-head (λ y. y < a) x w word in
    ap₂ (λ (y : ℕ) (o : List ℕ). y ∷ o) (output_is f a m q x machine lt le)
    (ap (λ (p : ℕ). out (renamed_rows f m) p w) (next_is f m q x)
    ∙ out_is f a m (next m q x) w machine (target_below a m q x machine lt le) (All-tail (λ y. y < a) x w word))

pub answer_is : (f : ℕ → ℕ) (a : ℕ) (m : Rows) (w : List ℕ) → IsMachine a m → IsWord a w → answer (renamed_rows f m) w ≡ map f (answer m w)
answer_is f a m w machine word = out_is f a m 0 w machine machine.some_state word

pub states_same : (f : ℕ → ℕ) (m : Rows) → length (renamed_rows f m) ≡ length m
states_same f m = length-map m (renamed_row f)

pub is_machine : (f : ℕ → ℕ) (a : ℕ) (m : Rows) → IsMachine a m → IsMachine a (renamed_rows f m)
is_machine f a m machine =
    let n = states_same f m in
    record {
      some_state = rw n machine.some_state;
      complete = All-map (λ r. (length r ≡ a) × All (λ c. c.0 < length (renamed_rows f m)) r) (renamed_row f) m (λ q d lt.
          let r = machine.complete q d lt in (
            length-map (get_or m q d) (renamed_cell f) ∙ r.0,
            All-map (λ c. c.0 < length (renamed_rows f m)) (renamed_cell f) (get_or m q d) (λ x e le. rw n (r.1 x e le)),
          ));
    }

pub gives_too : (f : ℕ → ℕ) (a : ℕ) (m : Rows) (ks : List Answer) → IsMachine a m → AreAnswers a ks → Gives m ks → Gives (renamed_rows f m) (renamed_answers f ks)
gives_too f a m ks machine are gives =
    All-map (λ k. answer (renamed_rows f m) k.word ≡ k.outs) (renamed_answer f) ks (λ i d lt.
    answer_is f a m (get_or ks i d).word machine (are i d lt).0 ∙ ap (map f) (gives i d lt))

pub answers_too : (f : ℕ → ℕ) (a : ℕ) (ks : List Answer) → AreAnswers a ks → AreAnswers a (renamed_answers f ks)
answers_too f a ks are =
    All-map (λ k. IsWord a k.word × (length k.outs ≡ length k.word)) (renamed_answer f) ks (λ i d lt.
    ((are i d lt).0, length-map (get_or ks i d).outs f ∙ (are i d lt).1))

pub equal_too : (f : ℕ → ℕ) (a : ℕ) (m n : Rows) → IsMachine a m → IsMachine a n → Equal a m n → Equal a (renamed_rows f m) (renamed_rows f n)
equal_too f a m n one other same w word =
    answer_is f a m w one word ∙ (ap (map f) (same w word) ∙ sym (answer_is f a n w other word))

pub reached_too : (f : ℕ → ℕ) (a : ℕ) (m : Rows) (q : ℕ) → Reached a m q → Reached a (renamed_rows f m) q
reached_too f a m q r = (r.0, r.1, after_is f m 0 r.0 ∙ r.2)

-- outputs of two states that differ do so renamed, and no others do
pub differ_too : (f g : ℕ → ℕ) (a : ℕ) (m : Rows) (p q : ℕ) (w : List ℕ) → Renames f g → IsMachine a m → p < length m → q < length m → IsWord a w
    → out m p w ≢ out m q w → out (renamed_rows f m) p w ≢ out (renamed_rows f m) q w
differ_too f g a m p q w r machine lp lq word other same =
    other (told_apart f g r (out m p w) (out m q w) (sym (out_is f a m p w machine lp word) ∙ (same ∙ out_is f a m q w machine lq word)))

pub agree_too : (f : ℕ → ℕ) (a : ℕ) (m : Rows) (p q : ℕ) (w : List ℕ) → IsMachine a m → p < length m → q < length m → IsWord a w
    → out m p w ≡ out m q w → out (renamed_rows f m) p w ≡ out (renamed_rows f m) q w
agree_too f a m p q w machine lp lq word same =
    out_is f a m p w machine lp word ∙ (ap (map f) same ∙ sym (out_is f a m q w machine lq word))

pub minimal_too : (f g : ℕ → ℕ) (a : ℕ) (m : Rows) → Renames f g → IsMachine a m → IsMinimal a m → IsMinimal a (renamed_rows f m)
minimal_too f g a m r machine minimal =
    let n = states_same f m in
    record {
      reached = λ q lt. reached_too f a m q (minimal.reached q (subst (λ (s : ℕ). q < s) n lt));
      apart = λ p q lt lq.
          let le : q < length m = subst (λ (s : ℕ). q < s) n lq in
          let d = minimal.apart p q lt le in
          (d.0, d.1, differ_too f g a m p q d.0 r machine (omega arith) le d.1 d.2);
    }
