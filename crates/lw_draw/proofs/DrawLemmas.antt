-- Generators from number to number, and the words that are drawn.
use Rattle.std.proofs.Common.{◌≡◌, ℕ, zero, suc, ◌+◌, ◌*◌, ◌%◌, ◌<◌, ◌≤◌, List, [], ◌∷◌, ◌++◌, length, get_or, refl, ap, ap₂, sym, ◌∙◌, subst, arith, append-nil, append_assoc}
use Rattle.std.specs.List.{All, range_with_len}
use Rattle.std.proofs.Math.Nat.{mod-lt}
use Rattle.std.proofs.lemmas.List.{length-map, get_or-map}
use Rattle.std.proofs.lemmas.List.FromFn.{length-range_with_len, map-range_with_len_more}
use Rattle.std.proofs.lemmas.List.Elements.{All-from_get_or}
use Rattle.rand_pcg.specs.Lcg.{Lcg, next, next_state, state_after}
use Rattle.rand_pcg.specs.Pcg.{multiplier_128, pcg64}
use Rattle.lw_words.specs.Word.{IsWord}
use Rattle.lw_draw.specs.Drawn.{seeded, after_draws, draw_at, drawn_word, drawn_words}

-- steps one after the other
state_then : (w m p i k s : ℕ) → state_after w m p (i + k) s ≡ state_after w m p k (state_after w m p i s)
unfolding state_after
state_then w m p zero k s = let none : zero + k ≡ k = omega arith in ap (λ (n : ℕ). state_after w m p n s) none
state_then w m p (suc i) k s =
    let one : suc i + k ≡ suc (i + k) = omega arith in
    ap (λ (n : ℕ). state_after w m p n s) one ∙ state_then w m p i k (next_state w m p s)

pub draws_then : (g : Lcg) (i k : ℕ) → after_draws (after_draws g i) k ≡ after_draws g (i + k)
draws_then g i k = ap (λ (s : ℕ). record (g) { state = s }) (sym (state_then 128 multiplier_128 g.increment i k g.state))

-- the number behind those that were drawn
pub draw_then : (g : Lcg) (i k : ℕ) → draw_at (after_draws g i) k ≡ draw_at g (i + k)
draw_then g i k = ap (λ (h : Lcg). (pcg64 h).0) (draws_then g i k)

no_draw : (g : Lcg) → after_draws g 0 ≡ g
unfolding state_after
no_draw g = refl

single_draw : (g : Lcg) → after_draws g 1 ≡ next 128 multiplier_128 g
unfolding state_after
single_draw g = refl

-- one number
pub one_draw : (g h : Lcg) (x : ℕ) → ◌≡◌ {A = ℕ × Lcg} (x, h) (pcg64 g) → (x ≡ draw_at g 0) × (h ≡ after_draws g 1)
one_draw g h x is = (
  ap (λ (r : ℕ × Lcg). r.0) is ∙ ap (λ (k : Lcg). (pcg64 k).0) (sym (no_draw g)),
  ap (λ (r : ℕ × Lcg). r.1) is ∙ sym (single_draw g),
)

pub none_yet : (g : Lcg) (i : ℕ) → i ≡ 0 → g ≡ after_draws g i
none_yet g i none = sym (no_draw g) ∙ ap (after_draws g) (sym none)

-- numbers behind those that were drawn
pub draws_more : (g random now : Lcg) (k m n : ℕ) → k + m ≡ n → random ≡ after_draws g k → now ≡ after_draws random m → now ≡ after_draws g n
draws_more g random now k m n sum at is = is ∙ (ap (λ (h : Lcg). after_draws h m) at ∙ (draws_then g k m ∙ ap (after_draws g) sum))

-- one letter more
letter_more : (g random : Lcg) (a k letter : ℕ) (word now : List ℕ) → random ≡ after_draws g k → word ≡ drawn_word a k g → letter ≡ draw_at random 0 % a → now ≡ word ++ letter ∷ [] → now ≡ drawn_word a (k + 1) g
letter_more g random a k letter word now at was is grown =
    let none : k + 0 ≡ k = omega arith in
    let here : draw_at random 0 ≡ draw_at g k = ap (λ (h : Lcg). draw_at h 0) at ∙ (ap (λ (h : Lcg). (pcg64 h).0) (draws_then g k 0) ∙ ap (draw_at g) none) in
    grown ∙ (ap₂ (λ (l : List ℕ) (x : ℕ). l ++ x ∷ []) was (is ∙ ap (λ (w : ℕ). w % a) here) ∙ sym (map-range_with_len_more (λ i. draw_at g i % a) 0 k k (omega arith)))

-- one letter more behind others
pub letter_behind : (g random : Lcg) (a k letter : ℕ) (before word now : List ℕ) → random ≡ after_draws g k → word ≡ before ++ drawn_word a k g → letter ≡ draw_at random 0 % a → now ≡ word ++ letter ∷ [] → now ≡ before ++ drawn_word a (k + 1) g
letter_behind g random a k letter before word now at was is grown =
    grown
    ∙ (ap (λ (l : List ℕ). l ++ letter ∷ []) was
    ∙ (append_assoc before (drawn_word a k g) (letter ∷ [])
    ∙ ap (λ (l : List ℕ). before ++ l) (letter_more g random a k letter (drawn_word a k g) (drawn_word a k g ++ letter ∷ []) at refl is refl)))

-- no letter yet
pub no_letter : (a : ℕ) (g : Lcg) (before : List ℕ) → before ≡ before ++ drawn_word a 0 g
no_letter a g before = sym (append-nil before)

-- one word more
word_more : (random : Lcg) (a n seed k : ℕ) (word : List ℕ) (words now : List (List ℕ)) → random ≡ after_draws (seeded seed) (k * n) → words ≡ drawn_words a k n seed → word ≡ drawn_word a n random → now ≡ words ++ word ∷ [] → now ≡ drawn_words a (k + 1) n seed
word_more random a n seed k word words now at was is grown =
    grown ∙ (ap₂ (λ (l : List (List ℕ)) (w : List ℕ). l ++ w ∷ []) was (is ∙ ap (drawn_word a n) at) ∙ sym (map-range_with_len_more (λ k. drawn_word a n (after_draws (seeded seed) (k * n))) 0 k k (omega arith)))

-- no word yet, and one more, behind others
pub no_word : (a n seed : ℕ) (before : List (List ℕ)) → before ≡ before ++ drawn_words a 0 n seed
no_word a n seed before = sym (append-nil before)

pub word_behind : (random : Lcg) (a n seed k : ℕ) (word : List ℕ) (before words now : List (List ℕ)) → random ≡ after_draws (seeded seed) (k * n) → words ≡ before ++ drawn_words a k n seed → word ≡ drawn_word a n random → now ≡ words ++ word ∷ [] → now ≡ before ++ drawn_words a (k + 1) n seed
word_behind random a n seed k word before words now at was is grown =
    grown
    ∙ (ap (λ (l : List (List ℕ)). l ++ word ∷ []) was
    ∙ (append_assoc before (drawn_words a k n seed) (word ∷ [])
    ∙ ap (λ (l : List (List ℕ)). before ++ l) (word_more random a n seed k word (drawn_words a k n seed) (drawn_words a k n seed ++ word ∷ []) at refl is refl)))

-- what was drawn has the lengths that it is to have, and letters below the number of inputs
length-drawn_word : (a n : ℕ) (g : Lcg) → length (drawn_word a n g) ≡ n
length-drawn_word a n g = length-map (range_with_len 0 n) (λ i. draw_at g i % a) ∙ length-range_with_len 0 n

pub drawn_below : (a n : ℕ) (g : Lcg) → 1 ≤ a → IsWord a (drawn_word a n g)
drawn_below a n g some = All-from_get_or (λ x. x < a) (drawn_word a n g) 0 (λ k lt.
    let letter : ℕ = get_or (range_with_len 0 n) k 0 in
    let is : get_or (drawn_word a n g) k 0 ≡ draw_at g letter % a = get_or-map (λ i. draw_at g i % a) (range_with_len 0 n) k 0 0 (omega (arith, lt, length-drawn_word a n g, length-range_with_len 0 n)) in
    subst (λ (x : ℕ). x < a) (sym is) (mod-lt (draw_at g letter) {m = a} (omega (arith, some))))

module _ (a count n seed : ℕ) where
  pub length-drawn_words : length (drawn_words a count n seed) ≡ count
  length-drawn_words = length-map (range_with_len 0 count) (λ k. drawn_word a n (after_draws (seeded seed) (k * n))) ∙ length-range_with_len 0 count

  each_drawn : (P : List ℕ → Type 0) → ((g : Lcg) → P (drawn_word a n g)) → All P (drawn_words a count n seed)
  each_drawn P holds = All-from_get_or P (drawn_words a count n seed) [] (λ k lt.
      let number : ℕ = get_or (range_with_len 0 count) k 0 in
      let is : get_or (drawn_words a count n seed) k [] ≡ drawn_word a n (after_draws (seeded seed) (number * n)) =
      get_or-map (λ k. drawn_word a n (after_draws (seeded seed) (k * n))) (range_with_len 0 count) k 0 [] (omega (arith, lt, length-drawn_words, length-range_with_len 0 count)) in
      subst P (sym is) (holds (after_draws (seeded seed) (number * n))))

  pub drawn_long : All (λ w. length w ≡ n) (drawn_words a count n seed)
  drawn_long = each_drawn (λ w. length w ≡ n) (length-drawn_word a n)

  pub drawn_are_words : 1 ≤ a → All (IsWord a) (drawn_words a count n seed)
  drawn_are_words some = each_drawn (IsWord a) (λ g. drawn_below a n g some)
