-- The machine over the pairs of states of two models, and what it says of both.
use Rattle.std.proofs.Common.{◌≡◌, ℕ, zero, suc, ◌+◌, ◌*◌, ◌/◌, ◌%◌, ◌<◌, ◌≤◌, List, [], ◌∷◌, ◌++◌, length, map, get_or, Option, Some, None, unwrap_or, refl, ap, ap₂, sym, ◌∙◌, subst, arith, length-append}
use Rattle.std.specs.List.{All, range_with_len}
use Rattle.std.proofs.lemmas.List.{length-map, get_or-map, map-append}
use Rattle.std.proofs.lemmas.List.Elements.{All-head, All-tail, All-map}
use Rattle.std.proofs.lemmas.List.FromFn.{length-range_with_len, get_or-range_with_len, length-map-range_with_len, get_or-map-range_with_len}
use Rattle.std.proofs.lemmas.Nat.{div-mul-add, mod-mul-add, div-add-mod'}
use Rattle.std.proofs.Math.Nat.{mod-lt, div-lt_iff_lt-mul, mul-le-mul_right}
use Rattle.lw_words.specs.Word.{IsWord, number_of, number_in, named}
use Rattle.lw_mealy.specs.Machine.{Row, Rows, IsMachine, row, cell, next, output, after, out, answer}
use Rattle.lw_mealy.proofs.RowLemmas.{target_below}
use Rattle.lw_mealy.proofs.WordLemmas.{after-append, out-append, after_below}
use Rattle.lw_json.specs.declared.files.Machine.{Machine}
use Rattle.lw_compare.specs.Comparing.{ModelsAgreeOn, reply, second_reply, translated}
use Rattle.lw_compare.specs.bodies.Joint.{AgreeAt, joint, joint_next, joint_row, letter_in}

-- a pair is numbered within all pairs
pub pair_below : (p q n b : ℕ) → p < n → q < b → p * b + q < n * b
pair_below p q n b lp lq = let le : p + 1 ≤ n = omega arith in let m = mul-le-mul_right b le in omega arith

pub of_pair : (n b k : ℕ) → k < n * b → 0 < b → (k / b < n) × (k % b < b)
of_pair n b k lt some = ((div-lt_iff_lt-mul some).1 lt, mod-lt k some)

-- what holds of each of some numbers holds of each element of their list
range_all : {X : Type 0} (P : X → Type 0) (f : ℕ → X) (n : ℕ) → ((k : ℕ) → k < n → P (f k)) → All P (map f (range_with_len 0 n))
range_all {X} P f n each i d lt =
    let lt' : i < n = rw length-map-range_with_len at lt in
    subst P (sym (get_or-map-range_with_len f 0 n i i d lt' (omega arith))) (each i lt')

module _ (m n : Machine) (one : IsMachine m.mealy.inputs m.mealy.rows) (two : IsMachine n.mealy.inputs n.mealy.rows)
    (letters : (x : ℕ) → x < m.mealy.inputs → letter_in m n x < n.mealy.inputs) where
  abbrev b : ℕ
  b = length n.mealy.rows

  pub joint_below : (k x : ℕ) → k < length m.mealy.rows * b → x < m.mealy.inputs → joint_next m n k x < length m.mealy.rows * b
  joint_below k x lt lx =
      let at = of_pair (length m.mealy.rows) b k lt two.some_state in
      pair_below (next m.mealy.rows (k / b) x) (next n.mealy.rows (k % b) (letter_in m n x)) (length m.mealy.rows) b
      (target_below m.mealy.inputs m.mealy.rows (k / b) x one at.0 lx)
      (target_below n.mealy.inputs n.mealy.rows (k % b) (letter_in m n x) two at.1 (letters x lx))

  pub length-joint : length (joint m n) ≡ length m.mealy.rows * b
  length-joint = length-map-range_with_len (joint_row m n) 0 (length m.mealy.rows * b)

  pub cell-joint : (k x : ℕ) → k < length m.mealy.rows * b → x < m.mealy.inputs → cell (joint m n) k x ≡ (joint_next m n k x, 0)
  cell-joint k x lt lx =
      ap (λ (r : Row). get_or r x (0, 0)) (get_or-map-range_with_len (joint_row m n) 0 (length m.mealy.rows * b) k k [] lt (omega arith))
      ∙ get_or-map-range_with_len (λ y. (joint_next m n k y, 0)) 0 m.mealy.inputs x x (0, 0) lx (omega arith)

  pub next-joint : (k x : ℕ) → k < length m.mealy.rows * b → x < m.mealy.inputs → next (joint m n) k x ≡ joint_next m n k x
  next-joint k x lt lx = ap (λ (c : ℕ × ℕ). c.0) (cell-joint k x lt lx)

  some_pair : 0 < length m.mealy.rows * b
  some_pair = let r = pair_below 0 0 (length m.mealy.rows) b one.some_state two.some_state in omega arith

  pub joint_machine : IsMachine m.mealy.inputs (joint m n)
  joint_machine = record {
    some_state = rw length-joint some_pair;
    complete = range_all (λ r. (length r ≡ m.mealy.inputs) × All (λ c. c.0 < length (joint m n)) r) (joint_row m n) (length m.mealy.rows * b)
        (λ k lt. (
          length-map-range_with_len (λ y. (joint_next m n k y, 0)) 0 m.mealy.inputs,
          range_all (λ c. c.0 < length (joint m n)) (λ y. (joint_next m n k y, 0)) m.mealy.inputs (λ x lx. subst (λ (l : ℕ). joint_next m n k x < l) (sym length-joint) (joint_below k x lt lx)),
        ));
  }

  -- the states of both models after a word
  pub after-joint : (w : List ℕ) (k : ℕ) → k < length m.mealy.rows * b → IsWord m.mealy.inputs w
      → (after (joint m n) k w / b ≡ after m.mealy.rows (k / b) w) × (after (joint m n) k w % b ≡ after n.mealy.rows (k % b) (translated m.inputs n.inputs w))
  after-joint [] k lt letters' = (refl, refl)
  after-joint (x ∷ w) k lt letters' =
      let lx = All-head (λ y. y < m.mealy.inputs) x w letters' in
      let at = of_pair (length m.mealy.rows) b k lt two.some_state in
      let q' = target_below n.mealy.inputs n.mealy.rows (k % b) (letter_in m n x) two at.1 (letters x lx) in
      let r = after-joint w (joint_next m n k x) (joint_below k x lt lx) (All-tail (λ y. y < m.mealy.inputs) x w letters') in
      let step = next-joint k x lt lx in
      let first : joint_next m n k x / b ≡ next m.mealy.rows (k / b) x = div-mul-add (next m.mealy.rows (k / b) x) b (next n.mealy.rows (k % b) (letter_in m n x)) q' in
      let second : joint_next m n k x % b ≡ next n.mealy.rows (k % b) (letter_in m n x) = mod-mul-add (next m.mealy.rows (k / b) x) b (next n.mealy.rows (k % b) (letter_in m n x)) q' in (
        ap (λ (t : ℕ). after (joint m n) t w / b) step ∙ (r.0 ∙ ap (λ (p : ℕ). after m.mealy.rows p w) first),
        ap (λ (t : ℕ). after (joint m n) t w % b) step ∙ (r.1 ∙ ap (λ (q : ℕ). after n.mealy.rows q (translated m.inputs n.inputs w)) second),
      )

  -- the outputs on a word with a letter more
  reply-push : (w : List ℕ) (x : ℕ) → reply m (w ++ x ∷ []) ≡ reply m w ++ get_or m.outputs (output m.mealy.rows (after m.mealy.rows 0 w) x) [] ∷ []
  reply-push w x = ap (named m.outputs) (out-append m.mealy.rows 0 w (x ∷ [])) ∙ map-append (λ y. get_or m.outputs y []) (answer m.mealy.rows w) (output m.mealy.rows (after m.mealy.rows 0 w) x ∷ [])

  second-push : (w : List ℕ) (x : ℕ) → second_reply m n (w ++ x ∷ []) ≡ second_reply m n w ++ get_or n.outputs (output n.mealy.rows (after n.mealy.rows 0 (translated m.inputs n.inputs w)) (letter_in m n x)) [] ∷ []
  second-push w x =
      ap (λ (v : List ℕ). reply n v) (map-append (letter_in m n) w (x ∷ []))
      ∙ (ap (named n.outputs) (out-append n.mealy.rows 0 (translated m.inputs n.inputs w) (letter_in m n x ∷ []))
      ∙ map-append (λ y. get_or n.outputs y []) (answer n.mealy.rows (translated m.inputs n.inputs w)) (output n.mealy.rows (after n.mealy.rows 0 (translated m.inputs n.inputs w)) (letter_in m n x) ∷ []))

  -- the pair after a word from the initial states
  abbrev pair : List ℕ → ℕ
  pair w = after (joint m n) 0 w

  pair_parts : (w : List ℕ) → IsWord m.mealy.inputs w → (pair w / b ≡ after m.mealy.rows 0 w) × (pair w % b ≡ after n.mealy.rows 0 (translated m.inputs n.inputs w))
  pair_parts w letters' =
      let r = after-joint w 0 some_pair letters' in
      let none : 0 ≡ 0 * b + 0 = omega arith in
      let zero_div : 0 / b ≡ 0 = ap (λ (k : ℕ). k / b) none ∙ div-mul-add 0 b 0 two.some_state in
      let zero_mod : 0 % b ≡ 0 = ap (λ (k : ℕ). k % b) none ∙ mod-mul-add 0 b 0 two.some_state in
      (r.0 ∙ ap (λ (p : ℕ). after m.mealy.rows p w) zero_div, r.1 ∙ ap (λ (q : ℕ). after n.mealy.rows q (translated m.inputs n.inputs w)) zero_mod)

  names_at : (w : List ℕ) (x : ℕ) → IsWord m.mealy.inputs w → AgreeAt m n (pair w) x
      → get_or m.outputs (output m.mealy.rows (after m.mealy.rows 0 w) x) [] ≡ get_or n.outputs (output n.mealy.rows (after n.mealy.rows 0 (translated m.inputs n.inputs w)) (letter_in m n x)) []
  names_at w x letters' at =
      let p = pair_parts w letters' in
      ap (λ (q : ℕ). get_or m.outputs (output m.mealy.rows q x) []) (sym p.0) ∙ (at ∙ ap (λ (q : ℕ). get_or n.outputs (output n.mealy.rows q (letter_in m n x)) []) p.1)

  -- they agree on a word and a letter where they agree on the word, and on the letter behind it
  pub agree_on_push : (w : List ℕ) (x : ℕ) → IsWord m.mealy.inputs w → ModelsAgreeOn m n w → AgreeAt m n (pair w) x → ModelsAgreeOn m n (w ++ x ∷ [])
  agree_on_push w x letters' on at = reply-push w x ∙ (ap₂ (λ (u : List (List ℕ)) (y : List ℕ). u ++ y ∷ []) on (names_at w x letters' at) ∙ sym (second-push w x))

  pub agree_at_last : (w : List ℕ) (x : ℕ) → IsWord m.mealy.inputs w → ModelsAgreeOn m n (w ++ x ∷ []) → AgreeAt m n (pair w) x
  agree_at_last w x letters' on =
      let p = pair_parts w letters' in
      let same = sym (reply-push w x) ∙ (on ∙ second-push w x) in
      let names = last_same (reply m w) (second_reply m n w) (get_or m.outputs (output m.mealy.rows (after m.mealy.rows 0 w) x) []) (get_or n.outputs (output n.mealy.rows (after n.mealy.rows 0 (translated m.inputs n.inputs w)) (letter_in m n x)) []) same in
      ap (λ (q : ℕ). get_or m.outputs (output m.mealy.rows q x) []) p.0 ∙ (names ∙ ap (λ (q : ℕ). get_or n.outputs (output n.mealy.rows q (letter_in m n x)) []) (sym p.1))
    where
      last_same : (us vs : List (List ℕ)) (y z : List ℕ) → us ++ y ∷ [] ≡ vs ++ z ∷ [] → y ≡ z
      last_same [] [] y z e = cc
      last_same [] (v ∷ vs) y z e = absurd (omega (arith, ap (λ (l : List (List ℕ)). length l) e, length-append vs (z ∷ [])))
      last_same (u ∷ us) [] y z e = absurd (omega (arith, ap (λ (l : List (List ℕ)). length l) e, length-append us (y ∷ [])))
      last_same (u ∷ us) (v ∷ vs) y z e = last_same us vs y z (cc)
