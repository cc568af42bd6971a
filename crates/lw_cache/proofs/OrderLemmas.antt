-- The lengths of nodes' words, and how the words stand in shortlex order.
use Rattle.std.proofs.Common.{◌≡◌, ◌≢◌, ℕ, zero, suc, ◌+◌, ◌<◌, ◌≤◌, ⊎_elim, List, [], ◌∷◌, ◌++◌, length, get_or, reverse, nat_cmp, refl, ap, ap₂, sym, ◌∙◌, subst, arith, append_assoc}
use Rattle.std.proofs.lemmas.Bool.{cases_lt}
use Rattle.std.proofs.lemmas.Cmp.{tied_itself, nat_cmp_total, nat_list_cmp_total}
use Rattle.std.proofs.lemmas.List.{length_push, get_or_push, get_or_append_left, reverse-append}
use Rattle.std.specs.Cmp.Lexicographic.{slice_cmp}
use Rattle.std.specs.Ordering.{ordering_then}
use Rattle.std.specs.declared.cmp.Ordering.{Ordering}
use Rattle.std.specs.declared.cmp.Ordering.TheVariants.{Less, Equal, Greater}
use Rattle.lw_words.specs.Word.{shortlex_cmp}
use Rattle.lw_cache.specs.bodies.Trie.{spell, word_of, IsTrie}
use Rattle.lw_cache.specs.bodies.Upward.{AreLengths}
use Rattle.lw_cache.specs.declared.node.Node.{Node}
use Rattle.lw_cache.proofs.TrieLemmas.{word_step, word_long, some_word, not_root, root_only}

-- a word is no longer than its node's number
spelled_short : (at : ℕ → Node) (most i : ℕ) → length (spell at most i) ≤ most
spelled_short at zero i = omega arith
spelled_short at (suc most) zero = omega arith
spelled_short at (suc most) (suc i) =
    omega (arith, spelled_short at most (at (suc i)).parent, length_push (spell at most (at (suc i)).parent) (at (suc i)).letter)

pub word_short : (at : ℕ → Node) (i : ℕ) → length (word_of at i) ≤ i
word_short at i = spelled_short at i i

-- one more of them
pub lengths_more : (at : ℕ → Node) (n i : ℕ) (lengths now : List ℕ) (l : ℕ) → IsTrie at n → 0 < i → i < n → AreLengths at i lengths → now ≡ lengths ++ l ∷ [] → l ≡ get_or lengths (at i).parent 0 + 1 → AreLengths at (i + 1) now
lengths_more at n i lengths now l t pos lt was is above =
    let last : get_or now i 0 ≡ l = ap (λ (x : List ℕ). get_or x i 0) is ∙ get_or_push lengths l 0 i was.long in
    let old : (j : ℕ) → j < i → get_or now j 0 ≡ get_or lengths j 0 = λ j less. ap (λ (x : List ℕ). get_or x j 0) is ∙ get_or_append_left lengths (l ∷ []) 0 j (omega (arith, less, was.long)) in
    record {
      long = ap (λ (x : List ℕ). length x) is ∙ (length_push lengths l ∙ ap (λ (k : ℕ). k + 1) was.long);
      each = λ j less. ⊎_elim
          (λ (before : j < i). old j before ∙ was.each j before)
          (λ (from : i ≤ j).
          let same : j ≡ i = omega arith in
          subst (λ (k : ℕ). get_or now k 0 ≡ length (word_of at k)) (sym same)
          (omega (arith, last, above, was.each (at i).parent (t.up i pos lt), word_long at n t i pos lt)))
          (cases_lt j i);
    }

-- the last letters of words of one length decide where those before tie
then_assoc : (a b c : Ordering) → ordering_then (ordering_then a b) c ≡ ordering_then a (ordering_then b c)
then_assoc Less b c = refl
then_assoc Equal b c = refl
then_assoc Greater b c = refl

then_equal : (a : Ordering) → ordering_then a Equal ≡ a
then_equal Less = refl
then_equal Equal = refl
then_equal Greater = refl

pushed_cmp : (p q : List ℕ) (u v : ℕ) → length p ≡ length q → slice_cmp nat_cmp (p ++ u ∷ []) (q ++ v ∷ []) ≡ ordering_then (slice_cmp nat_cmp p q) (nat_cmp u v)
pushed_cmp [] [] u v e = then_equal (nat_cmp u v)
pushed_cmp [] (y ∷ q) u v e = absurd (omega (arith, e))
pushed_cmp (x ∷ p) [] u v e = absurd (omega (arith, e))
pushed_cmp (x ∷ p) (y ∷ q) u v e =
    ap (ordering_then (nat_cmp x y)) (pushed_cmp p q u v (omega (arith, e)))
    ∙ sym (then_assoc (nat_cmp x y) (slice_cmp nat_cmp p q) (nat_cmp u v))

-- two nodes on the way up from one and another: what their words and the order of the letters below come to
pub record IsComparedTo (at : ℕ → Node) (n one other left right : ℕ) (order : Ordering) : Type 0 where
  pub left_within : left < n
  pub right_within : right < n
  pub same_length : length (word_of at left) ≡ length (word_of at right)
  pub decided : ordering_then (slice_cmp nat_cmp (word_of at left) (word_of at right)) order ≡ slice_cmp nat_cmp (word_of at one) (word_of at other)

module _ (at : ℕ → Node) (n one other left right : ℕ) (order : Ordering) (t : IsTrie at n) (c : IsComparedTo at n one other left right order) (apart : left ≢ right) where
  pub left_some : 0 < left
  left_some =
      ⊎_elim
      (λ (some : 0 < left). some)
      (λ (none : left ≤ 0).
      let root : left ≡ 0 = omega arith in
      let short : length (word_of at left) ≡ 0 = ap (λ (k : ℕ). length (word_of at k)) root in
      absurd (apart (root ∙ sym (root_only at n t right c.right_within (sym c.same_length ∙ short)))))
      (cases_lt 0 left)

  right_some : 0 < right
  right_some = not_root at n t right c.right_within (omega (arith, some_word at n t left left_some c.left_within, c.same_length))

  pub compared_more : (now : Ordering) → now ≡ ordering_then (nat_cmp (at left).letter (at right).letter) order → IsComparedTo at n one other (at left).parent (at right).parent now
  compared_more now is =
      let left_up : (at left).parent < left = t.up left left_some c.left_within in
      let right_up : (at right).parent < right = t.up right right_some c.right_within in
      let same_length : length (word_of at (at left).parent) ≡ length (word_of at (at right).parent) = omega (arith, c.same_length, word_long at n t left left_some c.left_within, word_long at n t right right_some c.right_within) in
      record {
        left_within = omega (arith, left_up, c.left_within);
        right_within = omega (arith, right_up, c.right_within);
        same_length = same_length;
        decided = ap (ordering_then (slice_cmp nat_cmp (word_of at (at left).parent) (word_of at (at right).parent))) is
            ∙ (sym (then_assoc (slice_cmp nat_cmp (word_of at (at left).parent) (word_of at (at right).parent)) (nat_cmp (at left).letter (at right).letter) order)
            ∙ (ap (λ (o : Ordering). ordering_then o order) (sym (pushed_cmp (word_of at (at left).parent) (word_of at (at right).parent) (at left).letter (at right).letter same_length)
            ∙ sym (ap₂ (slice_cmp nat_cmp) (word_step at n t left left_some c.left_within) (word_step at n t right right_some c.right_within)))
            ∙ c.decided));
      }

-- words of one length
same_length_cmp : (v w : List ℕ) → length v ≡ length w → shortlex_cmp v w ≡ slice_cmp nat_cmp v w
same_length_cmp v w e =
    ap (λ (o : Ordering). ordering_then o (slice_cmp nat_cmp v w)) (ap (nat_cmp (length v)) (sym e) ∙ tied_itself nat_cmp_total (length v))

pub compared_end : (at : ℕ → Node) (n one other left right : ℕ) (order : Ordering) → IsComparedTo at n one other left right order → left ≡ right → length (word_of at one) ≡ length (word_of at other) → order ≡ shortlex_cmp (word_of at one) (word_of at other)
compared_end at n one other left right order c same same_length =
    sym
    (ap (λ (o : Ordering). ordering_then o order) (ap (λ (k : ℕ). slice_cmp nat_cmp (word_of at left) (word_of at k)) (sym same) ∙ tied_itself nat_list_cmp_total (word_of at left)))
    ∙ (c.decided ∙ sym (same_length_cmp (word_of at one) (word_of at other) same_length))

-- spelled from the last letter on
pub spell_more : (at : ℕ → Node) (n node : ℕ) (letters now whole : List ℕ) → IsTrie at n → node < n → node ≢ 0 → now ≡ letters ++ (at node).letter ∷ [] → word_of at node ++ reverse letters ≡ whole → word_of at (at node).parent ++ reverse now ≡ whole
spell_more at n node letters now whole t lt some is was =
    ap (λ (l : List ℕ). word_of at (at node).parent ++ reverse l) is
    ∙ (ap (λ (l : List ℕ). word_of at (at node).parent ++ l) (reverse-append letters ((at node).letter ∷ []))
    ∙ (sym (append_assoc (word_of at (at node).parent) ((at node).letter ∷ []) (reverse letters))
    ∙ (ap (λ (w : List ℕ). w ++ reverse letters) (sym (word_step at n t node (omega (arith, some)) lt)) ∙ was)))
