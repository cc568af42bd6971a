-- The words of the nodes.
use Rattle.std.proofs.Common.{◌≡◌, ℕ, zero, suc, ◌+◌, ◌<◌, ◌≤◌, ◌⊎◌, ⊎_elim, List, [], ◌∷◌, ◌++◌, length, take, refl, ap, sym, ◌∙◌, arith}
use Rattle.std.proofs.lemmas.Bool.{cases_lt, cases_order}
use Rattle.std.proofs.lemmas.List.{length_push, same_from_push, take_all, take-append-le}
use Rattle.lw_words.specs.Word.{IsPrefix}
use Rattle.lw_cache.specs.bodies.Trie.{spell, word_of, IsTrie}
use Rattle.lw_cache.specs.declared.node.Node.{Node}
use Rattle.lw_cache.proofs.KnownLemmas.{prefix_long}
use Rattle.lw_cache.proofs.PlainLemmas.{take_from_prefix}

-- any fuel that is enough spells the same
stable : (at : ℕ → Node) (n : ℕ) → IsTrie at n → (k j i : ℕ) → i < n → i ≤ k → i ≤ j → spell at k i ≡ spell at j i
stable at n t zero zero zero lt a b = refl
stable at n t zero (suc j) zero lt a b = refl
stable at n t (suc k) zero zero lt a b = refl
stable at n t (suc k) (suc j) zero lt a b = refl
stable at n t zero j (suc i) lt a b = absurd (omega arith)
stable at n t (suc k) zero (suc i) lt a b = absurd (omega arith)
stable at n t (suc k) (suc j) (suc i) lt a b =
    let up : (at (suc i)).parent < suc i = t.up (suc i) (omega arith) lt in
    ap (λ (w : List ℕ). w ++ (at (suc i)).letter ∷ []) (stable at n t k j (at (suc i)).parent (omega arith) (omega arith) (omega arith))

-- the word of a node is its parent's and its letter
pub word_step : (at : ℕ → Node) (n : ℕ) → IsTrie at n → (i : ℕ) → 0 < i → i < n → word_of at i ≡ word_of at (at i).parent ++ (at i).letter ∷ []
word_step at n t zero pos lt = absurd (omega arith)
word_step at n t (suc i) pos lt =
    let up : (at (suc i)).parent < suc i = t.up (suc i) pos lt in
    ap (λ (w : List ℕ). w ++ (at (suc i)).letter ∷ []) (stable at n t i (at (suc i)).parent (at (suc i)).parent (omega arith) (omega arith) (omega arith))

pub word_long : (at : ℕ → Node) (n : ℕ) → IsTrie at n → (i : ℕ) → 0 < i → i < n → length (word_of at i) ≡ length (word_of at (at i).parent) + 1
word_long at n t i pos lt = ap (λ (w : List ℕ). length w) (word_step at n t i pos lt) ∙ length_push (word_of at (at i).parent) (at i).letter

pub root_only : (at : ℕ → Node) (n : ℕ) → IsTrie at n → (i : ℕ) → i < n → length (word_of at i) ≡ 0 → i ≡ 0
root_only at n t zero lt e = refl
root_only at n t (suc i) lt e = let long : length (word_of at (suc i)) ≡ length (word_of at (at (suc i)).parent) + 1 = word_long at n t (suc i) (omega arith) lt in absurd (omega (arith, long, e))

-- nodes of one word are one
same_node : (at : ℕ → Node) (n : ℕ) → IsTrie at n → (most i j : ℕ) → i ≤ most → i < n → j < n → word_of at i ≡ word_of at j → i ≡ j
same_node at n t most zero j le li lj e = sym (root_only at n t j lj (ap (λ (w : List ℕ). length w) (sym e)))
same_node at n t most (suc i) zero le li lj e = root_only at n t (suc i) li (ap (λ (w : List ℕ). length w) e)
same_node at n t zero (suc i) (suc j) le li lj e = absurd (omega arith)
same_node at n t (suc most) (suc i) (suc j) le li lj e =
    let up : (at (suc i)).parent < suc i = t.up (suc i) (omega arith) li in
    let other : (at (suc j)).parent < suc j = t.up (suc j) (omega arith) lj in
    let both = same_from_push (word_of at (at (suc i)).parent) (word_of at (at (suc j)).parent) (at (suc i)).letter (at (suc j)).letter
    (sym (word_step at n t (suc i) (omega arith) li) ∙ (e ∙ word_step at n t (suc j) (omega arith) lj)) in
    let parents : (at (suc i)).parent ≡ (at (suc j)).parent = same_node at n t most (at (suc i)).parent (at (suc j)).parent (omega arith) (omega arith) (omega arith) both.0 in
    ⊎_elim
    (λ (is : suc i ≡ suc j). is)
    (λ (o : (suc i < suc j) ⊎ (suc j < suc i)). ⊎_elim
    (λ (before : suc i < suc j). absurd (t.differ (suc i) (suc j) (omega arith) before lj parents both.1))
    (λ (before : suc j < suc i). absurd (t.differ (suc j) (suc i) (omega arith) before li (sym parents) (sym both.1)))
    o)
    (cases_order (suc i) (suc j))

pub one_node : (at : ℕ → Node) (n : ℕ) → IsTrie at n → (i j : ℕ) → i < n → j < n → word_of at i ≡ word_of at j → i ≡ j
one_node at n t i j li lj e = same_node at n t i i j (omega arith) li lj e

-- each front of a node's word has a node
front_below : (at : ℕ → Node) (n : ℕ) → IsTrie at n → (most i k : ℕ) → i ≤ most → i < n → k ≤ length (word_of at i) → (j : ℕ) × (j < n) × (word_of at j ≡ take k (word_of at i))
front_below at n t most zero k le lt short = (zero, lt, sym (take_all k [] (omega arith)))
front_below at n t zero (suc i) k le lt short = absurd (omega arith)
front_below at n t (suc most) (suc i) k le lt short =
    let up : (at (suc i)).parent < suc i = t.up (suc i) (omega arith) lt in
    let long : length (word_of at (suc i)) ≡ length (word_of at (at (suc i)).parent) + 1 = word_long at n t (suc i) (omega arith) lt in
    ⊎_elim
    (λ (less : k < length (word_of at (suc i))).
    let r = front_below at n t most (at (suc i)).parent k (omega arith) (omega arith) (omega (arith, long, less)) in
    let shorter : k ≤ length (word_of at (at (suc i)).parent) = omega (arith, long, less) in
    (r.0, r.1, r.2 ∙ (sym (take-append-le k (word_of at (at (suc i)).parent) ((at (suc i)).letter ∷ []) shorter) ∙ ap (take k) (sym (word_step at n t (suc i) (omega arith) lt)))))
    (λ (all : length (word_of at (suc i)) ≤ k). (suc i, lt, sym (take_all k (word_of at (suc i)) all)))
    (cases_lt k (length (word_of at (suc i))))

pub front_node : (at : ℕ → Node) (n : ℕ) → IsTrie at n → (i k : ℕ) → i < n → k ≤ length (word_of at i) → (j : ℕ) × (j < n) × (word_of at j ≡ take k (word_of at i))
front_node at n t i k lt short = front_below at n t i i k (omega arith) lt short

-- and so has each prefix
pub prefix_node : (at : ℕ → Node) (n : ℕ) → IsTrie at n → (w : List ℕ) (i : ℕ) → i < n → IsPrefix w (word_of at i) → (j : ℕ) × (j < n) × (word_of at j ≡ w)
prefix_node at n t w i lt p =
    let r = front_node at n t i (length w) lt (prefix_long w (word_of at i) p) in
    (r.0, r.1, r.2 ∙ take_from_prefix w (word_of at i) p)

-- a node that isn't the root has a word that isn't empty
pub some_word : (at : ℕ → Node) (n : ℕ) → IsTrie at n → (i : ℕ) → 0 < i → i < n → 0 < length (word_of at i)
some_word at n t i pos lt = omega (arith, word_long at n t i pos lt)

pub not_root : (at : ℕ → Node) (n : ℕ) → IsTrie at n → (i : ℕ) → i < n → 0 < length (word_of at i) → 0 < i
not_root at n t zero lt some = absurd (omega arith)
not_root at n t (suc i) lt some = omega arith
