-- More nodes at the end.
use Rattle.std.proofs.Common.{◌≡◌, ◌≢◌, ℕ, zero, suc, ◌+◌, ◌-◌, ◌<◌, ◌≤◌, inl, inr, ⊎_elim, List, [], ◌∷◌, ◌++◌, length, take, get_or, refl, ap, sym, ◌∙◌, subst, arith, append-nil, append_assoc}
use Rattle.std.proofs.lemmas.Bool.{cases_eq}
use Rattle.std.proofs.lemmas.List.{take_more}
use Rattle.lw_cache.specs.bodies.Trie.{word_of, spell, IsChildOf, IsNewest, IsTrie}
use Rattle.lw_cache.specs.bodies.Filling.{with_first, HasOneMore, IsExtended}
use Rattle.lw_cache.specs.declared.node.Node.{Node}
use Rattle.lw_cache.proofs.TrieLemmas.{word_step}

-- nodes that keep their letters and parents keep their words
spell_same : (was at : ℕ → Node) (n : ℕ) → IsTrie was n → ((i : ℕ) → i < n → ((at i).parent ≡ (was i).parent) × ((at i).letter ≡ (was i).letter)) → (k i : ℕ) → i < n → spell at k i ≡ spell was k i
spell_same was at n t same zero i lt = refl
spell_same was at n t same (suc k) zero lt = refl
spell_same was at n t same (suc k) (suc i) lt =
    let up : (was (suc i)).parent < suc i = t.up (suc i) (omega arith) lt in
    let e = same (suc i) lt in
    ap (λ (p : ℕ). spell at k p ++ (at (suc i)).letter ∷ []) e.0 ∙ (ap (λ (w : List ℕ). w ++ (at (suc i)).letter ∷ []) (spell_same was at n t same k (was (suc i)).parent (omega arith)) ∙ ap (λ (x : ℕ). spell was k (was (suc i)).parent ++ x ∷ []) e.1)

pub word_same : (was at : ℕ → Node) (n : ℕ) → IsTrie was n → ((i : ℕ) → i < n → ((at i).parent ≡ (was i).parent) × ((at i).letter ≡ (was i).letter)) → (i : ℕ) → i < n → word_of at i ≡ word_of was i
word_same was at n t same i lt = spell_same was at n t same i i lt

module _ (was at : ℕ → Node) (n p letter : ℕ) (t : IsTrie was n) (within : p < n) (one : HasOneMore was at n p letter) where
  old_same : (i : ℕ) → i < n → at i ≡ with_first (was i) (at i).first
  old_same i lt =
      ⊎_elim
      (λ (e : i ≡ p). subst (λ (k : ℕ). at k ≡ with_first (was k) (at k).first) (sym e) (one.parent ∙ ap (λ (b : Node). with_first (was p) b.first) (sym one.parent)))
      (λ (other : i ≡ p → ⊥). let same : at i ≡ was i = one.others i other (λ e. omega arith) in same ∙ ap (λ (b : Node). with_first (was i) b.first) (sym same))
      (cases_eq i p)

  old_shape : (i : ℕ) → i < n → ((at i).parent ≡ (was i).parent) × ((at i).letter ≡ (was i).letter)
  old_shape i lt = (ap (λ (b : Node). b.parent) (old_same i lt), ap (λ (b : Node). b.letter) (old_same i lt))

  new_parent : (at n).parent ≡ p
  new_parent = ap (λ (b : Node). b.parent) one.new

  new_letter : (at n).letter ≡ letter
  new_letter = ap (λ (b : Node). b.letter) one.new

  newest_same : (q bound c : ℕ) → bound ≤ n → IsNewest was q bound c → IsNewest at q bound c
  newest_same q bound c le x =
      record {
        is = ⊎_elim (λ (e : c ≡ 0). inl e) (λ (k : IsChildOf was q bound c). inr (k.0, k.1, (old_shape c (omega (arith, k.1))).0 ∙ k.2)) x.is;
        newest = λ j k. x.newest j (k.0, k.1, sym (old_shape j (omega (arith, k.1))).0 ∙ k.2);
      }

  -- the newest child of another node stays so
  first_same : (i c : ℕ) → i ≢ p → IsNewest was i n c → IsNewest at i (n + 1) c
  first_same i c other x =
      let y = newest_same i n c (omega arith) x in
      record {
        is = ⊎_elim (λ (e : c ≡ 0). inl e) (λ (k : IsChildOf at i n c). inr (k.0, omega (arith, k.1), k.2)) y.is;
        newest = λ j k. ⊎_elim
            (λ (e : j ≡ n). absurd (other (sym k.2 ∙ (ap (λ (m : ℕ). (at m).parent) e ∙ new_parent))))
            (λ (o : j ≡ n → ⊥). y.newest j (k.0, omega (arith, k.1, o), k.2))
            (cases_eq j n);
      }

  first_at : (i : ℕ) → i < n + 1 → IsNewest at i (n + 1) (at i).first
  first_at i lt =
      ⊎_elim
      (λ (e : i ≡ n). subst (λ (k : ℕ). IsNewest at k (n + 1) (at k).first) (sym e) (subst (IsNewest at n (n + 1)) (ap (λ (b : Node). b.first) (sym one.new)) newborn))
      (λ (old : i ≡ n → ⊥). ⊎_elim
      (λ (e : i ≡ p). subst (λ (k : ℕ). IsNewest at k (n + 1) (at k).first) (sym e) (subst (IsNewest at p (n + 1)) (ap (λ (b : Node). b.first) (sym one.parent)) parent_first))
      (λ (other : i ≡ p → ⊥). subst (IsNewest at i (n + 1)) (ap (λ (b : Node). b.first) (sym (one.others i other old))) (first_same i (was i).first other (t.first i (omega (arith, lt, old)))))
      (cases_eq i p))
      (cases_eq i n)
    where
      newborn : IsNewest at n (n + 1) 0
      newborn = record {
        is = inl refl;
        newest = λ j k. ⊎_elim
            (λ (e : j ≡ n). absurd (omega (arith, k.2, ap (λ (m : ℕ). (at m).parent) e, new_parent)))
            (λ (o : j ≡ n → ⊥). let lt : j < n = omega (arith, k.1, o) in absurd (omega (arith, t.up j k.0 lt, (old_shape j lt).0, k.2)))
            (cases_eq j n);
      }

      parent_first : IsNewest at p (n + 1) n
      parent_first = record { is = inr (omega arith, omega arith, new_parent); newest = λ j k. omega (arith, k.1) }

  pub one_more_trie : ((j : ℕ) → IsChildOf was p n j → (was j).letter ≢ letter) → IsTrie at (n + 1)
  one_more_trie free =
      record {
        up = λ i pos lt. ⊎_elim
            (λ (e : i ≡ n). omega (arith, ap (λ (m : ℕ). (at m).parent) e, new_parent))
            (λ (o : i ≡ n → ⊥). let old : i < n = omega arith in omega (arith, t.up i pos old, (old_shape i old).0))
            (cases_eq i n);
        first = first_at;
        next = λ c pos lt. ⊎_elim
            (λ (e : c ≡ n). subst (λ (k : ℕ). IsNewest at (at k).parent k (at k).next) (sym e)
            (subst (λ (q : ℕ). IsNewest at q n (at n).next) (sym new_parent) (subst (IsNewest at p n) (ap (λ (b : Node). b.next) (sym one.new)) (newest_same p n (was p).first (omega arith) (t.first p within)))))
            (λ (o : c ≡ n → ⊥). let old : c < n = omega arith in
            subst (λ (q : ℕ). IsNewest at q c (at c).next) (sym (old_shape c old).0) (subst (IsNewest at (was c).parent c) (ap (λ (b : Node). b.next) (sym (old_same c old))) (newest_same (was c).parent c (was c).next (omega arith) (t.next c pos old))))
            (cases_eq c n);
        differ = λ i j pos before lt parents letters. ⊎_elim
            (λ (e : j ≡ n).
            let old : i < n = omega arith in
            free i (pos, old, sym (old_shape i old).0 ∙ (parents ∙ (ap (λ (m : ℕ). (at m).parent) e ∙ new_parent))) (sym (old_shape i old).1 ∙ (letters ∙ (ap (λ (m : ℕ). (at m).letter) e ∙ new_letter))))
            (λ (o : j ≡ n → ⊥).
            let old_i : i < n = omega arith in
            let old_j : j < n = omega arith in
            t.differ i j pos before old_j (sym (old_shape i old_i).0 ∙ (parents ∙ (old_shape j old_j).0)) (sym (old_shape i old_i).1 ∙ (letters ∙ (old_shape j old_j).1)))
            (cases_eq j n);
      }

  pub one_more_word : (i : ℕ) → i < n → word_of at i ≡ word_of was i
  one_more_word i lt = word_same was at n t old_shape i lt

  pub one_more_new : IsTrie at (n + 1) → word_of at n ≡ word_of was p ++ letter ∷ []
  one_more_new now =
      word_step at (n + 1) now n (omega arith) (omega arith) ∙ (ap (λ (q : ℕ). word_of at q ++ (at n).letter ∷ []) new_parent ∙ (ap (λ (w : List ℕ). w ++ (at n).letter ∷ []) (one_more_word p within) ∙ ap (λ (x : ℕ). word_of was p ++ x ∷ []) new_letter))

pub extend_begin : (was : ℕ → Node) (n p : ℕ) (letters : List ℕ) → IsTrie was n → p < n → (0 < length letters → (j : ℕ) → IsChildOf was p n j → (was j).letter ≢ get_or letters 0 0) → IsExtended was was n p letters 0 p
extend_begin was n p letters t within free =
    let none : n + 0 ≡ n = omega arith in
    record {
      trie = subst (IsTrie was) (sym none) t;
      old = λ i lt. refl;
      blank = λ i le lt. absurd (omega arith);
      words = λ i le lt. absurd (omega arith);
      node_within = omega arith;
      node_word = sym (append-nil (word_of was p));
      free = λ some j k. free some j (k.0, omega (arith, k.1), k.2);
    }

module _ (was at now : ℕ → Node) (n p : ℕ) (letters : List ℕ) (k node : ℕ) (x : IsExtended was at n p letters k node) (some : k < length letters) (one : HasOneMore at now (n + k) node (get_or letters k 0)) where
  pub extend_more : IsExtended was now n p letters (k + 1) (n + k)
  extend_more =
      let trie : IsTrie now (n + k + 1) = one_more_trie at now (n + k) node (get_or letters k 0) x.trie x.node_within one (x.free some) in
      let size : n + k + 1 ≡ n + (k + 1) = omega arith in
      let new_word : word_of now (n + k) ≡ word_of was p ++ take (k + 1) letters =
      one_more_new at now (n + k) node (get_or letters k 0) x.trie x.node_within one trie
      ∙ (ap (λ (w : List ℕ). w ++ get_or letters k 0 ∷ []) x.node_word
      ∙ (append_assoc (word_of was p) (take k letters) (get_or letters k 0 ∷ [])
      ∙ ap (λ (w : List ℕ). word_of was p ++ w) (sym (take_more letters k 0 some)))) in
      record {
        trie = subst (IsTrie now) size trie;
        old = λ i lt.
            let mid : now i ≡ with_first (at i) (now i).first = old_same at now (n + k) node (get_or letters k 0) x.trie x.node_within one i (omega arith) in
            mid ∙ ap (λ (b : Node). with_first b (now i).first) (x.old i lt);
        blank = λ i le lt. ⊎_elim
            (λ (e : i ≡ n + k). (
              ap (λ (m : ℕ). (now m).answer) e ∙ ap (λ (b : Node). b.answer) one.new,
              ap (λ (m : ℕ). (now m).claim) e ∙ ap (λ (b : Node). b.claim) one.new,
              ap (λ (m : ℕ). (now m).ends) e ∙ ap (λ (b : Node). b.ends) one.new,
            ))
            (λ (o : i ≡ n + k → ⊥).
            let before : i < n + k = omega arith in
            let same : now i ≡ with_first (at i) (now i).first = old_same at now (n + k) node (get_or letters k 0) x.trie x.node_within one i before in
            let b = x.blank i le before in
            (ap (λ (d : Node). d.answer) same ∙ b.0, ap (λ (d : Node). d.claim) same ∙ b.1, ap (λ (d : Node). d.ends) same ∙ b.2))
            (cases_eq i (n + k));
        words = λ i le lt. ⊎_elim
            (λ (e : i ≡ n + k). ap (word_of now) e ∙ (new_word ∙ ap (λ (m : ℕ). word_of was p ++ take m letters) (count i e)))
            (λ (o : i ≡ n + k → ⊥). let before : i < n + k = omega arith in one_more_word at now (n + k) node (get_or letters k 0) x.trie x.node_within one i before ∙ x.words i le before)
            (cases_eq i (n + k));
        node_within = omega arith;
        node_word = new_word;
        free = λ more j child. absurd (childless j child);
      }
    where
      count : (i : ℕ) → i ≡ n + k → k + 1 ≡ i - n + 1
      count i e = omega arith

      childless : (j : ℕ) → IsChildOf now (n + k) (n + (k + 1)) j → ⊥
      childless j child =
          let trie : IsTrie now (n + k + 1) = one_more_trie at now (n + k) node (get_or letters k 0) x.trie x.node_within one (x.free some) in
          omega (arith, trie.up j child.0 (omega (arith, child.1)), child.1, child.2)
