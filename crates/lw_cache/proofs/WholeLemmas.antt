-- An answer to a word that has no node yet: the fronts that have one tell all.
use Rattle.std.proofs.Common.{◌≡◌, ◌≢◌, ℕ, zero, suc, ◌+◌, ◌-◌, ◌<◌, ◌≤◌, ⊎_elim, List, [], ◌∷◌, ◌++◌, length, take, drop, get_or, Option, Some, None, refl, ap, sym, ◌∙◌, subst, arith}
use Rattle.std.proofs.lemmas.Bool.{cases_lt}
use Rattle.std.proofs.lemmas.List.{length-take-le, get_or-take, take-take, take-append-drop, get_or-drop}
use Rattle.lw_words.specs.Word.{IsPrefix}
use Rattle.lw_cache.specs.bodies.Trie.{word_of, IsChildOf, IsTrie}
use Rattle.lw_cache.specs.bodies.Filling.{AgreeBetween, ComparedTo, IsReached}
use Rattle.lw_cache.specs.declared.node.Node.{Node}
use Rattle.lw_cache.proofs.KnownLemmas.{prefix_long, prefix_take}
use Rattle.lw_cache.proofs.PlainLemmas.{take_from_prefix, prefix_from_take}
use Rattle.lw_cache.proofs.TrieLemmas.{front_node}
use Rattle.lw_cache.proofs.WalkLemmas.{reached_last}

module _ (at : ℕ → Node) (n : ℕ) (t : IsTrie at n) (w outs : List ℕ) (node depth : ℕ) (r : IsReached at n w node depth) (long : length outs ≡ length w) where
  short : (i : ℕ) → i < n → IsPrefix (word_of at i) w → length (word_of at i) ≤ depth
  short i lt p =
      ⊎_elim
      (λ (deep : depth < length (word_of at i)).
      let le : length (word_of at i) ≤ length w = prefix_long (word_of at i) w p in
      let f = front_node at n t i (depth + 1) lt (omega arith) in
      absurd (reached_last at n w node depth t r (omega arith) f.0 f.1 (f.2 ∙ sym (prefix_take (depth + 1) (word_of at i) w p (omega arith)))))
      (λ (le : length (word_of at i) ≤ depth). le)
      (cases_lt depth (length (word_of at i)))

  inner : (i : ℕ) → i < n → IsPrefix (word_of at i) w → IsPrefix (word_of at i) (word_of at node)
  inner i lt p =
      subst (IsPrefix (word_of at i)) (sym r.front)
      (prefix_from_take (word_of at i) (take depth w) (take-take (length (word_of at i)) depth w (short i lt p) ∙ take_from_prefix (word_of at i) w p))

  node_long : length (word_of at node) ≡ depth
  node_long = ap (λ (v : List ℕ). length v) r.front ∙ length-take-le depth w r.depth_within

  agree_whole : (limit more : ℕ) → ((i : ℕ) → i < n → IsPrefix (word_of at i) w → length (word_of at i) ≤ more → length (word_of at i) ≤ limit) → AgreeBetween at n (word_of at node) (take depth outs) 0 limit → AgreeBetween at n w outs 0 more
  agree_whole limit more within agree i pos lt p deep le told =
      agree i pos lt (inner i lt p) deep (within i lt p le) told ∙ get_or-take depth outs (length (word_of at i) - 1) 0 (omega (arith, short i lt p, deep))

  pub compared_whole : (found : Option (ℕ × ℕ)) → ComparedTo at n (word_of at node) (take depth outs) 0 found → ComparedTo at n w outs 0 found
  compared_whole None agree = agree_whole (length (word_of at node)) (length w) (λ i lt p le. omega (arith, short i lt p, node_long)) agree
  compared_whole (Some found) c =
      let d = c.1 in
      let place : found.1 < depth = omega (arith, d.long, node_long) in (
        c.0,
        record {
          node = d.node;
          not_root = d.not_root;
          within = d.within;
          front = d.front ∙ (ap (take (found.1 + 1)) r.front ∙ take-take (found.1 + 1) depth w (omega arith));
          long = omega (arith, place, r.depth_within);
          told = d.told;
          some = d.some;
          other = λ e. d.other (e ∙ sym (get_or-take depth outs found.1 0 place));
        },
        agree_whole found.1 found.1 (λ i lt p le. le) c.2,
      )

  pub next_free : 0 < length (drop depth w) → (j : ℕ) → IsChildOf at node n j → (at j).letter ≢ get_or (drop depth w) 0 0
  next_free some j child e =
      ⊎_elim
      (λ (all : depth ≡ length w). omega (arith, some, ap (λ (v : List ℕ). length v) (nothing all)))
      (λ (free : (k : ℕ) → IsChildOf at node n k → (at k).letter ≢ get_or w depth 0). free j child (e ∙ (get_or-drop depth w 0 0 ∙ ap (λ (k : ℕ). get_or w k 0) (plus depth))))
      r.last
    where
      plus : (d : ℕ) → d + 0 ≡ d
      plus d = omega arith

      nothing : depth ≡ length w → drop depth w ≡ []
      nothing all = dropped depth w (omega arith)
        where
          dropped : (d : ℕ) (v : List ℕ) → length v ≤ d → drop d v ≡ []
          dropped zero [] le = refl
          dropped zero (x ∷ v) le = absurd (omega arith)
          dropped (suc d) [] le = refl
          dropped (suc d) (x ∷ v) le = dropped d v (omega arith)

  pub whole_word : word_of at node ++ drop depth w ≡ w
  whole_word = ap (λ (v : List ℕ). v ++ drop depth w) r.front ∙ take-append-drop depth w
