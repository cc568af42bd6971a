-- What is stored once an answer is kept.
use Rattle.std.proofs.Common.{◌≡◌, ◌≢◌, ℕ, ◌<◌, ◌≤◌, List, [], ◌∷◌, ◌++◌, length, drop, get_or, None, refl, ap, sym, ◌∙◌, subst, arith}
use Rattle.std.specs.List.{All}
use Rattle.std.proofs.lemmas.List.{map_push, take_all}
use Rattle.std.proofs.lemmas.List.Elements.{All-push}
use Rattle.lw_words.specs.Word.{Answer, answer_of, answers_of, IsWhole}
use Rattle.lw_words.specs.declared.kept.KeptAnswer.{KeptAnswer}
use Rattle.lw_cache.specs.Clash.{IsClearAfter}
use Rattle.lw_cache.specs.FirstClash.{SameKnown}
use Rattle.lw_cache.specs.bodies.Trie.{node_at, word_of, held_at, claims_of, IsChildOf, no_answer, AreAnswered, IsStored}
use Rattle.lw_cache.specs.bodies.Filling.{AgreeBetween, ComparedTo, AreMarked, IsTold}
use Rattle.lw_cache.specs.declared.node.Node.{Node}
use Rattle.lw_cache.specs.declared.node.Held.{Held}
use Rattle.lw_cache.proofs.AnswerLemmas.{unclashed, unclear_answered, unclear_known}
use Rattle.lw_cache.proofs.MoreLemmas.{extended_word, extended_stored, extended_agree, claims_same, marked_shape, marked_answered, marked_claim, marked_ends}
use Rattle.lw_cache.proofs.PlainLemmas.{kept_count}
use Rattle.lw_cache.proofs.ShapeLemmas.{shape_word, shape_trie, shape_least, shape_ends}
use Rattle.lw_cache.proofs.WholeLemmas.{next_free, whole_word}

answers_push : (kept : List KeptAnswer) (new : KeptAnswer) → answers_of (kept ++ new ∷ []) ≡ answers_of kept ++ answer_of new ∷ []
answers_push kept new = map_push answer_of kept new

whole_push : (kept : List KeptAnswer) (new : KeptAnswer) → All IsWhole (answers_of kept) → length new.outs ≡ length new.word → All IsWhole (answers_of (kept ++ new ∷ []))
whole_push kept new whole long = subst (All IsWhole) (sym (answers_push kept new)) (All-push IsWhole (answers_of kept) (answer_of new) whole long)

-- marks, on nodes that have the answer's word
module _ (was at : ℕ → Node) (n : ℕ) (held : List Held) (kept : List KeptAnswer) (s : IsStored was n held kept) (few : length kept ≤ no_answer) (new : KeptAnswer) (long : length new.outs ≡ length new.word)
    (answer : ℕ) (number : answer ≡ length kept) (e : ℕ) (in_range : e < n) (word : word_of was e ≡ new.word) (m : AreMarked was at n new.word new.outs answer 0)
    (agree : AgreeBetween was n new.word new.outs 0 (length new.word)) where
  pub marked_stored : IsStored at n held (kept ++ new ∷ [])
  marked_stored =
      let ks : List Answer = answers_of kept in
      let shape = marked_shape was at n new.word new.outs answer m in
      let clear : IsClearAfter ks (length ks) (answer_of new) = unclashed was n s.trie ks s.answered (omega (arith, few, kept_count kept)) (answer_of new) agree in
      record {
        trie = shape_trie was at n s.trie shape;
        answered = subst (λ (l : List Answer). AreAnswered at n l) (sym (answers_push kept new))
            (marked_answered was at n new.word new.outs answer m s.trie ks s.answered (omega (arith, few, kept_count kept)) (number ∙ sym (kept_count kept)) e in_range word agree clear);
        ends = shape_ends was at n held (marked_ends was at n new.word new.outs answer m) s.ends;
        least = shape_least was at n s.trie shape (marked_claim was at n new.word new.outs answer m) (marked_ends was at n new.word new.outs answer m) s.least;
        whole = whole_push kept new s.whole long;
      }

  pub marked_claims : claims_of at held ≡ claims_of was held
  marked_claims = claims_same was at held (λ k lt. shape_word was at n s.trie (marked_shape was at n new.word new.outs answer m) (held_at held k).end (s.ends.within k lt).1)

-- a clash: only the list grows
pub clashed_stored : (at : ℕ → Node) (n : ℕ) (held : List Held) (kept : List KeptAnswer) (new : KeptAnswer) → IsStored at n held kept → length new.outs ≡ length new.word → ¬ IsClearAfter (answers_of kept) (length (answers_of kept)) (answer_of new) → IsStored at n held (kept ++ new ∷ [])
clashed_stored at n held kept new s long unclear =
    record {
      trie = s.trie;
      answered = subst (λ (l : List Answer). AreAnswered at n l) (sym (answers_push kept new)) (unclear_answered at n (answers_of kept) (answer_of new) s.answered unclear);
      ends = s.ends;
      least = s.least;
      whole = whole_push kept new s.whole long;
    }

pub clashed_known : (kept : List KeptAnswer) (new : KeptAnswer) → ¬ IsClearAfter (answers_of kept) (length (answers_of kept)) (answer_of new) → SameKnown (answers_of kept) (answers_of (kept ++ new ∷ []))
clashed_known kept new unclear = subst (SameKnown (answers_of kept)) (sym (answers_push kept new)) (unclear_known (answers_of kept) (answer_of new) unclear)

-- more nodes, and then marks
module _ (was at : List Node) (held : List Held) (kept : List KeptAnswer) (s : IsStored (node_at was) (length was) held kept) (few : length kept ≤ no_answer) (new : KeptAnswer) (long : length new.outs ≡ length new.word)
    (answer : ℕ) (number : answer ≡ length kept) (told : IsTold was at new.word new.outs answer) (agree : ComparedTo (node_at was) (length was) new.word new.outs 0 None) where
  free : 0 < length (drop told.depth new.word) → (j : ℕ) → IsChildOf (node_at was) told.parent (length was) j → (node_at was j).letter ≢ get_or (drop told.depth new.word) 0 0
  free = next_free (node_at was) (length was) s.trie new.word new.outs told.parent told.depth told.reached long

  mid_stored : IsStored (node_at told.mid) (length told.mid) held kept
  mid_stored = subst (λ (n : ℕ). IsStored (node_at told.mid) n held kept) (sym told.mid_long)
      (extended_stored (node_at was) (node_at told.mid) (length was) told.parent (drop told.depth new.word) (length (drop told.depth new.word)) told.last s.trie told.reached.node_within told.extended refl free held kept s)

  mid_agree : AgreeBetween (node_at told.mid) (length told.mid) new.word new.outs 0 (length new.word)
  mid_agree = subst (λ (n : ℕ). AgreeBetween (node_at told.mid) n new.word new.outs 0 (length new.word)) (sym told.mid_long)
      (extended_agree (node_at was) (node_at told.mid) (length was) told.parent (drop told.depth new.word) (length (drop told.depth new.word)) told.last s.trie told.reached.node_within told.extended refl free new.word new.outs agree)

  last_within : told.last < length told.mid
  last_within = omega (arith, told.extended.node_within, told.mid_long)

  last_word : word_of (node_at told.mid) told.last ≡ new.word
  last_word =
      told.extended.node_word
      ∙ (ap (λ (v : List ℕ). word_of (node_at was) told.parent ++ v) (take_all (length (drop told.depth new.word)) (drop told.depth new.word) (omega arith))
      ∙ whole_word (node_at was) (length was) s.trie new.word new.outs told.parent told.depth told.reached long)

  marks : AreMarked (node_at told.mid) (node_at at) (length told.mid) new.word new.outs answer 0
  marks = subst (λ (v : List ℕ). AreMarked (node_at told.mid) (node_at at) (length told.mid) v new.outs answer 0) last_word told.marks

  pub told_stored : IsStored (node_at at) (length at) held (kept ++ new ∷ [])
  told_stored = subst (λ (n : ℕ). IsStored (node_at at) n held (kept ++ new ∷ [])) (sym told.long)
      (marked_stored (node_at told.mid) (node_at at) (length told.mid) held kept mid_stored few new long answer number told.last last_within last_word marks mid_agree)

  pub told_claims : claims_of (node_at at) held ≡ claims_of (node_at was) held
  told_claims =
      marked_claims (node_at told.mid) (node_at at) (length told.mid) held kept mid_stored few new long answer number told.last last_within last_word marks mid_agree
      ∙ claims_same (node_at was) (node_at told.mid) held (λ k lt. extended_word (node_at was) (node_at told.mid) (length was) told.parent (drop told.depth new.word) (length (drop told.depth new.word)) told.last s.trie told.reached.node_within told.extended refl free (held_at held k).end (s.ends.within k lt).1)
