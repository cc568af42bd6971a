-- What comes of a claim, of its answer and of giving it up, as contracts see it.
use Rattle.std.proofs.Common.{◌≡◌, ◌≢◌, ℕ, ◌<◌, ◌≤◌, ◌⊎◌, ⊎_elim, List, [], ◌∷◌, ◌++◌, length, drop, get_or, Option, Some, None, Result, Ok, Err, IfNone, IfSome, IsOk, MatchOption, inl, refl, ap, sym, ◌∙◌, subst, arith}
use Rattle.std.specs.Bool.{⊤}
use Rattle.std.proofs.lemmas.Bool.{false≢true, cases_order, cases_eq}
use Rattle.std.proofs.lemmas.List.{take_all, length-map}
use Rattle.lw_words.specs.Word.{answer_of, answers_of}
use Rattle.lw_words.specs.declared.kept.KeptAnswer.{KeptAnswer}
use Rattle.lw_cache.specs.Caching.{Claim, claim_of, IsClaimOf, IsClaimedBy, IsUnused, without_claim}
use Rattle.lw_cache.specs.Clash.{IsClearAfter}
use Rattle.lw_cache.specs.Standing.{Stands}
use Rattle.lw_cache.specs.declared.known.Known.TheVariants.{No}
use Rattle.lw_cache.specs.bodies.Trie.{node_at, word_of, held_at, claims_of, no_answer, no_claim, IsChildOf, IsStored}
use Rattle.lw_cache.specs.bodies.Filling.{ComparedTo, AreMarked, IsPlaced, IsReclaimed, IsHeld, IsEndOf, without_held}
use Rattle.lw_cache.specs.declared.node.Node.{Node}
use Rattle.lw_cache.specs.declared.node.Held.{Held}
use Rattle.lw_cache.specs.declared.stops.Clash.{Clash}
use Rattle.lw_cache.proofs.AnswerLemmas.{unclashed, clashes, clash_unclear}
use Rattle.lw_cache.proofs.HeldLemmas.{look_held}
use Rattle.lw_cache.proofs.KeepLemmas.{IsKeptMade}
use Rattle.lw_cache.proofs.MoreLemmas.{extended_stored, extended_word, claims_same}
use Rattle.lw_cache.proofs.PlainLemmas.{kept_count}
use Rattle.lw_cache.proofs.ReclaimLemmas.{claimed_stored, claimed_claims, released_stored, released_claims}
use Rattle.lw_cache.proofs.StoredLemmas.{claim_is, claimed_is, prefix_same}
use Rattle.lw_cache.proofs.ToldLemmas.{marked_stored, marked_claims, clashed_stored, clashed_known}
use Rattle.lw_cache.proofs.TrieLemmas.{not_root}
use Rattle.lw_cache.proofs.WholeLemmas.{next_free, whole_word}

-- more nodes, down to a word
module _ (was at : List Node) (held : List Held) (kept : List KeptAnswer) (s : IsStored (node_at was) (length was) held kept) (w : List ℕ) (last : ℕ) (p : IsPlaced was at w last) where
  free : 0 < length (drop p.depth w) → (j : ℕ) → IsChildOf (node_at was) p.parent (length was) j → (node_at was j).letter ≢ get_or (drop p.depth w) 0 0
  free = next_free (node_at was) (length was) s.trie w w p.parent p.depth p.reached refl

  pub placed_stored : IsStored (node_at at) (length at) held kept
  placed_stored = subst (λ (n : ℕ). IsStored (node_at at) n held kept) (sym p.long)
      (extended_stored (node_at was) (node_at at) (length was) p.parent (drop p.depth w) (length (drop p.depth w)) last s.trie p.reached.node_within p.extended refl free held kept s)

  pub placed_claims : claims_of (node_at at) held ≡ claims_of (node_at was) held
  placed_claims = claims_same (node_at was) (node_at at) held (λ k lt. extended_word (node_at was) (node_at at) (length was) p.parent (drop p.depth w) (length (drop p.depth w)) last s.trie p.reached.node_within p.extended refl free (held_at held k).end (s.ends.within k lt).1)

  pub placed_within : last < length at
  placed_within = omega (arith, p.extended.node_within, p.long)

  pub placed_word : word_of (node_at at) last ≡ w
  placed_word =
      p.extended.node_word
      ∙ (ap (λ (v : List ℕ). word_of (node_at was) p.parent ++ v) (take_all (length (drop p.depth w)) (drop p.depth w) (omega arith))
      ∙ whole_word (node_at was) (length was) s.trie w w p.parent p.depth p.reached refl)

  -- a word that is neither known nor claimed gets a claim
  module _ (now : List Node) (number : ℕ) (r : IsReclaimed (node_at at) (node_at now) (length at) last number) (long : length now ≡ length at) (few : number < no_claim)
      (unclaimed : Stands (answers_of kept) (claims_of (node_at was) held) w No) (unused : IsUnused (claims_of (node_at was) held) number) where
    unheld : (k : ℕ) → k < length held → (held_at held k).number ≢ number
    unheld k lt e =
        let is = claim_is (node_at was) (length was) s.trie held k lt in
        unused k (omega (arith, lt, length-map held (λ (h : Held). let c : Claim = record { number = h.number; word = word_of (node_at was) h.end } in c))) (ap (λ (c : Claim). c.number) is ∙ e)

    some : (v : List ℕ) → v ≢ [] → 0 < length v
    some [] other = absurd (other refl)
    some (x ∷ v) other = omega arith

    positive : 0 < last
    positive = not_root (node_at at) (length at) placed_stored.trie last placed_within (omega (arith, some w (λ e. unclaimed.0 (inl e)), ap (λ (v : List ℕ). length v) placed_word))

    blank : (node_at at last).ends ≡ no_claim
    blank =
        ⊎_elim
        (λ (e : (node_at at last).ends ≡ no_claim). e)
        (λ (other : (node_at at last).ends ≡ no_claim → ⊥).
        let k = placed_stored.ends.only last positive placed_within other in
        let by : IsClaimedBy (claims_of (node_at at) held) w (held_at held k.0).number =
        (claimed_is (node_at at) (length at) placed_stored.trie held w (held_at held k.0).number).1 (k.0, k.1, refl, prefix_same w (word_of (node_at at) (held_at held k.0).end) (sym placed_word ∙ ap (word_of (node_at at)) (sym k.2))) in
        absurd (unclaimed.1 (held_at held k.0).number (subst (λ (l : List Claim). IsClaimedBy l w (held_at held k.0).number) placed_claims by)))
        (cases_eq (node_at at last).ends no_claim)

    pub claim_stored : IsStored (node_at now) (length now) (held ++ record { number = number; end = last } ∷ []) kept
    claim_stored = subst (λ (n : ℕ). IsStored (node_at now) n (held ++ record { number = number; end = last } ∷ []) kept) (sym long)
        (claimed_stored (node_at at) (node_at now) (length at) last number r held kept placed_stored positive placed_within blank few unheld)

    pub claim_claims : claims_of (node_at now) (held ++ record { number = number; end = last } ∷ []) ≡ claims_of (node_at was) held ++ claim_of number w ∷ []
    claim_claims =
        claimed_claims (node_at at) (node_at now) (length at) last number r held kept placed_stored placed_within
        ∙ (ap (λ (l : List Claim). l ++ claim_of number (word_of (node_at at) last) ∷ []) placed_claims
        ∙ ap (λ (v : List ℕ). claims_of (node_at was) held ++ claim_of number v ∷ []) placed_word)

module _ (at : ℕ → Node) (n : ℕ) (held : List Held) (kept : List KeptAnswer) (s : IsStored at n held kept) (number : ℕ) where
  -- a number that is in use is held
  pub held_used : ¬ IsUnused (claims_of at held) number → IsHeld held number
  held_used used =
      ⊎_elim
      (λ (r : IsHeld held number). r)
      (λ (none : (k : ℕ) → k < length held → (held_at held k).number ≢ number).
      absurd (used (λ k lt e.
      let within : k < length held = omega (arith, lt, length-map held (λ (h : Held). let c : Claim = record { number = h.number; word = word_of at h.end } in c)) in
      none k within (ap (λ (c : Claim). c.number) (sym (claim_is at n s.trie held k within)) ∙ e))))
      (look_held number held)

  pub held_claim : (word : List ℕ) → IsClaimOf (claims_of at held) number word → IsHeld held number
  held_claim word c =
      let within : c.0 < length held = omega (arith, c.1, length-map held (λ (h : Held). let k : Claim = record { number = h.number; word = word_of at h.end } in k)) in
      (c.0, within, ap (λ (k : Claim). k.number) (sym (claim_is at n s.trie held c.0 within)) ∙ c.2)

  pub end_within : (end : ℕ) → IsEndOf held number end → end < n
  end_within end e = subst (λ (k : ℕ). k < n) e.3 (s.ends.within e.0 e.1).1

  -- the node of a claimed word
  pub claim_word : (word : List ℕ) (end : ℕ) → IsClaimOf (claims_of at held) number word → IsEndOf held number end → word_of at end ≡ word
  claim_word word end c e =
      let within : c.0 < length held = omega (arith, c.1, length-map held (λ (h : Held). let k : Claim = record { number = h.number; word = word_of at h.end } in k)) in
      let is = claim_is at n s.trie held c.0 within in
      let same : e.0 ≡ c.0 = one e.0 c.0 e.1 within (e.2 ∙ sym (ap (λ (k : Claim). k.number) (sym is) ∙ c.2)) in
      ap (word_of at) (sym e.3) ∙ (ap (λ (k : ℕ). word_of at (held_at held k).end) same ∙ (ap (λ (k : Claim). k.word) (sym is) ∙ c.3))
    where
      one : (k l : ℕ) → k < length held → l < length held → (held_at held k).number ≡ (held_at held l).number → k ≡ l
      one k l lk ll same =
          ⊎_elim
          (λ (is : k ≡ l). is)
          (λ (o : (k < l) ⊎ (l < k)). ⊎_elim
          (λ (before : k < l). absurd (s.ends.once k l before ll same))
          (λ (after : l < k). absurd (s.ends.once l k after lk (sym same)))
          o)
          (cases_order k l)

-- the answer to a claimed word, before the claim is given up
module _ (was at : List Node) (held : List Held) (kept : List KeptAnswer) (s : IsStored (node_at was) (length was) held kept) (few : length kept < no_answer) (new : KeptAnswer) (long : length new.outs ≡ length new.word)
    (answer : ℕ) (number : answer ≡ length kept) (end : ℕ) (within : end < length was) (word : word_of (node_at was) end ≡ new.word) (same_long : length at ≡ length was) where
  few_answers : length (answers_of kept) ≤ no_answer
  few_answers = omega (arith, few, kept_count kept)

  fill_clear : AreMarked (node_at was) (node_at at) (length was) new.word new.outs answer 0 → ComparedTo (node_at was) (length was) new.word new.outs 0 None → IsKeptMade was at held kept new (Ok tt)
  fill_clear marks agree =
      record {
        stored = subst (λ (n : ℕ). IsStored (node_at at) n held (kept ++ new ∷ [])) (sym same_long) (marked_stored (node_at was) (node_at at) (length was) held kept s (omega (arith, few)) new long answer number end within word marks agree);
        claims = marked_claims (node_at was) (node_at at) (length was) held kept s (omega (arith, few)) new long answer number end within word marks agree;
        ok = subst (λ (n : ℕ). IsClearAfter (answers_of kept) n (answer_of new)) (kept_count kept) (unclashed (node_at was) (length was) s.trie (answers_of kept) s.answered few_answers (answer_of new) agree);
        err = tt;
        known = tt;
      }

  fill_clash : (first place : ℕ) → at ≡ was → ComparedTo (node_at was) (length was) new.word new.outs 0 (Some (first, place)) → IsKeptMade was at held kept new (Err (record { first = first; second = answer; place = place }))
  fill_clash first place same found =
      let unclear = clash_unclear (node_at was) (length was) s.trie (answers_of kept) s.answered few_answers (answer_of new) first place s.whole long found in
      let clash = clashes (node_at was) (length was) s.trie (answers_of kept) s.answered few_answers (answer_of new) first place s.whole long found in
      record {
        stored = subst (λ (l : List Node). IsStored (node_at l) (length l) held (kept ++ new ∷ [])) (sym same) (clashed_stored (node_at was) (length was) held kept new s long unclear);
        claims = ap (λ (l : List Node). claims_of (node_at l) held) same;
        ok = tt;
        err = record { second = number ∙ sym (kept_count kept); clear = clash.clear; here = clash.here; place = clash.place; first = clash.first };
        known = clashed_known kept new unclear;
      }

  fill_by : (found : Option (ℕ × ℕ)) (result : Result ⊤ Clash) → ComparedTo (node_at was) (length was) new.word new.outs 0 found
      → MatchOption found (AreMarked (node_at was) (node_at at) (length was) new.word new.outs answer 0) (λ _. at ≡ was)
      → IfNone found (IsOk result) → IfSome found (λ f. result ≡ Err (record { first = f.0; second = answer; place = f.1 })) → IsKeptMade was at held kept new result
  fill_by None (Ok u) compared told is clash = fill_clear told compared
  fill_by None (Err e) compared told is clash = absurd (false≢true is)
  fill_by (Some f) result compared told is clash = subst (IsKeptMade was at held kept new) (sym clash) (fill_clash f.0 f.1 told compared)

  pub fill_made : (found : Option (ℕ × ℕ)) (result : Result ⊤ Clash) → ComparedTo (node_at was) (length was) (word_of (node_at was) end) new.outs 0 found
      → MatchOption found (AreMarked (node_at was) (node_at at) (length was) (word_of (node_at was) end) new.outs answer 0) (λ _. at ≡ was)
      → IfNone found (IsOk result) → IfSome found (λ f. result ≡ Err (record { first = f.0; second = answer; place = f.1 })) → IsKeptMade was at held kept new result
  fill_made found result compared told =
      fill_by found result (subst (λ (w : List ℕ). ComparedTo (node_at was) (length was) w new.outs 0 found) word compared)
      (subst (λ (w : List ℕ). MatchOption found (AreMarked (node_at was) (node_at at) (length was) w new.outs answer 0) (λ _. at ≡ was)) word told)

  -- whatever is answered, the nodes stand for the longer list
  pub fill_stored : (found : Option (ℕ × ℕ)) → ComparedTo (node_at was) (length was) (word_of (node_at was) end) new.outs 0 found
      → MatchOption found (AreMarked (node_at was) (node_at at) (length was) (word_of (node_at was) end) new.outs answer 0) (λ _. at ≡ was) → IsStored (node_at at) (length at) held (kept ++ new ∷ [])
  fill_stored None compared told = (fill_made None (Ok tt) compared told refl tt).stored
  fill_stored (Some f) compared told = (fill_made (Some f) (Err (record { first = f.0; second = answer; place = f.1 })) compared told tt refl).stored

-- a claim is given up
module _ (was at : List Node) (held : List Held) (kept : List KeptAnswer) (s : IsStored (node_at was) (length was) held kept) (number end : ℕ) (is_end : IsEndOf held number end) (r : IsReclaimed (node_at was) (node_at at) (length was) end no_claim) (same_long : length at ≡ length was) where
  pub release_stored : IsStored (node_at at) (length at) (without_held number held) kept
  release_stored = subst (λ (n : ℕ). IsStored (node_at at) n (without_held number held) kept) (sym same_long) (released_stored (node_at was) (node_at at) (length was) end no_claim r held kept s number is_end refl)

  pub release_claims : claims_of (node_at at) (without_held number held) ≡ without_claim number (claims_of (node_at was) held)
  release_claims = released_claims (node_at was) (node_at at) (length was) end no_claim r held kept s number is_end refl
