-- What comes of an answer that is kept, as contracts see it.
use Rattle.std.proofs.Common.{◌≡◌, ℕ, ◌<◌, ◌≤◌, List, [], ◌∷◌, ◌++◌, length, Option, Some, None, Result, Ok, Err, IfNone, IfSome, IfErr, OnOk, OnErr, IsOk, MatchOption, ap, sym, ◌∙◌, subst, arith}
use Rattle.std.specs.Bool.{⊤}
use Rattle.std.proofs.lemmas.Bool.{false≢true}
use Rattle.lw_words.specs.Word.{answer_of, answers_of}
use Rattle.lw_words.specs.declared.kept.KeptAnswer.{KeptAnswer}
use Rattle.lw_cache.specs.Caching.{Caching}
use Rattle.lw_cache.specs.Clash.{IsClearAfter}
use Rattle.lw_cache.specs.FirstClash.{ClashesFirst, SameKnown}
use Rattle.lw_cache.specs.bodies.Trie.{node_at, claims_of, no_answer, IsStored}
use Rattle.lw_cache.specs.bodies.Filling.{ComparedTo, IsTold}
use Rattle.lw_cache.specs.declared.node.Node.{Node}
use Rattle.lw_cache.specs.declared.node.Held.{Held}
use Rattle.lw_cache.specs.declared.stops.Clash.{Clash}
use Rattle.lw_cache.proofs.AnswerLemmas.{unclashed, clashes, clash_unclear}
use Rattle.lw_cache.proofs.PlainLemmas.{kept_count}
use Rattle.lw_cache.proofs.ToldLemmas.{told_stored, told_claims, clashed_stored, clashed_known}

-- all that a new answer leaves, with what it is answered
pub record IsKeptMade (was at : List Node) (held : List Held) (kept : List KeptAnswer) (new : KeptAnswer) (result : Result ⊤ Clash) : Type 0 where
  pub stored : IsStored (node_at at) (length at) held (kept ++ new ∷ [])
  pub claims : claims_of (node_at at) held ≡ claims_of (node_at was) held
  pub ok : OnOk result (IsClearAfter (answers_of kept) (length kept) (answer_of new))
  pub err : IfErr result (ClashesFirst (answers_of kept) (answer_of new))
  pub known : OnErr result (SameKnown (answers_of kept) (answers_of (kept ++ new ∷ [])))

module _ (was at : List Node) (held : List Held) (kept : List KeptAnswer) (s : IsStored (node_at was) (length was) held kept) (few : length kept < no_answer) (new : KeptAnswer) (long : length new.outs ≡ length new.word)
    (answer : ℕ) (number : answer ≡ length kept) where
  few_answers : length (answers_of kept) ≤ no_answer
  few_answers = omega (arith, few, kept_count kept)

  made_clear : IsTold was at new.word new.outs answer → ComparedTo (node_at was) (length was) new.word new.outs 0 None → IsKeptMade was at held kept new (Ok tt)
  made_clear told agree =
      record {
        stored = told_stored was at held kept s (omega (arith, few)) new long answer number told agree;
        claims = told_claims was at held kept s (omega (arith, few)) new long answer number told agree;
        ok = subst (λ (n : ℕ). IsClearAfter (answers_of kept) n (answer_of new)) (kept_count kept) (unclashed (node_at was) (length was) s.trie (answers_of kept) s.answered few_answers (answer_of new) agree);
        err = tt;
        known = tt;
      }

  made_clash : (first place : ℕ) → at ≡ was → ComparedTo (node_at was) (length was) new.word new.outs 0 (Some (first, place)) → IsKeptMade was at held kept new (Err (record { first = first; second = answer; place = place }))
  made_clash first place same found =
      let unclear = clash_unclear (node_at was) (length was) s.trie (answers_of kept) s.answered few_answers (answer_of new) first place s.whole long found in
      let clash = clashes (node_at was) (length was) s.trie (answers_of kept) s.answered few_answers (answer_of new) first place s.whole long found in
      record {
        stored = subst (λ (l : List Node). IsStored (node_at l) (length l) held (kept ++ new ∷ [])) (sym same) (clashed_stored (node_at was) (length was) held kept new s long unclear);
        claims = ap (λ (l : List Node). claims_of (node_at l) held) same;
        ok = tt;
        err = record { second = number ∙ sym (kept_count kept); clear = clash.clear; here = clash.here; place = clash.place; first = clash.first };
        known = clashed_known kept new unclear;
      }

  pub kept_made : (found : Option (ℕ × ℕ)) (result : Result ⊤ Clash) → ComparedTo (node_at was) (length was) new.word new.outs 0 found
      → MatchOption found (IsTold was at new.word new.outs answer) (λ _. at ≡ was)
      → IfNone found (IsOk result) → IfSome found (λ f. result ≡ Err (record { first = f.0; second = answer; place = f.1 })) → IsKeptMade was at held kept new result
  kept_made None (Ok u) compared told is clash = made_clear told compared
  kept_made None (Err e) compared told is clash = absurd (false≢true is)
  kept_made (Some f) result compared told is clash = subst (IsKeptMade was at held kept new) (sym clash) (made_clash f.0 f.1 told compared)

-- the same, of what contracts see
module _ (nodes at : List Node) (held : List Held) (kept : List KeptAnswer) (words letters : ℕ) (v : Caching)
    (view : record { kept = kept; claims = claims_of (node_at nodes) held; words = words; letters = letters } ≡ v) (new : KeptAnswer) (result : Result ⊤ Clash) (k : IsKeptMade nodes at held kept new result) where
  same_kept : kept ≡ v.kept
  same_kept = ap (λ (c : Caching). c.kept) view

  pub see_claims : claims_of (node_at at) held ≡ v.claims
  see_claims = k.claims ∙ ap (λ (c : Caching). c.claims) view

  pub see_ok : OnOk result (IsClearAfter (answers_of v.kept) (length v.kept) (answer_of new))
  see_ok = subst (λ (l : List KeptAnswer). OnOk result (IsClearAfter (answers_of l) (length l) (answer_of new))) same_kept k.ok

  pub see_err : IfErr result (ClashesFirst (answers_of v.kept) (answer_of new))
  see_err = subst (λ (l : List KeptAnswer). IfErr result (ClashesFirst (answers_of l) (answer_of new))) same_kept k.err

  pub see_known : (now : List KeptAnswer) → now ≡ kept ++ new ∷ [] → OnErr result (SameKnown (answers_of v.kept) (answers_of now))
  see_known now is = subst (λ (l : List KeptAnswer). OnErr result (SameKnown (answers_of v.kept) (answers_of l))) (sym is) (subst (λ (l : List KeptAnswer). OnErr result (SameKnown (answers_of l) (answers_of (kept ++ new ∷ [])))) same_kept k.known)
