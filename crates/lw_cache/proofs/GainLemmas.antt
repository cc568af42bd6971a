-- What one more answer makes known, and what it leaves.
use Rattle.std.proofs.Common.{◌≡◌, ℕ, inr, List, [], ◌∷◌, ◌++◌, length, ap, sym, subst, arith}
use Rattle.std.proofs.lemmas.List.{get_or_default, length_push, map_push}
use Rattle.std.proofs.lemmas.List.Quantifiers.{all_pairs_push}
use Rattle.lw_words.specs.Word.{Answer, answer_at, answer_of, answers_of}
use Rattle.lw_words.specs.declared.kept.KeptAnswer.{KeptAnswer}
use Rattle.lw_cache.specs.Clash.{Clash, NothingClashes, IsClearAfter}
use Rattle.lw_cache.specs.Known.{IsKnown}
use Rattle.lw_cache.proofs.AnswerLemmas.{at_last}
use Rattle.lw_cache.proofs.ClashLemmas.{all_are_clear, unclashed_after}
use Rattle.lw_cache.proofs.GrowLemmas.{after_stays, reads_stay}
use Rattle.lw_cache.proofs.KnownLemmas.{known_is_read}
use Rattle.lw_cache.proofs.StoredLemmas.{prefix_same}

-- an answer that is clear makes its word known, and brings no clash
pub known_new : (kept : List KeptAnswer) (k : KeptAnswer) → IsClearAfter (answers_of kept) (length kept) (answer_of k) → length (answers_of kept) ≡ length kept → IsKnown (answers_of (kept ++ k ∷ [])) k.word
known_new kept k clear size =
    subst (λ (l : List Answer). IsKnown l k.word) (sym (map_push answer_of kept k))
    (inr (
      length (answers_of kept),
      (
        omega (arith, length_push (answers_of kept) (answer_of k)),
        subst (λ (a : Answer). IsClearAfter (answers_of kept ++ answer_of k ∷ []) (length (answers_of kept)) a) (sym (at_last (answers_of kept) (answer_of k)))
            ((after_stays (answers_of kept) (answer_of k ∷ []) (length (answers_of kept)) (answer_of k) (omega arith)).1 (subst (λ (n : ℕ). IsClearAfter (answers_of kept) n (answer_of k)) (sym size) clear)),
      ),
      prefix_same k.word (answer_at (answers_of kept ++ answer_of k ∷ []) (length (answers_of kept))).word (ap (λ (a : Answer). a.word) (sym (at_last (answers_of kept) (answer_of k)))),
    ))

pub nothing_more : (kept : List KeptAnswer) (k : KeptAnswer) → IsClearAfter (answers_of kept) (length kept) (answer_of k) → length (answers_of kept) ≡ length kept → NothingClashes (answers_of kept) → NothingClashes (answers_of (kept ++ k ∷ []))
nothing_more kept k clear size nothing =
    subst NothingClashes (sym (map_push answer_of kept k))
    (all_pairs_push (λ a b. ¬ Clash a b) (answers_of kept) (answer_of k) nothing (λ i d lt.
    subst (λ (a : Answer). ¬ Clash a (answer_of k)) (get_or_default (answers_of kept) i (record { word = []; outs = [] }) d lt)
    (unclashed_after (answers_of kept) (length kept) (answer_of k) clear i (omega (arith, lt, size)) (all_are_clear (answers_of kept) nothing i lt))))

pub known_stays : (kept : List KeptAnswer) (k : KeptAnswer) (w : List ℕ) → IsKnown (answers_of kept) w → IsKnown (answers_of (kept ++ k ∷ [])) w
known_stays kept k w known =
    let r = (known_is_read (answers_of kept) w).0 known in
    subst (λ (l : List Answer). IsKnown l w) (sym (map_push answer_of kept k)) ((known_is_read (answers_of kept ++ answer_of k ∷ []) w).1 (r.0, reads_stay (answers_of kept) (answer_of k ∷ []) w r.0 r.1))
